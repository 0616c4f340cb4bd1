-- THE WALK: from any triangle towards a place x, always across an edge that x is strictly right of. It ends in a triangle that has x, or where the conclusion C is met.
-- It serves to locate (C: x is beyond a hull edge), to cover (no such C), and to carry a property Good of triangles to where x is.
use Rattle.std.proofs.Common.{ℕ, zero, suc, ◌<◌, true, false, ◌⊎◌, List, inl, inr, arith}
use Rattle.exact.specs.Plane.{Point}
use Rattle.exact.proofs.Algebra.Signs.{Sign}
use Rattle.exact.proofs.Geometry.Words.{W, Site}
use Rattle.exact.proofs.Walk.Edges.{Beyond, Across, InTriangleOf, Triangles, in_or_beyond}
use Rattle.exact.proofs.Walk.Measure.{measure, not_back, falls_next, falls_last}

module _ {E : Type 0} (from : E → Site) (next : E → E) (Inner Good : E → Type 0) where
  pub record Crossed (e : E) : Type 0 where
    pub to : E
    pub inner : Inner to
    pub good : Good to
    pub across : Across from next e to

  pub record Arrived (x : Point) : Type 0 where
    pub edge : E
    pub inner : Inner edge
    pub good : Good edge
    pub has : InTriangleOf from next false edge x

module _ {E : Type 0} {from : E → Site} {next : E → E} {Inner : E → Type 0} {faces : List E} {vertices : List Site} (T : Triangles from next Inner faces vertices) (x : Point) (w : Sign true (W x)) where
  module _ (C : Type 0) (Good : E → Type 0) (good_next : (e : E) → Inner e → Good e → Good (next e))
      (step : (e : E) → Inner e → Good e → Beyond from next e x → C ⊎ Crossed from next Inner Good e) where
    abbrev Ends : Type 0
    Ends = C ⊎ Arrived from next Inner Good x

    abbrev Reach : ℕ → Type 0
    Reach n = (e : E) → Inner e → Good e → Beyond from next e x → measure from next faces vertices x e < n → Ends

    onward : (n : ℕ) → Reach n → Reach (suc n)
    onward n reach e i g r m = elim (step e i g r) [
      | inl c ↦ inl c
      | inr s ↦
          let f = s.to in let j = s.inner in let j₁ = T.next_inner f j in let g₁ = good_next f j s.good in
          elim (in_or_beyond T f j x) [
            | inl h ↦ inr (record { edge = f; inner = j; good = s.good; has = h })
            | inr o ↦ elim o [
              | inl back ↦ absurd (not_back T e f i j s.across x r back)
              | inr p ↦ elim p [
                | inl q ↦ reach (next f) j₁ g₁ q (omega (arith, falls_next T e f i j s.across x w r))
                | inr q ↦ reach (next (next f)) (T.next_inner (next f) j₁) (good_next (next f) j₁ g₁) q (omega (arith, falls_last T e f i j s.across x w r))
              ]
            ]
          ]
    ]

    reach : (n : ℕ) → Reach n
    reach zero = λ e i g r m. absurd (omega arith)
    reach (suc n) = onward n (reach n)

    pub walk : (e : E) → Inner e → Good e → Ends
    walk e i g = elim (in_or_beyond T e i x) [
      | inl h ↦ inr (record { edge = e; inner = i; good = g; has = h })
      | inr o ↦ elim o [
        | inl r ↦ start e i g r
        | inr p ↦
            let i₁ = T.next_inner e i in let g₁ = good_next e i g in
            elim p [
              | inl r ↦ start (next e) i₁ g₁ r
              | inr r ↦ start (next (next e)) (T.next_inner (next e) i₁) (good_next (next e) i₁ g₁) r
            ]
      ]
    ]
      where
        start : (e : E) → Inner e → Good e → Beyond from next e x → Ends
        start e i g r = reach (suc (measure from next faces vertices x e)) e i g r (omega arith)
