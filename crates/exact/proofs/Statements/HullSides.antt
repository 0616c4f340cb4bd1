-- The upper and the lower hull: where no triangle rises at m, m is on the hull; and at a vertex of the hull none rises, or none does upside down.
use Rattle.std.proofs.Common.{◌≡◌, ℕ, zero, suc, ◌<◌, true, false, eqb, ◌⊎◌, List, length, ◌+ℤ◌, ◌-ℤ◌, ◌*ℤ◌, neg_ℤ, sym, ap, ◌∙◌, subst, inl, inr, arith}
use Rattle.exact.specs.Plane.{Vertex, Tri, on_a_line}
use Rattle.std.proofs.lemmas.Bool.{cases_Bool, false_from_ne_true, eqb-true, eqb-false}
use Rattle.exact.proofs.Booleans.{true_false}
use Rattle.exact.proofs.Vertices.{site, rot_next}
use Rattle.exact.proofs.Algebra.Signs.{Sign, split, clash, clash_zero, weak, zero_sign_neg}
use Rattle.exact.proofs.Geometry.Words.{Site, Orient, Left, LeftOn, RightOn, signs}
use Rattle.exact.proofs.Geometry.Identities.Sides.{start_on, end_on}
use Rattle.exact.proofs.Geometry.Faces.{rot_left, rot_below}
use Rattle.exact.proofs.Geometry.Levels.{Rise, level_turn, higher_right}
use Rattle.exact.proofs.Statements.Words.{on_hull}
use Rattle.exact.proofs.Statements.Tilings.{ProperTiling}
use Rattle.exact.proofs.Statements.Heights.{Heights, height, Above, above_either, above_different, upside_down, above_down, down_above}
use Rattle.exact.proofs.Statements.Rising.{RisingAt, rising}
use Rattle.exact.proofs.Statements.MiddleCorners.{has_rising?, has_rising→, has_rising←}
use Rattle.exact.proofs.Statements.HullEdges.{hull_from, hull_to}

below_suc : {A : ℕ → Type 0} (n z : ℕ) → z < suc n → ((k : ℕ) → k < n → A k) → A n → A z
below_suc {A} n z l f a = elim (cases_Bool (eqb z n)) [ inl e ↦ subst A (sym (eqb-true z n e)) a | inr e ↦ f z (omega (arith, eqb-false z n e)) ]

module _ (vs : List Vertex) (ts : List Tri) (T : ProperTiling vs ts) (off : on_a_line vs ≡ false) (up : Heights vs) where
  abbrev P : ℕ → Site
  P i = site vs T.ones i

  -- an edge of the hull that comes to m from above: no triangle rises at m
  none_rises : (m j : ℕ) → ((z : ℕ) → z < length vs → LeftOn (P j) (P m) (P z)) → Above vs up j m → RisingAt vs ts up m → ⊥
  none_rises m j all hj w =
      let g = w.high in let h = w.low in let t = w.tri in let gt = T.triangle t w.here in let ρ = rot_next t m g h w.turned in
      let mgh : Left (P m) (P g) (P h) = rot_left vs t T.ones m g h w.turned gt in
      let jmg : LeftOn (P j) (P m) (P g) = all g (rot_below vs t g h m ρ gt) in
      let jmh : LeftOn (P j) (P m) (P h) = all h (rot_below vs t h m g (rot_next t g h m ρ) gt) in
      let hg : Sign true (Rise up.u up.v (P m) (P g)) = w.above in let hh : Sign true (Rise up.u up.v (P h) (P m)) = w.below in
      let hj₁ : Sign true (Rise up.u up.v (P m) (P j)) = hj in
      let s : Sign true (Rise up.u up.v (P m) (P j) *ℤ Orient (P m) (P g) (P h) +ℤ Rise up.u up.v (P m) (P g) *ℤ Orient (P j) (P m) (P h) +ℤ Rise up.u up.v (P h) (P m) *ℤ Orient (P j) (P m) (P g)) = search signs in
      clash_zero s (level_turn up.u up.v (P m) (P j) (P g) (P h))

  -- of the vertices above m below n, the one most to the left
  abbrev NoneAbove : ℕ → ℕ → Type 0
  NoneAbove m n = (z : ℕ) → z < n → Above vs up z m → ⊥

  abbrev MostLeft : ℕ → ℕ → Type 0
  MostLeft m n = (h : ℕ) × (h < n) × Above vs up h m × ((z : ℕ) → z < n → Above vs up z m → RightOn (P m) (P h) (P z))

  most_left : (m n : ℕ) → NoneAbove m n ⊎ MostLeft m n
  most_left m zero = inl (λ z l h. omega arith)
  most_left m (suc n) = go (most_left m n) (split (height vs up n -ℤ height vs up m))
    where
      at_end : RightOn (P m) (P n) (P n)
      at_end = zero_sign_neg (Orient (P m) (P n) (P n)) (end_on (P m) (P n))

      go : NoneAbove m n ⊎ MostLeft m n → Above vs up n m ⊎ Sign false (neg_ℤ (height vs up n -ℤ height vs up m)) → NoneAbove m (suc n) ⊎ MostLeft m (suc n)
      go (inl f) (inr s) = inl (λ z l. below_suc {A = λ z. Above vs up z m → ⊥} n z l f (λ h. clash h s))
      go (inl f) (inl s) = inr (n, omega arith, s, λ z l. below_suc {A = λ z. Above vs up z m → RightOn (P m) (P n) (P z)} n z l (λ z k h. absurd (f z k h)) (λ h. at_end))
      go (inr f) (inr s) = inr (f.0, omega (arith, f.1), f.2, λ z l. below_suc {A = λ z. Above vs up z m → RightOn (P m) (P f.0) (P z)} n z l f.3 (λ h. absurd (clash h s)))
      go (inr f) (inl s) = elim (split (Orient (P m) (P f.0) (P n))) [
        | inr k ↦ inr (f.0, omega (arith, f.1), f.2, λ z l. below_suc {A = λ z. Above vs up z m → RightOn (P m) (P f.0) (P z)} n z l f.3 (λ h. k))
        | inl k ↦ inr (
          n,
          omega arith,
          s,
          λ z l. below_suc {A = λ z. Above vs up z m → RightOn (P m) (P n) (P z)} n z l
              (λ z j h. higher_right up.u up.v (P m) (P f.0) (P n) (P z) f.2 s h (f.3 z j h) (weak k)) (λ h. at_end),
        )
      ]

  -- with some above m, and no two above and below it that turn left with it, m is on the hull
  tangent : (m : ℕ) → m < length vs → MostLeft m (length vs) → ((h z : ℕ) → h < length vs → z < length vs → Above vs up h m → Above vs up m z → Left (P m) (P h) (P z) → ⊥) → on_hull vs ts m ≡ true
  tangent m below f none = hull_from vs ts T off m h below f.1 (above_different vs up h m f.2) right
    where
      h : ℕ
      h = f.0

      right : (z : ℕ) → z < length vs → RightOn (P m) (P h) (P z)
      right z l = elim (cases_Bool (eqb z m)) [
        | inl e ↦ zero_sign_neg (Orient (P m) (P h) (P z)) (ap (λ (i : ℕ). Orient (P m) (P h) (P i)) (eqb-true z m e) ∙ start_on (P m) (P h))
        | inr e ↦ elim (above_either vs up z m l below (eqb-false z m e)) [
          | inl a ↦ f.3 z l a
          | inr a ↦ elim (split (Orient (P m) (P h) (P z))) [ inl s ↦ absurd (none h z f.1 l f.2 a s) | inr s ↦ s ]
        ]
      ]

module _ (vs : List Vertex) (ts : List Tri) (T : ProperTiling vs ts) (off : on_a_line vs ≡ false) (up : Heights vs) where
  pub none_rises_hull : (m z : ℕ) → m < length vs → z < length vs → ¬ (z ≡ m) → has_rising? vs up ts m ≡ false → on_hull vs ts m ≡ true
  none_rises_hull m z l lz ne none = elim (most_left vs ts T off up m (length vs)) [
    | inr f ↦ tangent vs ts T off up m l f (λ h k lh lk hh hk s. true_false (has_rising? vs up ts m) (has_rising← vs up ts m (rising vs ts T up m h k l lh lk hh hk s)) none)
    | inl f ↦ elim (most_left vs ts T off (upside_down vs up) m (length vs)) [
      | inr k ↦ tangent vs ts T off (upside_down vs up) m l k (λ h i lh li hh hi s. f i li (down_above vs up m i hi))
      | inl k ↦ elim (above_either vs up z m lz l ne) [ inl a ↦ absurd (f z lz a) | inr a ↦ absurd (k z lz (above_down vs up m z a)) ]
    ]
  ]

  pub hull_none_rises : (m : ℕ) → m < length vs → on_hull vs ts m ≡ true → (has_rising? vs up ts m ≡ false) ⊎ (has_rising? vs (upside_down vs up) ts m ≡ false)
  hull_none_rises m l h =
      let e = hull_to vs ts T off m h in let j = e.0 in
      elim (above_either vs up j m e.1 l e.2) [
        | inl a ↦ inl (false_from_ne_true (has_rising? vs up ts m) (λ y. none_rises vs ts T off up m j e.3 a (has_rising→ vs up ts m y)))
        | inr a ↦ inr (false_from_ne_true (has_rising? vs (upside_down vs up) ts m) (λ y. none_rises vs ts T off (upside_down vs up) m j e.3 (above_down vs up m j a) (has_rising→ vs (upside_down vs up) ts m y)))
      ]
