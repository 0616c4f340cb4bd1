-- The test `on_a_line` of a list of vertices, by signs.
use Rattle.std.proofs.Common.{◌≡◌, ℕ, zero, suc, ◌<◌, ◌≤◌, true, false, ◌⊎◌, List, [], ◌∷◌, length, pos, neg_ℤ, sym, refl, subst, inl, inr, true≢false, arith}
use Rattle.exact.specs.Plane.{Point, Vertex, vertex_at, spot, on_a_line, in_line}
use Rattle.exact.proofs.Booleans.{true_false}
use Rattle.exact.proofs.Lists.{every→, every←, every_false→}
use Rattle.exact.proofs.Vertices.{vertex_in, vertex_number}
use Rattle.exact.proofs.Algebra.Signs.{Sign, split, split_below, is_zero}
use Rattle.exact.proofs.Geometry.Words.{orient}
use Rattle.exact.proofs.Geometry.Identities.Sides.{start_on, end_on}
use Rattle.exact.proofs.Geometry.Tests.{in_line→, in_line←}

-- all are on the line of the first two
pub on_a_line→ : (vs : List Vertex) → ((i : ℕ) → (spot vs i).w ≡ 1) → on_a_line vs ≡ true → 2 ≤ length vs → (k : ℕ) → k < length vs → orient (spot vs 0) (spot vs 1) (spot vs k) ≡ pos 0
unfolding on_a_line vertex_at
on_a_line→ [] ones e l k m = absurd (omega arith)
on_a_line→ (v ∷ []) ones e l k m = absurd (omega arith)
on_a_line→ (v ∷ u ∷ vs) ones e l zero m = start_on (record { at = v.at; whole = ones 0 }) (record { at = u.at; whole = ones 1 })
on_a_line→ (v ∷ u ∷ vs) ones e l (suc zero) m = end_on (record { at = v.at; whole = ones 0 }) (record { at = u.at; whole = ones 1 })
on_a_line→ (v ∷ u ∷ vs) ones e l (suc (suc k)) m = in_line→ v.at u.at (spot vs k) (every→ (λ t. in_line v.at u.at t.at) vs e (vertex_at vs k) (vertex_in vs k (omega arith)))

pub on_a_line← : (vs : List Vertex) → ((k : ℕ) → k < length vs → orient (spot vs 0) (spot vs 1) (spot vs k) ≡ pos 0) → on_a_line vs ≡ true
unfolding on_a_line vertex_at
on_a_line← [] h = refl
on_a_line← (v ∷ []) h = refl
on_a_line← (v ∷ u ∷ vs) h = every← (λ t. in_line v.at u.at t.at) vs (λ t i.
    let r = vertex_number vs t i in
    subst (λ (s : Vertex). in_line v.at u.at s.at ≡ true) r.2 (in_line← v.at u.at (spot vs r.0) (h (suc (suc r.0)) (omega (arith, r.1)))))

-- one is beside it
pub off_line : (vs : List Vertex) → on_a_line vs ≡ false →
    (k : ℕ) × (k < length vs) × (1 < length vs) × (Sign true (orient (spot vs 0) (spot vs 1) (spot vs k)) ⊎ Sign true (neg_ℤ (orient (spot vs 0) (spot vs 1) (spot vs k))))
unfolding on_a_line vertex_at
off_line [] h = absurd (true≢false h)
off_line (v ∷ []) h = absurd (true≢false h)
off_line (v ∷ u ∷ vs) h =
    let r = every_false→ (λ t. in_line v.at u.at t.at) vs h in
    let k = vertex_number vs r.0 r.1 in
    (suc (suc k.0), omega (arith, k.1), omega arith, beside (spot vs k.0) (subst (λ (t : Vertex). in_line v.at u.at t.at ≡ false) (sym k.2) r.2))
  where
    beside : (p : Point) → in_line v.at u.at p ≡ false → Sign true (orient v.at u.at p) ⊎ Sign true (neg_ℤ (orient v.at u.at p))
    beside p e = elim (split (orient v.at u.at p)) [
      | inl s ↦ inl s
      | inr s ↦ elim (split_below (orient v.at u.at p)) [
        | inr t ↦ inr t
        | inl t ↦ absurd (true_false (in_line v.at u.at p) (in_line← v.at u.at p (is_zero t s)) e)
      ]
    ]
