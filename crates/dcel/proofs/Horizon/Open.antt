-- Between attaching a vertex outside and closing the last ear: what holds of the grown mesh, by the old one.
use Rattle.std.proofs.Common.{◌≡◌, ℕ, ◌<◌, ◌≤◌, true, false, ◌≢◌, ◌⊎◌, neg_ℤ, sym, ap, ◌∙◌, inl, inr, arith}
use Rattle.std.proofs.lemmas.Int.{ints}
use Rattle.exact.specs.Plane.{Point}
use Rattle.exact.proofs.Algebra.Signs.{Sign, ◌by◌, clash_zero}
use Rattle.exact.proofs.Geometry.Words.{orient, Orient}
use Rattle.exact.proofs.Geometry.Identities.Sides.{start_on, end_on, swap}
use Rattle.dcel.specs.Map.{Map, twin}
use Rattle.dcel.specs.Mesh.{Sound}
use Rattle.dcel.specs.Surgery.{Outer}
use Rattle.dcel.specs.Geometry.{from, to}
use Rattle.dcel.proofs.Neighbours.{not_itself}
use Rattle.dcel.proofs.Horizon.Grown.{Grown}
use Rattle.dcel.proofs.Horizon.Covered.{Covered}
use Rattle.dcel.proofs.Placed.{Placed, site, start, stop}
use Rattle.dcel.proofs.Horizon.Rim.{Seen, p}

-- The new vertex p = m₀.vertices covers old outer half edges, of which `first` and `last` are the first and the last; of the outer half edges now, a goes from the beginning of the first to p, and b from p to the end of the last.
pub record Open (pos : ℕ → Point) (m₀ m : Map) (a b : ℕ) : Type 0 where
  pub grown : Grown pos m₀ m
  pub in_a : a < m.half_edges
  pub in_b : b < m.half_edges
  pub new_a : m₀.half_edges ≤ a
  pub new_b : m₀.half_edges ≤ b
  pub outer_a : m.face a ≡ 0
  pub outer_b : m.face b ≡ 0
  pub a_then_b : m.next a ≡ b
  pub at_p : m.origin b ≡ m₀.vertices
  pub first : ℕ
  pub last : ℕ
  pub first_covered : Covered pos m₀ m first
  pub last_covered : Covered pos m₀ m last
  pub from_first : m.origin a ≡ m₀.origin first
  pub to_last : m.origin (twin b) ≡ m₀.origin (twin last)
  pub before_first : m.prev a ≡ m₀.prev first
  pub after_last : m.next b ≡ m₀.next last
  -- what else is outer was so, and is followed by what followed it
  pub others : (x : ℕ) → x < m.half_edges → m.face x ≡ 0 → (x ≡ a) ⊎ ((x ≡ b) ⊎ Outer m₀ x)
  pub follows : (x : ℕ) → x < m₀.half_edges → m.face x ≡ 0 → x ≢ m.prev a → m.next x ≡ m₀.next x
  -- p is strictly left of the line from the first to the last, and what it sees begins outside the cone over them
  pub wide : Sign true (orient (from pos m₀ first) (to pos m₀ last) (pos m₀.vertices))
  pub cone : (x : ℕ) → Outer m₀ x → m.face x ≡ 0 → Seen pos m₀ x m₀.vertices →
      Sign false (orient (pos m₀.vertices) (from pos m₀ first) (from pos m₀ x)) → Sign true (neg_ℤ (orient (pos m₀.vertices) (to pos m₀ last) (from pos m₀ x))) → ⊥

module _ {pos : ℕ → Point} {m₀ m : Map} {a b : ℕ} (B : Placed pos m₀) (S : Sound m) (O : Open pos m₀ m a b) where
  abbrev origins : (x : ℕ) → x < m₀.half_edges → m.origin x ≡ m₀.origin x
  origins = O.grown.origin_old

  pub prev_b : m.prev b ≡ a
  prev_b = sym (ap m.prev O.a_then_b) ∙ S.prev_next a O.in_a

  pub a_not_b : a ≢ b
  a_not_b q = not_itself m S a O.in_a (O.a_then_b ∙ sym q)

  pub end_a : m.origin (twin a) ≡ m₀.vertices
  end_a = sym (S.origin_next a O.in_a) ∙ ap m.origin O.a_then_b ∙ O.at_p

  -- the places of an old half edge are what they were
  pub seen_old : (x : ℕ) → Outer m₀ x → Seen pos m x m₀.vertices → Seen pos m₀ x m₀.vertices
  seen_old x o h =
      let q = origins x o.in_e in let r = origins (twin x) (B.mesh.sound.twin_in x o.in_e) in
      h by (λ i. orient (pos (sym q i)) (pos (sym r i)) (pos m₀.vertices))

  -- what p sees is neither a nor b
  pub seen_outer : (x : ℕ) → x < m.half_edges → m.face x ≡ 0 → Seen pos m x m₀.vertices → Outer m₀ x
  seen_outer x h z s = elim (O.others x h z) [
    | inl q ↦ absurd (clash_zero s ((λ i. orient (pos (m.origin (q i))) (pos ((ap (λ (y : ℕ). m.origin (twin y)) q ∙ end_a) i)) (pos m₀.vertices)) ∙ end_on (site B (m.origin a)) (p B)))
    | inr r ↦ elim r [
      | inl q ↦ absurd (clash_zero s ((λ i. orient (pos ((ap m.origin q ∙ O.at_p) i)) (pos (m.origin (twin (q i)))) (pos m₀.vertices)) ∙ start_on (p B) (site B (m.origin (twin b)))))
      | inr o ↦ o
    ]
  ]

  -- what is seen does not go from the last back to the first
  pub not_across : (x : ℕ) → x < m.half_edges → m.next b ≡ x → m.next x ≡ a → Seen pos m x m₀.vertices → ⊥
  not_across x h q r s =
      let u : m.origin x ≡ m₀.origin (twin O.last) = sym (ap m.origin q) ∙ S.origin_next b O.in_b ∙ O.to_last in
      let v : m.origin (twin x) ≡ m₀.origin O.first = sym (S.origin_next x h) ∙ ap m.origin r ∙ O.from_first in
      let k : Sign true (Orient (stop B O.last) (start B O.first) (p B)) = s by (λ i. orient (pos (sym u i)) (pos (sym v i)) (pos m₀.vertices)) in
      omega (arith, ints, O.wide, swap (stop B O.last) (start B O.first) (p B))
