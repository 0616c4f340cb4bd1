-- Some outer half edge comes back over a place strictly inside the hull. Otherwise those that begin right of the place would go round it for ever on that side, and then those that begin left of it.
use Rattle.std.proofs.Common.{◌≡◌, ℕ, ◌<◌, ◌≤◌, Bool, true, false, ◌&&◌, eqb, ℤ, neg_ℤ, sym, ◌∙◌, inl, inr, arith}
use Rattle.std.proofs.Math.IntN.{neg_ℤ-neg_ℤ}
use Rattle.exact.specs.Plane.{Point, right_of}
use Rattle.exact.proofs.Sums.{only, only_same, sum_one}
use Rattle.std.proofs.lemmas.Bool.{and_from, false_from_ne_true, eqb-true, eq-eqb, cases_lt}
use Rattle.exact.proofs.Booleans.{and_left, and_right, true_false}
use Rattle.exact.proofs.Orders.{no_ascent}
use Rattle.exact.proofs.Algebra.Signs.{Sign, ◌by◌, weak, split_below, is_zero, strict_or_zero}
use Rattle.exact.proofs.Algebra.IntegerTests.{above?, above?→, above?←, not_above?→}
use Rattle.exact.proofs.Geometry.Words.{W, Δx, Site}
use Rattle.exact.proofs.Geometry.Tests.{right→, right←}
use Rattle.exact.proofs.Geometry.Identities.Sides.{swap_place}
use Rattle.exact.proofs.Geometry.Sweep.{Before, After}
use Rattle.exact.proofs.Geometry.Crossings.{crossing←}
use Rattle.exact.proofs.Geometry.Clockwise.{Clockwise, not_right_self, clockwise_before, clockwise_after, clockwise_strict, clockwise_off_line}
use Rattle.dcel.specs.Map.{Map}
use Rattle.dcel.specs.Mesh.{Sound}
use Rattle.dcel.specs.Geometry.{from, to, Geometric}
use Rattle.dcel.proofs.Fibres.{fibre}
use Rattle.dcel.proofs.Sites.{start, stop}
use Rattle.dcel.proofs.Tiling.Balance.{back, outer_back}
use Rattle.dcel.proofs.Tiling.Hull.{InHull}

module _ {pos : ℕ → Point} {m : Map} (S : Sound m) (G : Geometric pos m) (p : Point) (w : Sign true (W p)) (inner : InHull pos m true p) where
  onward : (e : ℕ) → e < m.half_edges → m.face e ≡ 0 → Clockwise (start G e) (start G (m.next e)) p
  onward e h z = rw (S.origin_next e h) (inner e h z by sym (swap_place (stop G e) (start G e) p))

  -- no outer half edge begins on a side that `next` does not leave and where to turn clockwise is an order
  module _ (side : Point → Bool) (order : (a b c : Site) → side a.at ≡ true → side b.at ≡ true → side c.at ≡ true → Clockwise a b p → Clockwise b c p → Clockwise a c p)
      (stays : (e : ℕ) → e < m.half_edges → m.face e ≡ 0 → side (from pos m e) ≡ true → side (from pos m (m.next e)) ≡ true) where
    abbrev there : ℕ → Bool
    there e = eqb (m.face e) 0 && side (from pos m e)

    outer_there : (e : ℕ) → there e ≡ true → m.face e ≡ 0
    outer_there e h = eqb-true (m.face e) 0 (and_left (eqb (m.face e) 0) (side (from pos m e)) h)

    side_there : (e : ℕ) → there e ≡ true → side (from pos m e) ≡ true
    side_there e h = and_right (eqb (m.face e) 0) (side (from pos m e)) h

    none_there : (e : ℕ) → e < m.half_edges → there e ≡ false
    none_there = no_ascent there (λ i j. right_of (from pos m i) (from pos m j) p) (λ i. not_right_self (from pos m i) p)
        (λ i j l hi hj hl x y. right← (from pos m i) (from pos m l) p
        (order (start G i) (start G j) (start G l) (side_there i hi) (side_there j hj) (side_there l hl) (right→ (from pos m i) (from pos m j) p x) (right→ (from pos m j) (from pos m l) p y)))
        m.half_edges m.next
        (λ e h t. (
          S.next_in e h,
          and_from (eqb (m.face (m.next e)) 0) (side (from pos m (m.next e))) (eq-eqb (m.face (m.next e)) 0 (S.face_next e h ∙ outer_there e t)) (stays e h (outer_there e t) (side_there e t)),
          right← (from pos m e) (from pos m (m.next e)) p (onward e h (outer_there e t)),
        ))

    none_begins : (e : ℕ) → e < m.half_edges → m.face e ≡ 0 → side (from pos m e) ≡ false
    none_begins e h z = false_from_ne_true (side (from pos m e)) (λ k. true_false (there e) (and_from (eqb (m.face e) 0) (side (from pos m e)) (eq-eqb (m.face e) 0 z) k) (none_there e h))

  module _ (stuck : (e : ℕ) → e < m.half_edges → m.face e ≡ 0 → back pos m p e ≡ 0) where
    stays_after : (e : ℕ) → e < m.half_edges → m.face e ≡ 0 → After (start G e) p → After (start G (m.next e)) p
    stays_after e h z a = elim (split_below (Δx (to pos m e) p)) [
      | inl b ↦ absurd (omega (arith, stuck e h z, crossing← (to pos m e) (from pos m e) p b a (weak (inner e h z))))
      | inr b ↦ rw (S.origin_next e h) b
    ]

    not_after : (z : ℤ) → above? (neg_ℤ z) ≡ false → Sign false z
    not_after z e = not_above?→ (neg_ℤ z) e by sym (neg_ℤ-neg_ℤ z)

    all_before : (e : ℕ) → e < m.half_edges → m.face e ≡ 0 → Before (start G e) p
    all_before e h z = not_after (Δx (from pos m e) p) (none_begins (λ u. above? (neg_ℤ (Δx u p)))
        (λ a b c ha hb hc. clockwise_after a b c p (above?→ (neg_ℤ (Δx a.at p)) ha) (above?→ (neg_ℤ (Δx b.at p)) hb) (above?→ (neg_ℤ (Δx c.at p)) hc))
        (λ d k y a. above?← (neg_ℤ (Δx (from pos m (m.next d)) p)) (stays_after d k y (above?→ (neg_ℤ (Δx (from pos m d) p)) a))) e h z)

    stays_before : (e : ℕ) → e < m.half_edges → m.face e ≡ 0 → Sign true (Δx (from pos m e) p) → Sign true (Δx (from pos m (m.next e)) p)
    stays_before e h z b =
        let h₂ = S.next_in e h in let z₂ = S.face_next e h ∙ z in
        let h₃ = S.next_in (m.next e) h₂ in let z₃ = S.face_next (m.next e) h₂ ∙ z₂ in
        elim (strict_or_zero (Δx (from pos m (m.next e)) p) (all_before (m.next e) h₂ z₂)) [
          | inl s ↦ s
          | inr n ↦ absurd (clockwise_strict (start G e) (start G (m.next e)) (start G (m.next (m.next e))) p b (all_before (m.next (m.next e)) h₃ z₃) (onward e h z) (onward (m.next e) h₂ z₂) n)
        ]

    none_before : (e : ℕ) → e < m.half_edges → m.face e ≡ 0 → Sign false (neg_ℤ (Δx (from pos m e) p))
    none_before e h z = not_above?→ (Δx (from pos m e) p) (none_begins (λ u. above? (Δx u p))
        (λ a b c ha hb hc. clockwise_before a b c p (above?→ (Δx a.at p) ha) (above?→ (Δx b.at p) hb) (above?→ (Δx c.at p) hc))
        (λ d k y a. above?← (Δx (from pos m (m.next d)) p) (stays_before d k y (above?→ (Δx (from pos m d) p) a))) e h z)

    not_stuck : (e : ℕ) → e < m.half_edges → m.face e ≡ 0 → ⊥
    not_stuck e h z =
        let h₂ = S.next_in e h in let z₂ = S.face_next e h ∙ z in
        clockwise_off_line (start G e) (start G (m.next e)) p w (onward e h z) (is_zero (all_before e h z) (none_before e h z)) (is_zero (all_before (m.next e) h₂ z₂) (none_before (m.next e) h₂ z₂))

  pub comes_back : (e : ℕ) → e < m.half_edges → m.face e ≡ 0 → 1 ≤ outer_back pos m p
  unfolding fibre
  comes_back e h z = elim (cases_lt 0 (outer_back pos m p)) [
    | inl l ↦ l
    | inr n ↦ absurd (not_stuck (λ d k y. omega (arith, n, sum_one (λ d. only 0 (m.face d) (back pos m p d)) m.half_edges d k, only_same 0 (m.face d) (back pos m p d) (sym y))) e h z)
  ]
