-- If no vertex that is joined to i is nearer to a place than i is, no vertex is: each other one is in the cone of a triangle at i and not inside its circle, or beyond others on one line.
use Rattle.std.proofs.Common.{◌≡◌, ℕ, zero, suc, ◌<◌, true, false, not, List, length, pos, ◌-ℤ◌, sym, ap, subst, inl, inr, arith}
use borrow.Author.Differences.{up}
use Rattle.std.proofs.lemmas.Int.{ints}
use Rattle.exact.specs.Plane.{or, every, Point, Vertex, spot, Tri, joined, on_segment, on_a_line, Delaunay, empty_circle, above_0, minus, square, all_numbers}
use Rattle.std.proofs.lemmas.Bool.{cases_Bool, false_from_ne_true, not-true, not_from_false}
use Rattle.exact.proofs.Booleans.{true_false, or→}
use Rattle.exact.proofs.Lists.{every→, every←, up_to←}
use Rattle.exact.proofs.Vertices.{site, spot_whole, vertex_number}
use Rattle.exact.proofs.Algebra.Integers.{value_minus}
use Rattle.exact.proofs.Algebra.Signs.{Sign, split_below, clash_below}
use Rattle.exact.proofs.Algebra.Tests.{not_above→, not_above←}
use Rattle.exact.proofs.Geometry.Words.{dist², Site, Dist², dist²_sign}
use Rattle.exact.proofs.Geometry.Distances.{NoNearer, no_nearer, no_nearer_beyond, between_nearer}
use Rattle.exact.proofs.Geometry.Segments.{on_segment→}
use Rattle.exact.proofs.Geometry.Joined.{neighbours_on_line←, line_joined←}
use Rattle.exact.proofs.Geometry.Corners.{apart_sites}
use Rattle.exact.proofs.Statements.Words.{Plain}
use Rattle.exact.proofs.Statements.Tilings.{ProperTiling, empty_tiling}
use Rattle.exact.proofs.Statements.ConeAt.{cone_at, cone_left, cone_empty, b_below, c_below, b_joined, c_joined}

-- ---- the test
module _ (x v y : Point) where
  no_nearer→ : not (above_0 (minus (square x v) (square x y))) ≡ true → NoNearer x v y
  unfolding dist²
  no_nearer→ h = let d = minus (square x v) (square x y) in omega (arith, ints, not_above→ d (not-true (above_0 d) h), value_minus (square x v) (square x y))

  no_nearer← : NoNearer x v y → not (above_0 (minus (square x v) (square x y))) ≡ true
  unfolding dist²
  no_nearer← h = let d = minus (square x v) (square x y) in not_from_false (above_0 d) (not_above← d (omega (arith, ints, value_minus (square x v) (square x y))))

module _ (vs : List Vertex) (ts : List Tri) (p : Point) (i : ℕ) where
  -- k is no nearer to p than i is
  abbrev Far : ℕ → Type 0
  Far k = NoNearer p (spot vs i) (spot vs k)

  joined_far : every (λ k. or (not (joined vs ts i k)) (not (above_0 (minus (square p (spot vs i)) (square p (spot vs k)))))) (all_numbers vs) ≡ true → (k : ℕ) → k < length vs → joined vs ts i k ≡ true → Far k
  joined_far h k l e =
      let far? = not (above_0 (minus (square p (spot vs i)) (square p (spot vs k)))) in
      elim (or→ (not (joined vs ts i k)) far? (every→ (λ k. or (not (joined vs ts i k)) (not (above_0 (minus (square p (spot vs i)) (square p (spot vs k)))))) (all_numbers vs) h k (up_to← (length vs) k l))) [
        | inl f ↦ absurd (true_false (joined vs ts i k) e (not-true (joined vs ts i k) f))
        | inr f ↦ no_nearer→ p (spot vs i) (spot vs k) f
      ]

  module _ (i_below : i < length vs) (near : (k : ℕ) → k < length vs → joined vs ts i k ≡ true → Far k) where
    -- ---- z in the cone of a triangle
    by_cone : on_a_line vs ≡ false → ProperTiling vs ts → every (empty_circle vs) ts ≡ true → (z : ℕ) → z < length vs → Far z
    by_cone off T empty z z_below =
        let κ = cone_at vs ts T i z i_below z_below in let b = κ.b in let c = κ.c in
        no_nearer (site vs T.ones i) (site vs T.ones b) (site vs T.ones c) (site vs T.ones z) p (cone_left vs ts T i z κ) κ.after_b κ.before_c (cone_empty vs ts T i z κ empty z z_below)
        (near b (b_below vs ts T i z κ) (b_joined vs ts T i z κ off)) (near c (c_below vs ts T i z κ) (c_joined vs ts T i z κ off))

    -- ---- all on one line
    module _ (line : on_a_line vs ≡ true) (pl : Plain vs) where
      ones : (k : ℕ) → (spot vs k).w ≡ 1
      ones = spot_whole vs pl.1

      abbrev P : ℕ → Site
      P k = site vs ones k

      -- z is joined to i, or beyond some k
      module _ (z : ℕ) (z_below : z < length vs) (before : (k : ℕ) → k < length vs → Sign true (Dist² (P i) (P z) -ℤ Dist² (P i) (P k)) → Far k) where
        beyond : (k : ℕ) → k < length vs → ¬ (k ≡ i) → ¬ (k ≡ z) → on_segment (spot vs i) (spot vs z) (spot vs k) ≡ true → Far z
        beyond k l ki kz on =
            let b = on_segment→ (P i) (P z) (P k) on (apart_sites vs ones pl.0 i k i_below l (λ e. ki (sym e))) (apart_sites vs ones pl.0 z k z_below l (λ e. kz (sym e))) in
            no_nearer_beyond (P i) (P z) (P k) p b (before k l (between_nearer (P i) (P z) (P k) b))

        joined_or_beyond : Far z
        joined_or_beyond = elim (split_below (dist² p (spot vs z) -ℤ dist² p (spot vs i))) [
          | inl h ↦ h
          | inr h ↦
              let ne : ¬ (i ≡ z) = λ e. let same : dist² p (spot vs i) ≡ dist² p (spot vs z) = ap (λ (k : ℕ). dist² p (spot vs k)) e in omega (arith, ints) in
              near z z_below (line_joined← vs i z ts line i_below z_below (neighbours_on_line← vs i z ne (λ k l ki kz. false_from_ne_true (on_segment (spot vs i) (spot vs z) (spot vs k)) (λ on. clash_below _ (beyond k l ki kz on) h))))
        ]

      -- by the distance from i
      by_line : (n z : ℕ) → z < length vs → Sign true (pos n -ℤ Dist² (P i) (P z)) → Far z
      by_line zero z l s = absurd (omega (arith, ints, dist²_sign (spot vs i) (spot vs z)))
      by_line (suc n) z l s = joined_or_beyond z l (λ k m c. by_line n k m (omega (arith, ints)))

pub none_nearer :
    (vs : List Vertex) (ts : List Tri) (p : Point) (i : ℕ) → Plain vs → Delaunay vs ts → i < length vs →
    every (λ k. or (not (joined vs ts i k)) (not (above_0 (minus (square p (spot vs i)) (square p (spot vs k)))))) (all_numbers vs) ≡ true →
    every (λ v. not (above_0 (minus (square p (spot vs i)) (square p v.at)))) vs ≡ true
unfolding Delaunay
none_nearer vs ts p i pl d i_below h = every← (λ v. not (above_0 (minus (square p (spot vs i)) (square p v.at)))) vs (λ v e.
    let r = vertex_number vs v e in
    subst (λ (u : Vertex). not (above_0 (minus (square p (spot vs i)) (square p u.at))) ≡ true) r.2 (no_nearer← p (spot vs i) (spot vs r.0) (far r.0 r.1)))
  where
    near : (k : ℕ) → k < length vs → joined vs ts i k ≡ true → NoNearer p (spot vs i) (spot vs k)
    near = joined_far vs ts p i h

    far : (z : ℕ) → z < length vs → NoNearer p (spot vs i) (spot vs z)
    far z l = elim (cases_Bool (on_a_line vs)) [
      | inl e ↦ by_line vs ts p i i_below near e pl (suc (up (dist² (spot vs i) (spot vs z)))) z l (omega (arith, ints))
      | inr e ↦ let empty = (d.1 e).1 in by_cone vs ts p i i_below near e (empty_tiling vs ts pl (d.1 e).0 empty) empty z l
    ]
