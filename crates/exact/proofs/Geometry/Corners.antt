-- Triangles of a list with empty circles: a vertex in a closed one is a corner of it, and one with the same corners is the same.
use Rattle.std.proofs.Common.{◌≡◌, ℕ, ◌<◌, true, false, eqb, ◌⊎◌, List, length, subst, inl, inr, arith}
use Rattle.std.proofs.lemmas.Int.{ints}
use Rattle.exact.specs.Plane.{Vertex, spot, Tri, all_apart, empty_circle}
use Rattle.std.proofs.lemmas.Bool.{cases_Bool, eqb-true, eqb-false}
use Rattle.exact.proofs.Vertices.{site, same_number, Rot, rot₁, rot₂, rot₃}
use Rattle.exact.proofs.Algebra.Signs.{Sign}
use Rattle.exact.proofs.Geometry.Words.{orient, Same, Apart}
use Rattle.exact.proofs.Geometry.Identities.Sides.{orders}
use Rattle.exact.proofs.Geometry.Spots.{same_spot←, same_or_apart}
use Rattle.exact.proofs.Geometry.Circles.{in_circle_corner}
use Rattle.exact.proofs.Geometry.Faces.{Triangle, InFace, empty_circle→, left_different}

abbrev pub CornerOf : Tri → ℕ → Type 0
CornerOf t i = (i ≡ t.one) ⊎ ((i ≡ t.two) ⊎ (i ≡ t.three))

module _ (vs : List Vertex) (ones : (i : ℕ) → (spot vs i).w ≡ 1) where
  module _ (apart : all_apart vs ≡ true) where
    pub same_site : (i j : ℕ) → i < length vs → j < length vs → Same (site vs ones i) (site vs ones j) → i ≡ j
    same_site i j l m e = same_number vs apart i j l m (same_spot← (site vs ones i) (site vs ones j) e)

    pub apart_sites : (i j : ℕ) → i < length vs → j < length vs → ¬ (i ≡ j) → Apart (site vs ones i) (site vs ones j)
    apart_sites i j l m ne = elim (same_or_apart (site vs ones i) (site vs ones j)) [ inl s ↦ absurd (ne (same_site i j l m s)) | inr h ↦ h ]

    -- a vertex in the closed triangle is a corner, if none is inside the circle
    pub corner_of : (t : Tri) → Triangle vs t → empty_circle vs t ≡ true → (s : ℕ) → s < length vs → InFace vs t false (spot vs s) → (b c : ℕ) × Rot t s b c
    corner_of t g e s l i =
        go (in_circle_corner (site vs ones t.one) (site vs ones t.two) (site vs ones t.three) (site vs ones s) g.turns_left i (empty_circle→ vs t e s l))
      where
        go : Same (site vs ones t.one) (site vs ones s) ⊎ Same (site vs ones t.two) (site vs ones s) ⊎ Same (site vs ones t.three) (site vs ones s) → (b c : ℕ) × Rot t s b c
        go (inl h) = (t.two, t.three, subst (λ (k : ℕ). Rot t k t.two t.three) (same_site t.one s (omega (arith, g.least_two, g.two_below)) l h) rot₁)
        go (inr (inl h)) = (t.three, t.one, subst (λ (k : ℕ). Rot t k t.three t.one) (same_site t.two s g.two_below l h) rot₂)
        go (inr (inr h)) = (t.one, t.two, subst (λ (k : ℕ). Rot t k t.one t.two) (same_site t.three s g.three_below l h) rot₃)

  -- ---- triangles with the same corners: the smallest is first, and both turn to the left
  pub same_corners : (t u : Tri) → Triangle vs t → Triangle vs u → CornerOf t u.one → CornerOf t u.two → CornerOf t u.three → u ≡ t
  same_corners t u g k p q r = elim (cases_Bool (eqb u.two t.two)) [
    | inl e ↦ let f = eqb-true u.two t.two e in let f₃ : u.three ≡ t.three = omega (arith, r, different, k.least_three) in λ i. record { one = first i; two = f i; three = f₃ i }
    | inr e ↦ absurd (crossed (omega (arith, q, eqb-false u.two t.two e, k.least_two)) (omega (arith, q, r, different, eqb-false u.two t.two e, k.least_two, k.least_three)))
  ]
    where
      different : ¬ (u.two ≡ u.three)
      different = (left_different vs ones u.one u.two u.three k.turns_left).1

      first : u.one ≡ t.one
      first = omega (arith, p, q, r, different, g.least_two, g.least_three, k.least_two, k.least_three)

      -- the other way round it turns to the right
      crossed : u.two ≡ t.three → u.three ≡ t.two → ⊥
      crossed e f =
          let h : Sign true (orient (spot vs t.one) (spot vs t.three) (spot vs t.two)) =
          subst (λ (i : ℕ). Sign true (orient (spot vs t.one) (spot vs t.three) (spot vs i))) f (subst (λ (i : ℕ). Sign true (orient (spot vs t.one) (spot vs i) (spot vs u.three))) e (subst (λ (i : ℕ). Sign true (orient (spot vs i) (spot vs u.two) (spot vs u.three))) first k.turns_left)) in
          let l = g.turns_left in
          omega (arith, ints, orders (site vs ones t.one) (site vs ones t.two) (site vs ones t.three))
