-- In a closed face: a place on the lines of two sides is at the corner between them, on the line of one alone strictly between its ends, and on none strictly inside.
use Rattle.std.proofs.Common.{◌≡◌, ℕ, ◌<◌, true, false, ◌≢◌, List, ℤ, pos, sym, ap, ◌∙◌, ap₂, inl, inr, arith}
use Rattle.std.proofs.lemmas.Int.{ints}
use Rattle.exact.proofs.Algebra.Signs.{Sign, ◌by◌, strict_or_zero, zero_sign_neg, clash_zero}
use Rattle.exact.proofs.Geometry.Words.{orient, Site, Orient, Left, On, Same, Between, InTriangle}
use Rattle.exact.proofs.Geometry.Tests.{left←}
use Rattle.exact.proofs.Geometry.Identities.Sides.{turn, start_on, end_on, weights}
use Rattle.exact.proofs.Geometry.Triangles.{within_turn}
use Rattle.exact.proofs.Geometry.Spots.{same_at}
use Rattle.exact.proofs.Geometry.Horizon.{meet, edge_only}
use Rattle.dcel.specs.Layout.{Size, edge_next, edge_prev, edge_origin}
use Rattle.dcel.specs.Mesh.{Sound}
use Rattle.dcel.specs.Memory.{cell, map_of}
use Rattle.dcel.specs.Geometry.{Geometric}
use Rattle.dcel.proofs.StrictlyBetween.{strictly_between←}
use Rattle.dcel.proofs.Neighbours.{InTriangle as InTriangleOf, in_triangle}
use Rattle.dcel.proofs.Sites.{start, stop, third, face_left}
use Rattle.delaunay.specs.Places.{place_of, from_of, to_of}
use Rattle.delaunay.specs.Where.{Where, on_vertex, on_edge, in_face}
use Rattle.delaunay.specs.Walk.{on_at, in_face_of}
use Rattle.delaunay.specs.Kept.{RightPlace}
use Rattle.delaunay.proofs.PointLocation.Tests.{picked, on_at→, not_on_at→}

-- ---- a left-turning triangle
module _ (a b c p : Site) (t : Left a b c) where
  meet_at_corner : On a b p → On b c p → Same b p
  meet_at_corner x y = meet a b c p y x (λ z. clash_zero t (omega (arith, ints, weights a b c p)))

  on_one_side : InTriangle a b c p → On a b p → (On b c p → ⊥) → (On c a p → ⊥) → Between a b p
  on_one_side i x y z = elim (edge_only a b c p t i (zero_sign_neg (Orient a b p) x)) [
    | inl s ↦ absurd (z (ap (orient c.at a.at) (sym (same_at a p s)) ∙ end_on c a))
    | inr r ↦ elim r [ inl s ↦ absurd (y (ap (orient b.at c.at) (sym (same_at b p s)) ∙ start_on b c)) | inr k ↦ k ]
  ]

-- on no line: strictly on its side
strict : {z : ℤ} → Sign false z → (z ≡ pos 0 → ⊥) → Sign true z
strict {z} h n = elim (strict_or_zero z h) [ inl l ↦ l | inr e ↦ absurd (n e) ]

-- ---- the face of e
module _ (s : Size) (m : List ℕ) (S : Sound (map_of s m)) (G : Geometric (place_of s m) (map_of s m)) (p : Site) (e : ℕ)
    (h : e < (map_of s m).half_edges) (z : (map_of s m).face e ≢ 0) where
  abbrev Told : Where → Type 0
  Told = RightPlace s m p.at

  abbrev n : ℕ
  n = cell s edge_next m e

  abbrev q : ℕ
  q = cell s edge_prev m e

  abbrev a : Site
  a = start G e

  abbrev b : Site
  b = stop G e

  abbrev c : Site
  c = third G e

  round : InTriangleOf (map_of s m) e
  round = in_triangle (map_of s m) S e h z

  abc : Left a b c
  abc = face_left G e h z

  bca : Left b c a
  bca = abc by sym (turn a b c)

  cab : Left c a b
  cab = abc by turn c a b

  -- the sides by their corners
  line_n : orient (from_of s m n) (to_of s m n) p.at ≡ Orient b c p
  line_n = ap₂ (λ (u v : ℕ). orient (place_of s m u) (place_of s m v) p.at) round.origin_next (sym round.origin_prev)

  line_q : orient (from_of s m q) (to_of s m q) p.at ≡ Orient c a p
  line_q = ap (λ (v : ℕ). orient c.at (place_of s m v) p.at) (sym round.origin_here)

  -- not right of any side
  pub in_face_right : Sign false (orient (from_of s m e) (to_of s m e) p.at) → Sign false (orient (from_of s m n) (to_of s m n) p.at) → Sign false (orient (from_of s m q) (to_of s m q) p.at) →
      RightPlace s m p.at (in_face_of s m p.at e)
  unfolding in_face_of
  in_face_right left_e left_n left_q =
      picked Told (on_at s m e p.at) _ _
      (λ x. let ab = on_at→ s m e p.at x in picked Told (on_at s m n p.at) _ _
      (λ y. at_n ab (sym line_n ∙ on_at→ s m n p.at y))
      (λ y. picked Told (on_at s m q p.at) _ _ (λ w. at_e (sym line_q ∙ on_at→ s m q p.at w) ab) (λ w. between_e ab (off_n y) (off_q w))))
      (λ x. let ab = not_on_at→ s m e p.at x in picked Told (on_at s m n p.at) _ _
      (λ y. let bc = sym line_n ∙ on_at→ s m n p.at y in picked Told (on_at s m q p.at) _ _ (λ w. at_q bc (sym line_q ∙ on_at→ s m q p.at w)) (λ w. between_n bc (off_q w) ab))
      (λ y. picked Told (on_at s m q p.at) _ _ (λ w. between_q (sym line_q ∙ on_at→ s m q p.at w) ab (off_n y)) (λ w. inside ab (off_n y) (off_q w))))
    where
      i : InTriangle a b c p
      i = record { ab = left_e; bc = left_n by sym line_n; ca = left_q by sym line_q }

      off_n : on_at s m n p.at ≡ false → On b c p → ⊥
      off_n y o = not_on_at→ s m n p.at y (line_n ∙ o)

      off_q : on_at s m q p.at ≡ false → On c a p → ⊥
      off_q y o = not_on_at→ s m q p.at y (line_q ∙ o)

      at_n : On a b p → On b c p → Told (on_vertex (cell s edge_origin m n))
      at_n x y = (S.origin_in n round.next_in, ap (place_of s m) round.origin_next ∙ same_at b p (meet_at_corner a b c p abc x y))

      at_e : On c a p → On a b p → Told (on_vertex (cell s edge_origin m e))
      at_e x y = (S.origin_in e h, same_at a p (meet_at_corner c a b p cab x y))

      at_q : On b c p → On c a p → Told (on_vertex (cell s edge_origin m q))
      at_q x y = (S.origin_in q round.prev_in, same_at c p (meet_at_corner b c a p bca x y))

      between_e : On a b p → (On b c p → ⊥) → (On c a p → ⊥) → Told (on_edge e)
      between_e x y w = (h, strictly_between← a.at b.at p.at (on_one_side a b c p abc i x y w))

      between_n : On b c p → (On c a p → ⊥) → (On a b p → ⊥) → Told (on_edge n)
      between_n x y w = (round.next_in, rw (round.origin_next, sym round.origin_prev) (strictly_between← b.at c.at p.at (on_one_side b c a p bca (within_turn i) x y w)))

      between_q : On c a p → (On a b p → ⊥) → (On b c p → ⊥) → Told (on_edge q)
      between_q x y w = (round.prev_in, rw (sym round.origin_here) (strictly_between← c.at a.at p.at (on_one_side c a b p cab (within_turn (within_turn i)) x y w)))

      inside : (On a b p → ⊥) → (On b c p → ⊥) → (On c a p → ⊥) → Told (in_face e)
      inside x y w = (h, z, left← a.at b.at p.at (strict i.ab x), left← b.at c.at p.at (strict i.bc y), left← c.at a.at p.at (strict i.ca w))
