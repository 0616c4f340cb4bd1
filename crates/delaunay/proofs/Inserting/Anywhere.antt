-- Wherever the point is, if not on a vertex: after it is put in, what may be wrong is on the list.
use Rattle.std.proofs.Common.{◌≡◌, ℕ, ◌<◌, ◌≤◌, true, eqb, List, refl, ap, ◌∙◌, arith, inl, inr}
use Rattle.exact.specs.Plane.{point}
use Rattle.std.proofs.lemmas.Bool.{eqb-true, eqb-false, cases_lt}
use Rattle.exact.proofs.Booleans.{true_false}
use Rattle.exact.proofs.Geometry.Words.{Site}
use Rattle.exact.proofs.Geometry.Betweenness.{between_swap}
use Rattle.dcel.specs.Layout.{Size}
use Rattle.dcel.specs.Map.{Map, twin}
use Rattle.dcel.specs.Mesh.{Sound}
use Rattle.dcel.specs.Memory.{map_of, vertices_in}
use Rattle.dcel.specs.Geometry.{strictly_between}
use Rattle.dcel.proofs.StrictlyBetween.{strictly_between→, strictly_between←}
use Rattle.dcel.proofs.Twins.{twin_twin}
use Rattle.dcel.proofs.Tiling.Hull.{two_sides}
use Rattle.delaunay.specs.Places.{place_of}
use Rattle.delaunay.specs.Insert.{put_on_edge, put_at, new_at}
use Rattle.delaunay.specs.Where.{Where, on_vertex, on_edge, in_face, outside, beyond, no_edge}
use Rattle.delaunay.specs.Kept.{Settled, RightPlace}
use Rattle.delaunay.proofs.PointLocation.Tests.{picked}
use Rattle.delaunay.proofs.Inserting.Put.{Put}
use Rattle.delaunay.proofs.Inserting.InFace.{put_face_unsettled}
use Rattle.delaunay.proofs.Inserting.BetweenFaces.{put_between_unsettled}
use Rattle.delaunay.proofs.Inserting.OnHull.{put_on_hull_unsettled}
use Rattle.delaunay.proofs.Inserting.OnLine.{put_on_line_unsettled, put_beyond_unsettled}
use Rattle.delaunay.proofs.Inserting.Outside.{put_outside_unsettled}

-- between the ends of a half edge is between those of its twin
other_half : (s : Size) (m : List ℕ) → Sound (map_of s m) → (x y e : ℕ) → RightPlace s m (point x y) (on_edge e) → RightPlace s m (point x y) (on_edge (twin e))
other_half s m S x y e w =
    let a : Site = record { at = place_of s m ((map_of s m).origin e); whole = refl } in
    let b : Site = record { at = place_of s m ((map_of s m).origin (twin e)); whole = refl } in
    let p : Site = record { at = point x y; whole = refl } in
    (S.twin_in e w.0, ap (λ (f : ℕ). strictly_between b.at (place_of s m ((map_of s m).origin f)) (point x y)) (twin_twin e) ∙ strictly_between← _ _ _ (between_swap a b p (strictly_between→ _ _ _ w.1)))

module _ (s : Size) (m : List ℕ) (S : Settled s m) (room : vertices_in s m < s.vertices) (x y d : ℕ) (hx : x < s.coordinates) (hy : y < s.coordinates) where
  abbrev g : Map
  g = map_of s m

  -- with the outside on both sides there is no face
  no_face : (e : ℕ) → e < g.half_edges → g.face e ≡ 0 → g.face (twin e) ≡ 0 → g.faces ≤ 1
  no_face e h z z' = elim (cases_lt 1 g.faces) [ inl f ↦ absurd (two_sides S.held.holds.mesh.sound S.held.geometric f e h z z') | inr f ↦ omega arith ]

  pub put_on_edge_unsettled : (e : ℕ) → RightPlace s m (point x y) (on_edge e) → Put s m x y d (put_on_edge s m e x y d)
  unfolding put_on_edge
  put_on_edge_unsettled e w =
      let t = twin e in
      picked (Put s m x y d) (eqb (g.face e) 0) _ _
      (λ a. picked (Put s m x y d) (eqb (g.face t) 0) _ _
      (λ b. put_on_line_unsettled s m S room x y d hx hy (no_face e w.0 (eqb-true (g.face e) 0 a) (eqb-true (g.face t) 0 b)) e w)
      (λ b. put_on_hull_unsettled s m S room x y d hx hy t (other_half s m S.held.holds.mesh.sound x y e w) (eqb-false (g.face t) 0 b) (ap g.face (twin_twin e) ∙ eqb-true (g.face e) 0 a)))
      (λ a. picked (Put s m x y d) (eqb (g.face t) 0) _ _
      (λ b. put_on_hull_unsettled s m S room x y d hx hy e w (eqb-false (g.face e) 0 a) (eqb-true (g.face t) 0 b))
      (λ b. put_between_unsettled s m S room x y d hx hy e w (eqb-false (g.face e) 0 a) (eqb-false (g.face t) 0 b)))

  pub put_unsettled : (w : Where) → RightPlace s m (point x y) w → new_at w ≡ true → Put s m x y d (put_at s m w x y d)
  put_unsettled (on_vertex v) h k = absurd (true_false _ k refl)
  put_unsettled (on_edge e) h k = put_on_edge_unsettled e h
  put_unsettled (in_face e) h k = put_face_unsettled s m S room x y d hx hy e h
  put_unsettled (outside e) h k = put_outside_unsettled s m S room x y d hx hy e h
  put_unsettled (beyond e) h k = put_beyond_unsettled s m S room x y d hx hy h.0 e h
  put_unsettled no_edge h k = absurd h
