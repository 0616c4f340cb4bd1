-- A place is told right, wherever it is.
use Rattle.std.proofs.Common.{ℕ, eqb, leb, List, refl, arith}
use Rattle.exact.specs.Plane.{point}
use Rattle.std.proofs.lemmas.Bool.{eqb-true, leb-true, leb-false}
use Rattle.exact.proofs.Geometry.Words.{Site}
use Rattle.dcel.specs.Layout.{Size, header}
use Rattle.dcel.specs.Mesh.{Sound}
use Rattle.dcel.specs.Memory.{cell, map_of, half_edges_in, faces_in}
use Rattle.dcel.specs.Geometry.{Geometric}
use Rattle.delaunay.specs.Places.{place_of}
use Rattle.delaunay.specs.Walk.{last_edge, located}
use Rattle.delaunay.specs.Kept.{Triangulated, RightPlace}
use Rattle.delaunay.proofs.PointLocation.Tests.{picked}
use Rattle.delaunay.proofs.PointLocation.OnLine.{by_line_right}
use Rattle.delaunay.proofs.PointLocation.AcrossFaces.{faces_right}

module _ (s : Size) (m : List ℕ) (T : Triangulated s m) where
  pub sound : Sound (map_of s m)
  sound = T.settled.held.holds.mesh.sound

  pub geometric : Geometric (place_of s m) (map_of s m)
  geometric = T.settled.held.geometric

  abbrev first : ℕ
  first = cell s header m last_edge

  site_located : (p : Site) → RightPlace s m p.at (located s m p.at)
  unfolding located
  site_located p =
      picked (RightPlace s m p.at) (eqb (half_edges_in s m) 0) _ _
      (λ o. absurd (omega (arith, eqb-true (half_edges_in s m) 0 o, T.last_in)))
      (λ o. picked (RightPlace s m p.at) (leb (faces_in s m) 1) _ _
      (λ l. by_line_right s m sound geometric (leb-true (faces_in s m) 1 l) p first T.last_in)
      (λ l. faces_right s m sound geometric p (leb-false (faces_in s m) 1 l) T.settled.at_rest first T.last_in))

  pub located_right : (x y : ℕ) → RightPlace s m (point x y) (located s m (point x y))
  located_right x y = site_located (record { at = point x y; whole = refl })
