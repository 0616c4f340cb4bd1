-- A vertex strictly between the ends of an edge with a face on its left and the outside across it: two faces in the place of the one, with their edges on the list.
use Rattle.std.proofs.Common.{◌≡◌, ℕ, ◌%◌, ◌<◌, ◌≢◌, List, [], ◌∷◌, refl, arith}
use Rattle.exact.specs.Plane.{Point, point}
use Rattle.dcel.specs.Layout.{Size}
use Rattle.dcel.specs.Map.{Map, twin}
use Rattle.dcel.specs.Mesh.{Mesh}
use Rattle.dcel.specs.Patch.{Patch, patched}
use Rattle.dcel.specs.EdgeSurgery.{HullEdge, split_hull_edge_change, split_hull_edge_patch}
use Rattle.dcel.specs.Memory.{map_of, vertices_in}
use Rattle.dcel.specs.Holds.{sites_of, with_site, Becomes}
use Rattle.dcel.specs.Operations.{apply_with}
use Rattle.dcel.specs.Legal.{Ready}
use Rattle.dcel.proofs.Fits.{IsPatched, is_patched}
use Rattle.dcel.proofs.HullEdgeSplit.{distinct}
use Rattle.dcel.proofs.Laws.{split_hull_edge_grows}
use Rattle.dcel.proofs.Legal.Steps.{rest_ready}
use Rattle.dcel.proofs.Legal.Insertions.{hull_edge_split, hull_edge_split_ready}
use Rattle.delaunay.specs.Insert.{put_on_hull}
use Rattle.delaunay.specs.Where.{on_edge}
use Rattle.delaunay.specs.Kept.{HalfListed, Settled, RightPlace}
use Rattle.delaunay.proofs.Settling.Faces.{FaceListed}
use Rattle.delaunay.proofs.Inserting.OneMore.{places_with, geometric_before, rest_before, new_on_edge}
use Rattle.delaunay.proofs.Inserting.Put.{Put, listed_as, Each, put_with}

module _ (s : Size) (m : List ℕ) (S : Settled s m) (room : vertices_in s m < s.vertices) (x y d : ℕ) (hx : x < s.coordinates) (hy : y < s.coordinates) (e : ℕ) (w : RightPlace s m (point x y) (on_edge e))
    (left : (map_of s m).face e ≢ 0) (right : (map_of s m).face (twin e) ≡ 0) where
  abbrev g : Map
  g = map_of s m

  abbrev pos : ℕ → Point
  pos = places_with s m x y

  abbrev p : Patch
  p = split_hull_edge_patch g e

  abbrev o : List ℕ
  o = apply_with s split_hull_edge_change m e x y d

  M : Mesh g
  M = S.held.holds.mesh

  may : HullEdge g e
  may = record { in_e = w.0; left = left; right = right }

  K : Becomes s m p (with_site (sites_of s m) (vertices_in s m) (x % s.coordinates) (y % s.coordinates) d) o
  K = split_hull_edge_grows s m e x y d S.held.holds may room

  D : IsPatched g (patched p g) p
  D = is_patched g p (distinct g M e may)

  abbrev faces : List ℕ
  faces = g.next e ∷ e ∷ []

  ready : (r : List ℕ) → Each (FaceListed (patched p g) r) faces → Ready pos (patched p g) (HalfListed r)
  ready r on =
      let bc = on.0 in
      let ap = on.1.0 in
      hull_edge_split_ready pos g M e (λ i. ⊥) (HalfListed r) (λ i k. absurd k) (rest_ready pos g (rest_before s m x y S.held S.at_rest) (λ i. ⊥)) may
      ap.here bc.here (listed_as r D.prev_at.1.1.0 ap.prev) (listed_as r D.prev_at.1.1.1.0 bc.prev) (listed_as r D.next_at.0 ap.next)

  pub put_on_hull_unsettled : Put s m x y d (put_on_hull s m e x y d)
  unfolding put_on_hull
  put_on_hull_unsettled = put_with s m x y d hx hy p o K refl S.lists (hull_edge_split pos g M (geometric_before s m x y S.held) e may (new_on_edge s m x y S.held e w)).geometric faces
      (omega (arith, w.0, M.sound.next_in e w.0)) ready
