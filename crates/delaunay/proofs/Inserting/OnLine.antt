-- A vertex on a line of vertices, between two or past the end: no face comes to be, so no edge can be wrong.
use Rattle.std.proofs.Common.{◌≡◌, ℕ, ◌+◌, ◌%◌, ◌<◌, ◌≤◌, eqb, ◌≢◌, List, [], refl, arith}
use Rattle.exact.specs.Plane.{Point, point}
use Rattle.std.proofs.lemmas.Bool.{eqb-true, eqb-false}
use Rattle.dcel.specs.Layout.{Size}
use Rattle.dcel.specs.Map.{Map, twin}
use Rattle.dcel.specs.Mesh.{Mesh}
use Rattle.dcel.specs.Patch.{Patch, patched}
use Rattle.dcel.specs.EdgeSurgery.{LineEdge, split_line_edge_change, split_line_edge_patch, LineEnd, split_line_end_change, split_line_end_patch, extend_line_change, extend_line_patch}
use Rattle.dcel.specs.Memory.{map_of, vertices_in}
use Rattle.dcel.specs.Holds.{sites_of, with_site, Becomes}
use Rattle.dcel.specs.Operations.{apply_with}
use Rattle.dcel.specs.Geometry.{Geometric}
use Rattle.dcel.proofs.Laws.{split_line_edge_grows, split_line_end_grows, extend_line_grows}
use Rattle.dcel.proofs.Legal.Lines.{line_ready}
use Rattle.dcel.proofs.Legal.Insertions.{GeometricMesh, line_edge_split_geometric, line_end_split_geometric, line_extended}
use Rattle.delaunay.specs.Insert.{put_on_line}
use Rattle.delaunay.specs.Where.{on_edge, beyond}
use Rattle.delaunay.specs.Kept.{HalfListed, Settled, RightPlace}
use Rattle.delaunay.proofs.PointLocation.Tests.{picked}
use Rattle.delaunay.proofs.Inserting.OneMore.{places_with, geometric_before, new_on_edge, new_past}
use Rattle.delaunay.proofs.Inserting.Put.{Put, put_with}

module _ (s : Size) (m : List ℕ) (S : Settled s m) (room : vertices_in s m < s.vertices) (x y d : ℕ) (hx : x < s.coordinates) (hy : y < s.coordinates) (few : (map_of s m).faces ≤ 1) (e : ℕ) where
  abbrev g : Map
  g = map_of s m

  M : Mesh g
  M = S.held.holds.mesh

  outer : (i : ℕ) → i < g.half_edges → g.face i ≡ 0
  outer i h = omega (arith, M.sound.face_in i h)

  abbrev pos : ℕ → Point
  pos = places_with s m x y

  G : Geometric pos g
  G = geometric_before s m x y S.held

  -- a surgery that makes no face
  module _ (p : Patch) (o : List ℕ) (K : Becomes s m p (with_site (sites_of s m) (vertices_in s m) (x % s.coordinates) (y % s.coordinates) d) o) where
    put_flat : p.vertices ≡ vertices_in s m + 1 → p.faces ≤ 1 → GeometricMesh pos (patched p g) → Put s m x y d o
    put_flat c f N = put_with s m x y d hx hy p o K c S.lists N.geometric [] tt (λ r on. line_ready (patched p g) N.mesh.sound f pos (HalfListed r))

  module _ (w : RightPlace s m (point x y) (on_edge e)) where
    at_end : g.next e ≡ twin e → Put s m x y d (apply_with s split_line_end_change m e x y d)
    at_end q =
        let may : LineEnd g e = record { in_e = w.0; outer = outer e w.0; end = q } in
        let p = split_line_end_patch g e in
        let o = apply_with s split_line_end_change m e x y d in
        let K = split_line_end_grows s m e x y d S.held.holds may room in
        put_flat p o K refl few (line_end_split_geometric pos g M G e few may (new_on_edge s m x y S.held e w))

    before_end : g.next e ≢ twin e → Put s m x y d (apply_with s split_line_edge_change m e x y d)
    before_end q =
        let may : LineEdge g e = record { in_e = w.0; left = outer e w.0; right = outer (twin e) (M.sound.twin_in e w.0); more = q } in
        let p = split_line_edge_patch g e in
        let o = apply_with s split_line_edge_change m e x y d in
        let K = split_line_edge_grows s m e x y d S.held.holds may room in
        put_flat p o K refl few (line_edge_split_geometric pos g M G e few may (new_on_edge s m x y S.held e w))

    pub put_on_line_unsettled : Put s m x y d (put_on_line s m e x y d)
    unfolding put_on_line
    put_on_line_unsettled = picked (Put s m x y d) (eqb (g.next e) (twin e)) _ _ (λ t. at_end (eqb-true (g.next e) (twin e) t)) (λ f. before_end (eqb-false (g.next e) (twin e) f))

  pub put_beyond_unsettled : RightPlace s m (point x y) (beyond e) → Put s m x y d (apply_with s extend_line_change m e x y d)
  put_beyond_unsettled w =
      let may : LineEnd g e = record { in_e = w.1; outer = outer e w.1; end = w.2 } in
      let p = extend_line_patch g e in
      let o = apply_with s extend_line_change m e x y d in
      let K = extend_line_grows s m e x y d S.held.holds may room in
      put_flat p o K refl few (line_extended pos g M G e few may (new_past s m x y S.held e w))
