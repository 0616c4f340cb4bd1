-- A mesh at rest is a Delaunay triangulation of its vertices, also on a line, where it has no triangle.
use Rattle.std.proofs.Common.{◌≡◌, ℕ, suc, ◌-◌, ◌≤◌, List, [], length, ap, arith}
use Rattle.exact.specs.Plane.{each, up_to, Vertex, spot, Delaunay}
use Rattle.dcel.specs.Map.{Map}
use Rattle.dcel.specs.Mesh.{Mesh}
use Rattle.dcel.specs.Geometry.{Geometric, AtRest, face_tri, triangles}
use Rattle.dcel.proofs.Tiling.Tiles.{mesh_tiles}
use Rattle.dcel.proofs.Delaunay.EmptyCircles.{empty_circles}
use Rattle.dcel.proofs.Delaunay.FaceOrLine.{line_no_face, no_line_face}

pub no_triangles : (m : Map) → m.faces ≤ 1 → triangles m ≡ []
unfolding each up_to
no_triangles m none = let zero : m.faces - 1 ≡ 0 = omega arith in ap (λ (n : ℕ). each (λ i. face_tri m (suc i)) (up_to n)) zero

pub rest_is_delaunay : (vs : List Vertex) (m : Map) → m.vertices ≡ length vs → Mesh m → Geometric (spot vs) m → AtRest (spot vs) m → Delaunay vs (triangles m)
unfolding Delaunay
rest_is_delaunay vs m len M G rest =
    let S = M.sound in
    (λ line. no_triangles m (line_no_face vs S G len line), λ off. (mesh_tiles vs S G len (no_line_face vs S G len off), empty_circles vs S G len rest))
