-- Putting a point in: by where it is, and then flipping till every edge is right.
use Rattle.std.specs.Prelude.{ℕ, Bool, true, false, ◌&&◌, List, Some, None, Option, ◌==◌, nat_le}
use Rattle.exact.specs.Plane.{pick, point}
use Rattle.dcel.specs.Layout.{Size, header, vertex_data, vertex_out, edge_next, edge_prev, edge_face}
use Rattle.dcel.specs.Map.{twin}
use Rattle.dcel.specs.Memory.{cell, put, vertices_in}
use Rattle.dcel.specs.Operations.{apply_with}
use Rattle.dcel.specs.Start.{first_put, second_put}
use Rattle.dcel.specs.Surgery.{split_face_change}
use Rattle.dcel.specs.EdgeSurgery.{split_inner_edge_change, split_hull_edge_change, split_line_edge_change, split_line_end_change, extend_line_change}
use Rattle.delaunay.specs.Legalize.{legalized}
use Rattle.delaunay.specs.Outside.{put_outside}
use Rattle.delaunay.specs.Walk.{last_edge, located}
use Rattle.delaunay.specs.Where.{Where, on_vertex, on_edge, in_face, outside, beyond, no_edge}
use Rattle.delaunay.specs.Worklist.{pushed_face}

-- inside a face: three faces in its place
unfoldable pub put_in_face : Size → List ℕ → ℕ → ℕ → ℕ → ℕ → List ℕ
put_in_face s m e x y d =
    let n = cell s edge_next m e in
    let q = cell s edge_prev m e in
    pushed_face s (pushed_face s (pushed_face s (apply_with s split_face_change m e x y d) e) n) q

-- on an edge: between two faces, with the outside across it, with the outside on both sides
unfoldable pub put_between : Size → List ℕ → ℕ → ℕ → ℕ → ℕ → List ℕ
put_between s m e x y d =
    let n = cell s edge_next m e in
    let t = twin e in
    let q = cell s edge_prev m t in
    pushed_face s (pushed_face s (pushed_face s (pushed_face s (apply_with s split_inner_edge_change m e x y d) e) n) t) q

unfoldable pub put_on_hull : Size → List ℕ → ℕ → ℕ → ℕ → ℕ → List ℕ
put_on_hull s m e x y d =
    let n = cell s edge_next m e in
    pushed_face s (pushed_face s (apply_with s split_hull_edge_change m e x y d) e) n

unfoldable pub put_on_line : Size → List ℕ → ℕ → ℕ → ℕ → ℕ → List ℕ
put_on_line s m e x y d =
    pick (cell s edge_next m e == twin e) (apply_with s split_line_end_change m e x y d) (apply_with s split_line_edge_change m e x y d)

unfoldable pub put_on_edge : Size → List ℕ → ℕ → ℕ → ℕ → ℕ → List ℕ
put_on_edge s m e x y d =
    pick (cell s edge_face m e == 0)
    (pick (cell s edge_face m (twin e) == 0) (put_on_line s m e x y d) (put_on_hull s m (twin e) x y d))
    (pick (cell s edge_face m (twin e) == 0) (put_on_hull s m e x y d) (put_between s m e x y d))

-- the first vertex, and the second
unfoldable pub put_alone : Size → List ℕ → ℕ → ℕ → ℕ → List ℕ
put_alone s m x y d = pick (vertices_in s m == 0) (first_put s m x y d) (second_put s m x y d)

abbrev pub put_at : Size → List ℕ → Where → ℕ → ℕ → ℕ → List ℕ
put_at s m (on_vertex v) x y d = put s vertex_data m v d
put_at s m (on_edge e) x y d = put_on_edge s m e x y d
put_at s m (in_face e) x y d = put_in_face s m e x y d
put_at s m (outside e) x y d = put_outside s m e x y d
put_at s m (beyond e) x y d = apply_with s extend_line_change m e x y d
put_at s m no_edge x y d = put_alone s m x y d

-- the number that the point gets, or has
abbrev pub number_at : Size → List ℕ → Where → ℕ
number_at s m (on_vertex v) = v
number_at s m (on_edge e) = vertices_in s m
number_at s m (in_face e) = vertices_in s m
number_at s m (outside e) = vertices_in s m
number_at s m (beyond e) = vertices_in s m
number_at s m no_edge = vertices_in s m

abbrev pub new_at : Where → Bool
new_at (on_vertex v) = false
new_at (on_edge e) = true
new_at (in_face e) = true
new_at (outside e) = true
new_at (beyond e) = true
new_at no_edge = true

-- put in, every edge right again, and the next walk starts there
unfoldable pub put_and_settled : Size → List ℕ → Where → ℕ → ℕ → ℕ → List ℕ
put_and_settled s m w x y d =
    let n = legalized s (put_at s m w x y d) in
    put s header n last_edge (cell s vertex_out n (number_at s m w))

-- no room for another vertex
unfoldable pub full_at : Size → List ℕ → Where → Bool
full_at s m w = new_at w && nat_le s.vertices (vertices_in s m)

unfoldable pub inserted : Size → List ℕ → ℕ → ℕ → ℕ → List ℕ
inserted s m x y d =
    let w = located s m (point x y) in
    pick (full_at s m w) m (put_and_settled s m w x y d)

unfoldable pub inserted_number : Size → List ℕ → ℕ → ℕ → Option ℕ
inserted_number s m x y =
    let w = located s m (point x y) in
    pick (full_at s m w) None (Some (number_at s m w))
