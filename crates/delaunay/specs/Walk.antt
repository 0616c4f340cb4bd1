-- Walking to a point: across edges that have it strictly on their right, and along a line.
use Rattle.std.specs.Prelude.{ℕ, ◌+◌, ◌*◌, Bool, not, ◌&&◌, List, Some, None, Option, ◌==◌, nat_le}
use Rattle.exact.specs.Verdicts.{scalar}
use Rattle.exact.specs.Plane.{pick, below_0, Point, left_of, right_of, in_line, same_spot}
use Rattle.dcel.specs.Layout.{Size, header, edge_next, edge_prev, edge_face, edge_origin}
use Rattle.dcel.specs.Map.{twin}
use Rattle.dcel.specs.Memory.{cell, vertices_in, half_edges_in, faces_in}
use Rattle.delaunay.specs.Iterate.{iterate}
use Rattle.delaunay.specs.Places.{place_of, from_of, to_of}
use Rattle.delaunay.specs.Where.{Where, on_vertex, on_edge, in_face, outside, beyond, no_edge}

-- the word of the header that has the half edge where the last walk ended
abbrev pub last_edge : ℕ
last_edge = 4

-- is the point strictly right of e, on its line, strictly left?
unfoldable pub right_at : Size → List ℕ → ℕ → Point → Bool
right_at s m e p = right_of (from_of s m e) (to_of s m e) p

unfoldable pub on_at : Size → List ℕ → ℕ → Point → Bool
on_at s m e p = in_line (from_of s m e) (to_of s m e) p

unfoldable pub left_at : Size → List ℕ → ℕ → Point → Bool
left_at s m e p = left_of (from_of s m e) (to_of s m e) p

-- ACROSS FACES: from a half edge that does not have the point on its right, over one of the other two of its face that has
unfoldable pub crossed : Size → List ℕ → Point → ℕ → Option ℕ
crossed s m p e =
    let n = cell s edge_next m e in
    let q = cell s edge_prev m e in
    pick (cell s edge_face m e == 0) None (pick (right_at s m n p) (Some (twin n)) (pick (right_at s m q p) (Some (twin q)) None))

-- more steps than any walk takes: faces times vertices
unfoldable pub walk_fuel : Size → ℕ
walk_fuel s = (2 * s.vertices + 1) * (s.vertices + 1)

unfoldable pub walked : Size → List ℕ → Point → ℕ → ℕ
walked s m p e = iterate (crossed s m p) (walk_fuel s) e

-- a half edge of an inner face, or one that has the point strictly on its left
unfoldable pub inner_half : Size → List ℕ → ℕ → ℕ
inner_half s m e = pick (cell s edge_face m e == 0) (twin e) e

unfoldable pub facing : Size → List ℕ → Point → ℕ → ℕ
facing s m p e = pick (right_at s m e p) (twin e) e

-- in the closed face of e: at a corner, on a side, or inside
unfoldable pub in_face_of : Size → List ℕ → Point → ℕ → Where
in_face_of s m p e =
    let n = cell s edge_next m e in
    let q = cell s edge_prev m e in
    pick (on_at s m e p)
    (pick (on_at s m n p) (on_vertex (cell s edge_origin m n)) (pick (on_at s m q p) (on_vertex (cell s edge_origin m e)) (on_edge e)))
    (pick (on_at s m n p) (pick (on_at s m q p) (on_vertex (cell s edge_origin m q)) (on_edge n)) (pick (on_at s m q p) (on_edge q) (in_face e)))

unfoldable pub where_walked : Size → List ℕ → Point → ℕ → Where
where_walked s m p e = pick (cell s edge_face m e == 0) (outside e) (in_face_of s m p e)

-- ALONG A LINE: past the end of e, and there is another edge
unfoldable pub passed : Size → List ℕ → Point → ℕ → Bool
passed s m p e = below_0 (scalar (to_of s m e) (from_of s m e) p)

unfoldable pub went_on : Size → List ℕ → Point → ℕ → Option ℕ
went_on s m p e =
    let n = cell s edge_next m e in
    pick (passed s m p e && not (n == twin e)) (Some n) None

unfoldable pub line_fuel : Size → ℕ
line_fuel s = 6 * s.vertices

unfoldable pub along_line : Size → List ℕ → Point → ℕ → ℕ
along_line s m p e = iterate (went_on s m p) (line_fuel s) e

unfoldable pub where_on_line : Size → List ℕ → Point → ℕ → Where
where_on_line s m p e =
    pick (passed s m p e) (beyond e)
    (pick (same_spot (to_of s m e) p) (on_vertex (cell s edge_origin m (twin e)))
    (pick (same_spot (from_of s m e) p) (on_vertex (cell s edge_origin m e)) (on_edge e)))

-- from the half that has the point not behind it
unfoldable pub where_by_line : Size → List ℕ → Point → ℕ → Where
where_by_line s m p e =
    pick (left_at s m e p) (outside e)
    (pick (right_at s m e p) (outside (twin e)) (where_on_line s m p (along_line s m p (pick (passed s m p (twin e)) (twin e) e))))

-- without an edge there is one vertex at most
unfoldable pub where_alone : Size → List ℕ → Point → Where
where_alone s m p = pick (vertices_in s m == 1 && same_spot (place_of s m 0) p) (on_vertex 0) no_edge

unfoldable pub where_faces : Size → List ℕ → Point → ℕ → Where
where_faces s m p e = where_walked s m p (walked s m p (facing s m p (inner_half s m e)))

-- WHERE the point is, walking from where the last walk ended
unfoldable pub located : Size → List ℕ → Point → Where
located s m p =
    pick (half_edges_in s m == 0) (where_alone s m p)
    (pick (nat_le (faces_in s m) 1) (where_by_line s m p (cell s header m last_edge)) (where_faces s m p (cell s header m last_edge)))
