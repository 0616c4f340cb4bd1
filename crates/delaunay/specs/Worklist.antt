-- The list of edges to look at, linked through one word for each edge: 0 off the list, and on it one more than the head that was when it came. So none is on it twice.
use Rattle.std.specs.Prelude.{ℕ, ◌+◌, ◌-◌, ◌*◌, ◌/◌, List, Some, None, Option, ◌==◌}
use Rattle.exact.specs.Plane.{pick}
use Rattle.dcel.specs.Layout.{Size, header, worklist, edge_next, edge_prev}
use Rattle.dcel.specs.Memory.{cell, put, at_most}

-- the word of the header that has the head: 0 for none, or one more than an edge
abbrev pub list_head : ℕ
list_head = 3

abbrev pub head_of : Size → List ℕ → ℕ
head_of s m = at_most (3 * s.vertices) (cell s header m list_head)

-- an edge, by one of its half edges, comes on
unfoldable pub pushed : Size → List ℕ → ℕ → List ℕ
pushed s m e =
    pick (cell s worklist m (e / 2) == 0) (put s header (put s worklist m (e / 2) (head_of s m + 1)) list_head (e / 2 + 1)) m

-- the three edges of a face, by one of them
unfoldable pub pushed_face : Size → List ℕ → ℕ → List ℕ
pushed_face s m e = pushed s (pushed s (pushed s m e) (cell s edge_next m e)) (cell s edge_prev m e)

-- the first one, by a half edge of it, and what is left
unfoldable pub first_listed : Size → List ℕ → Option ℕ
first_listed s m = pick (head_of s m == 0) None (Some (2 * (head_of s m - 1)))

unfoldable pub popped : Size → List ℕ → List ℕ
popped s m =
    pick (head_of s m == 0) m
    (put s worklist (put s header m list_head (cell s worklist m (head_of s m - 1) - 1)) (head_of s m - 1) 0)
