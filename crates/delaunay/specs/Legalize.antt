-- Flipping till every edge is right.
use Rattle.std.specs.Prelude.{ℕ, ◌+◌, ◌*◌, Bool, not, ◌&&◌, List, Some, None, Option, ◌==◌}
use Rattle.exact.specs.Plane.{pick}
use Rattle.dcel.specs.Layout.{Size, edge_next, edge_prev, edge_face}
use Rattle.dcel.specs.Map.{twin}
use Rattle.dcel.specs.Memory.{cell}
use Rattle.dcel.specs.Operations.{flipped}
use Rattle.delaunay.specs.Iterate.{or_else, iterate}
use Rattle.delaunay.specs.Places.{wrong_at}
use Rattle.delaunay.specs.Worklist.{pushed, first_listed, popped}

-- an edge between two faces that is not right
unfoldable pub to_flip : Size → List ℕ → ℕ → Bool
to_flip s m e = not (cell s edge_face m e == 0) && (not (cell s edge_face m (twin e) == 0) && wrong_at s m e)

-- flipped, with the four sides of its quadrilateral on the list
unfoldable pub turned : Size → List ℕ → ℕ → List ℕ
turned s m e =
    let t = twin e in
    pushed s (pushed s (pushed s (pushed s (flipped s m e) (cell s edge_next m e)) (cell s edge_prev m e)) (cell s edge_next m t)) (cell s edge_prev m t)

unfoldable pub settled_edge : Size → List ℕ → ℕ → List ℕ
settled_edge s m e = pick (to_flip s m e) (turned s m e) m

unfoldable pub settle : Size → List ℕ → Option (List ℕ)
settle s m = or_else (first_listed s m) None (λ e. Some (settled_edge s (popped s m) e))

-- more turns than any mesh takes: four times the largest volume below the paraboloid, and the edges
unfoldable pub settle_fuel : Size → ℕ
settle_fuel s = 4 * ((2 * s.vertices) * (4 * (s.coordinates * s.coordinates) * (6 * (s.coordinates * s.coordinates)))) + 3 * s.vertices

unfoldable pub legalized : Size → List ℕ → List ℕ
legalized s m = iterate (settle s) (settle_fuel s) m
