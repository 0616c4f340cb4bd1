-- Small triangulations, worked out: what the definitions say of them, as far as finitely many points say it.
use Rattle.std.specs.Prelude.{◌≡◌, ℕ, ◌+◌, ◌*◌, Bool, true, false, List, [], ◌∷◌, length}
use Rattle.exact.specs.Plane.{every, those, Vertex, vertex, Tri, tri, point, a_triangle, empty_circle, no_twice, all_apart, on_a_line, all_numbers, joined}
use Rattle.triangles.specs.House.{House, house, remove, refusal, vertices_after, Located, Nearest, HullRow}
use Rattle.triangles.specs.Promise.{on_hull}

-- vertices apart and not on a line; triangles that turn to the left, none twice, with nothing inside their circles, as many as there must be
unfoldable pub RightSoFar : List Vertex → List Tri → Type 0
RightSoFar vs ts =
    (all_apart vs ≡ true) × (on_a_line vs ≡ false) × (every (a_triangle vs) ts ≡ true) × (no_twice ts ≡ true) × (every (empty_circle vs) ts ≡ true)
    × (length ts + 2 + length (those (on_hull vs ts) (all_numbers vs)) ≡ 2 * length vs)

-- A RECTANGLE with a point inside
abbrev pub rectangle : List Vertex
rectangle = vertex 0 0 10 ∷ vertex 4 0 11 ∷ vertex 4 3 12 ∷ vertex 0 3 13 ∷ vertex 2 1 14 ∷ []

abbrev pub fan : List Tri
fan = tri 2 3 4 ∷ tri 0 4 3 ∷ tri 0 1 4 ∷ tri 1 2 4 ∷ []

abbrev pub fanned : House
fanned = house rectangle fan

abbrev pub RectangleFanned : Type 0
RectangleFanned = RightSoFar rectangle fan

abbrev pub RectangleHull : Type 0
RectangleHull = HullRow fanned (0 ∷ 3 ∷ 2 ∷ 1 ∷ [])

-- on the edge from 0 to 1, told either way; inside 1 2 4; outside at the edge from 2 to 1
abbrev pub RectangleLocated : Type 0
RectangleLocated =
    Located fanned (point 2 0) (1 ∷ 0 ∷ 1 ∷ []) × Located fanned (point 2 0) (1 ∷ 1 ∷ 0 ∷ []) × Located fanned (point 3 1) (2 ∷ 1 ∷ 2 ∷ 4 ∷ [])
    × Located fanned (point 5 1) (3 ∷ 2 ∷ 1 ∷ [])

abbrev pub RectangleNearest : Type 0
RectangleNearest = Nearest fanned (point 2 2) (4 ∷ [])

-- number 0 goes: the last one, 4, is 0 now, and the others stay
abbrev pub RectangleLess : Type 0
RectangleLess =
    (refusal fanned (remove 0) ≡ 0) × (vertices_after fanned (remove 0) ≡ vertex 2 1 14 ∷ vertex 4 0 11 ∷ vertex 4 3 12 ∷ vertex 0 3 13 ∷ [])
    × RightSoFar (vertices_after fanned (remove 0)) (tri 0 1 2 ∷ tri 0 2 3 ∷ [])

-- A SQUARE: its corners are on one circle, and either diagonal will do
abbrev pub square_of_6 : List Vertex
square_of_6 = vertex 0 0 0 ∷ vertex 6 0 0 ∷ vertex 6 6 0 ∷ vertex 0 6 0 ∷ []

abbrev pub SquareEitherWay : Type 0
SquareEitherWay = RightSoFar square_of_6 (tri 0 1 2 ∷ tri 0 2 3 ∷ []) × RightSoFar square_of_6 (tri 0 1 3 ∷ tri 1 2 3 ∷ [])

-- A LINE: no triangles, and an edge between neighbours alone
abbrev pub row : List Vertex
row = vertex 1 1 0 ∷ vertex 3 1 0 ∷ vertex 2 1 0 ∷ vertex 5 1 0 ∷ []

abbrev pub edge : ℕ → ℕ → Bool
edge a b = joined row [] a b

abbrev pub RowJoined : Type 0
RowJoined =
    (on_a_line row ≡ true) × (edge 0 2 ≡ true) × (edge 2 1 ≡ true) × (edge 1 3 ≡ true) × (edge 0 1 ≡ false) × (edge 0 3 ≡ false) × (edge 2 3 ≡ false)
