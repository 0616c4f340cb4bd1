-- What memory keeps: a mesh with its vertices at their places, every edge right, nothing on the list. And what it is for a place to be told right.
use Rattle.std.specs.Prelude.{◌≡◌, ℕ, ◌+◌, ◌*◌, ◌<◌, ◌≤◌, true, ◌≢◌, ◌⊎◌, List, [], ◌∷◌}
use Rattle.exact.specs.Plane.{each, up_to, Point, Vertex, vertex, left_of}
use Rattle.dcel.specs.Layout.{Size, header, vertex_data, worklist}
use Rattle.dcel.specs.Map.{twin}
use Rattle.dcel.specs.Memory.{cell, map_of, x_in, y_in, vertices_in, half_edges_in}
use Rattle.dcel.specs.Holds.{Holds}
use Rattle.dcel.specs.Start.{Bare}
use Rattle.dcel.specs.Geometry.{strictly_between, from, to, apex, Geometric, AtRest}
use Rattle.dcel.specs.Legal.{Ready}
use Rattle.delaunay.specs.Places.{place_of}
use Rattle.delaunay.specs.Walk.{last_edge}
use Rattle.delaunay.specs.Where.{Where, on_vertex, on_edge, in_face, outside, beyond, no_edge}
use Rattle.delaunay.specs.Worklist.{list_head}

-- the vertices in memory, by their numbers
abbrev pub vertices_of : Size → List ℕ → List Vertex
vertices_of s m = each (λ v. vertex (x_in s m v) (y_in s m v) (cell s vertex_data m v)) (up_to (vertices_in s m))

-- a mesh with its vertices at their places
pub record Held (s : Size) (m : List ℕ) : Type 0 where
  pub holds : Holds s m
  pub geometric : Geometric (place_of s m) (map_of s m)

-- the edges of a list are linked from the head on, each once, and no other is
abbrev pub Linked : Size → List ℕ → ℕ → List ℕ → Type 0
Linked s m h [] = h ≡ 0
Linked s m h (i ∷ l) = (h ≡ i + 1) × (i < 3 * s.vertices) × ((k : ℕ) × (cell s worklist m i ≡ k + 1) × Linked s m k l)

abbrev pub AmongListed : ℕ → List ℕ → Type 0
AmongListed i [] = ⊥
AmongListed i (j ∷ l) = (i ≡ j) ⊎ AmongListed i l

pub record Lists (s : Size) (m : List ℕ) (l : List ℕ) : Type 0 where
  pub linked : Linked s m (cell s header m list_head) l
  pub others : (i : ℕ) → (AmongListed i l → ⊥) → cell s worklist m i ≡ 0

-- a half edge of a listed edge
abbrev pub HalfListed : List ℕ → ℕ → Type 0
HalfListed l e = (i : ℕ) × AmongListed i l × ((e ≡ 2 * i) ⊎ (e ≡ 2 * i + 1))

-- in the middle of an insertion: every edge that is not on the list is right
pub record Unsettled (s : Size) (m : List ℕ) (l : List ℕ) : Type 0 where
  pub held : Held s m
  pub lists : Lists s m l
  pub listed_in : (i : ℕ) → AmongListed i l → 2 * i < half_edges_in s m
  pub ready : Ready (place_of s m) (map_of s m) (HalfListed l)

-- at rest
pub record Settled (s : Size) (m : List ℕ) : Type 0 where
  pub held : Held s m
  pub at_rest : AtRest (place_of s m) (map_of s m)
  pub lists : Lists s m []

-- and the next walk has an edge to start from
pub record Triangulated (s : Size) (m : List ℕ) : Type 0 where
  pub settled : Settled s m
  pub last_in : cell s header m last_edge < half_edges_in s m

-- a place told right: on a vertex; strictly between the ends of an edge; strictly inside a face; outside, strictly left of an outer half edge; on a line, past the end of its last half edge
abbrev pub RightPlace : Size → List ℕ → Point → Where → Type 0
RightPlace s m p (on_vertex v) = (v < vertices_in s m) × (place_of s m v ≡ p)
RightPlace s m p (on_edge e) = (e < half_edges_in s m) × (strictly_between (from (place_of s m) (map_of s m) e) (to (place_of s m) (map_of s m) e) p ≡ true)
RightPlace s m p (in_face e) =
    (e < half_edges_in s m) × ((map_of s m).face e ≢ 0)
    × (left_of (from (place_of s m) (map_of s m) e) (to (place_of s m) (map_of s m) e) p ≡ true)
    × (left_of (to (place_of s m) (map_of s m) e) (apex (place_of s m) (map_of s m) e) p ≡ true)
    × (left_of (apex (place_of s m) (map_of s m) e) (from (place_of s m) (map_of s m) e) p ≡ true)
RightPlace s m p (outside e) = (e < half_edges_in s m) × ((map_of s m).face e ≡ 0) × (left_of (from (place_of s m) (map_of s m) e) (to (place_of s m) (map_of s m) e) p ≡ true)
RightPlace s m p (beyond e) =
    ((map_of s m).faces ≤ 1) × (e < half_edges_in s m) × ((map_of s m).next e ≡ twin e)
    × (strictly_between (from (place_of s m) (map_of s m) e) p (to (place_of s m) (map_of s m) e) ≡ true)
RightPlace s m p no_edge = ⊥

-- memory that stands for a triangulation: no vertex, one, or a mesh at rest
abbrev pub Standing : Size → List ℕ → Type 0
Standing s m = (Bare s 0 m × Lists s m []) ⊎ ((Bare s 1 m × Lists s m []) ⊎ Triangulated s m)
