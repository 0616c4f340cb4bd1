-- The vertex nearest to a place: from where the walk ended, to a neighbour that is nearer, till none is. And where the next walk starts.
use Rattle.std.specs.Prelude.{ℕ, ◌+◌, ◌*◌, List, Some, None, Option, ◌==◌, nat_lt}
use Rattle.exact.specs.Plane.{pick, Point}
use Rattle.exact.specs.Distance.{squared}
use Rattle.dcel.specs.Layout.{Size, header, vertex_out, edge_prev, edge_origin}
use Rattle.dcel.specs.Map.{twin}
use Rattle.dcel.specs.Memory.{cell, put, vertices_in, half_edges_in}
use Rattle.delaunay.specs.declared.nearest.Look.{Look as LookOn}
use Rattle.delaunay.specs.Iterate.{iterate}
use Rattle.delaunay.specs.Places.{from_of}
use Rattle.delaunay.specs.Where.{Where, on_vertex, on_edge, in_face, outside, beyond, no_edge}
use Rattle.delaunay.specs.Walk.{last_edge, located}

-- THE NEXT WALK: the half edge at which it starts, by where the last one ended
abbrev pub resume_at : Size → List ℕ → Where → ℕ
resume_at s m (on_vertex v) = cell s vertex_out m v
resume_at s m (on_edge e) = e
resume_at s m (in_face e) = e
resume_at s m (outside e) = e
resume_at s m (beyond e) = e
resume_at s m no_edge = cell s header m last_edge

-- memory with that half edge kept for it
unfoldable pub resumed : Size → List ℕ → ℕ → List ℕ
resumed s m e = put s header m last_edge e

-- memory after a place was located
unfoldable pub visited : Size → List ℕ → Point → List ℕ
visited s m p = resumed s m (resume_at s m (located s m p))

-- A ROUND about a vertex: the half edge that is looked along, the one that the round began with, the squared distance of the vertex from the place
pub record Look : Type 0 where
  pub edge : ℕ
  pub since : ℕ
  pub far : ℕ

abbrev pub look : ℕ → ℕ → ℕ → Look
look e g d = record { edge = e; since = g; far = d }

abbrev pub look_of : LookOn → Look
look_of l = look l.edge.0 l.since.0 l.far

-- the squared distance of the start of a half edge
unfoldable pub far_from : Size → List ℕ → Point → ℕ → ℕ
far_from s m p e = squared (from_of s m e) p

-- one turn: to the end of the half edge if that is strictly nearer, with a new round; else to the next one that leaves the vertex, till the round is done
unfoldable pub looked : Size → List ℕ → Point → Look → Option Look
looked s m p l =
    let t = twin l.edge in
    let d = far_from s m p t in
    let n = twin (cell s edge_prev m l.edge) in
    pick (nat_lt d l.far) (Some (look t t d)) (pick (n == l.since) None (Some (look n l.since l.far)))

-- more turns than any search takes: squared distances times half edges
unfoldable pub nearest_fuel : Size → ℕ
nearest_fuel s = (2 * (s.coordinates * s.coordinates) + 1) * (6 * s.vertices + 1)

-- the half edge at the end of the search that starts with e
unfoldable pub searched : Size → List ℕ → Point → ℕ → ℕ
searched s m p e = (iterate (looked s m p) (nearest_fuel s) (look e e (far_from s m p e))).edge

-- THE NEAREST: a half edge that leaves it, its number, and memory afterwards
unfoldable pub nearest_edge : Size → List ℕ → Point → ℕ
nearest_edge s m p = searched s m p (resume_at s m (located s m p))

unfoldable pub nearest_number : Size → List ℕ → Point → Option ℕ
nearest_number s m p =
    pick (half_edges_in s m == 0) (pick (vertices_in s m == 0) None (Some 0)) (Some (cell s edge_origin m (nearest_edge s m p)))

unfoldable pub nearest_left : Size → List ℕ → Point → List ℕ
nearest_left s m p = pick (half_edges_in s m == 0) m (resumed s m (nearest_edge s m p))
