-- What is found is a vertex that no neighbour is nearer than; and what is found where there is no half edge.
use Rattle.std.proofs.Common.{◌≡◌, ℕ, ◌*◌, ◌<◌, ◌≤◌, false, eqb, ◌≢◌, List, Some, None, arith}
use Rattle.exact.specs.Plane.{Point, point}
use Rattle.exact.specs.Distance.{squared}
use Rattle.std.proofs.lemmas.Bool.{eq-eqb, ne_eqb}
use Rattle.exact.proofs.Geometry.Squared.{squared_bound}
use Rattle.dcel.specs.Layout.{Size}
use Rattle.dcel.specs.Map.{twin}
use Rattle.dcel.specs.Mesh.{Round}
use Rattle.dcel.specs.Memory.{map_of, vertices_in, half_edges_in}
use Rattle.delaunay.specs.Places.{place_of, from_of}
use Rattle.delaunay.specs.Walk.{located}
use Rattle.delaunay.specs.Nearest.{resume_at, resumed, far_from, nearest_edge, nearest_number, nearest_left}
use Rattle.delaunay.specs.Kept.{Triangulated}
use Rattle.delaunay.proofs.PointLocation.Located.{sound, located_right}
use Rattle.delaunay.proofs.NearestVertex.Resuming.{resume_in}
use Rattle.delaunay.proofs.NearestVertex.Search.{searched_right}

module _ (s : Size) (m : List ℕ) (T : Triangulated s m) (x y : ℕ) (hx : x < s.coordinates) (hy : y < s.coordinates) where
  abbrev p : Point
  p = point x y

  round : Round (map_of s m)
  round = T.settled.held.holds.mesh.round

  near : (e : ℕ) → far_from s m (point x y) e ≤ 2 * (s.coordinates * s.coordinates)
  unfolding far_from
  near e = squared_bound s.coordinates (from_of s m e) p (omega arith) (omega arith) hx hy

  first_in : resume_at s m (located s m (point x y)) < half_edges_in s m
  first_in = resume_in s m T p (located s m p) (located_right s m T x y)

  pub nearest_right : (nearest_edge s m (point x y) < half_edges_in s m)
      × ((g : ℕ) → g < half_edges_in s m → (map_of s m).origin g ≡ (map_of s m).origin (nearest_edge s m (point x y)) →
      squared (place_of s m ((map_of s m).origin (nearest_edge s m (point x y)))) (point x y) ≤ squared (place_of s m ((map_of s m).origin (twin g))) (point x y))
  unfolding nearest_edge far_from
  nearest_right = let e = resume_at s m (located s m p) in searched_right s m (sound s m T) round p e first_in (near e)

-- ---- with half edges, and without
module _ (s : Size) (m : List ℕ) (p : Point) where
  found : half_edges_in s m ≢ 0 → eqb (half_edges_in s m) 0 ≡ false
  found n = ne_eqb (half_edges_in s m) 0 n

  pub nearest_number_is : half_edges_in s m ≢ 0 → nearest_number s m p ≡ Some ((map_of s m).origin (nearest_edge s m p))
  unfolding nearest_number
  nearest_number_is n = rw (found n)

  pub nearest_left_is : half_edges_in s m ≢ 0 → nearest_left s m p ≡ resumed s m (nearest_edge s m p)
  unfolding nearest_left
  nearest_left_is n = rw (found n)

  pub nearest_left_alone : half_edges_in s m ≡ 0 → nearest_left s m p ≡ m
  unfolding nearest_left
  nearest_left_alone z = rw (eq-eqb (half_edges_in s m) 0 z)

  pub nearest_number_none : half_edges_in s m ≡ 0 → vertices_in s m ≡ 0 → nearest_number s m p ≡ None
  unfolding nearest_number
  nearest_number_none z v = rw (eq-eqb (half_edges_in s m) 0 z, eq-eqb (vertices_in s m) 0 v)

  pub nearest_number_alone : half_edges_in s m ≡ 0 → vertices_in s m ≢ 0 → nearest_number s m p ≡ Some 0
  unfolding nearest_number
  nearest_number_alone z v = rw (eq-eqb (half_edges_in s m) 0 z, ne_eqb (vertices_in s m) 0 v)
