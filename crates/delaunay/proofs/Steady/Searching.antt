-- Locating a place and searching for the nearest vertex keep what the writing of words keeps.
use Rattle.std.proofs.Common.{ℕ, eqb, ltb, List, arith}
use Rattle.exact.specs.Plane.{Point}
use Rattle.dcel.specs.Layout.{Size, edge_prev}
use Rattle.dcel.specs.Map.{twin}
use Rattle.dcel.specs.Memory.{cell, vertices_in, half_edges_in}
use Rattle.dcel.proofs.Steady.Writes.{Keeping}
use Rattle.delaunay.specs.Where.{Where, on_vertex, on_edge, in_face, outside, beyond, no_edge}
use Rattle.delaunay.specs.Nearest.{resume_at, resumed, visited, Look, look, far_from, looked, nearest_fuel, searched, nearest_edge, nearest_number, nearest_left}
use Rattle.delaunay.proofs.Steady.Listing.{Has, either_way, iterate_keeps}
use Rattle.delaunay.proofs.Steady.Walking.{WordPlace, located_word}

module _ (s : Size) (P : List ℕ → Type 0) (W : ℕ → Type 0) (K : Keeping s P W) (m : List ℕ) (p : P m) (q : Point) where
  resume_word : (at : Where) → WordPlace W at → W (resume_at s m at)
  resume_word (on_vertex v) w = K.read _ _ p
  resume_word (on_edge e) w = w
  resume_word (in_face e) w = w
  resume_word (outside e) w = w
  resume_word (beyond e) w = w
  resume_word no_edge w = K.read _ _ p

  resumed_keeps : (e : ℕ) → W e → P (resumed s m e)
  unfolding resumed
  resumed_keeps e w = K.written _ _ p w

  pub visited_keeps : P (visited s m q)
  unfolding visited
  visited_keeps = resumed_keeps _ (resume_word _ (located_word s P W K m p q))

  -- the half edge that is looked along
  abbrev Along : Look → Type 0
  Along l = W l.edge

  looked_word : (l : Look) → Along l → Has Along (looked s m q l)
  unfolding looked
  looked_word l w =
      either_way (Has Along) (ltb (far_from s m q (twin l.edge)) l.far) _ _ (K.twinned w)
      (either_way (Has Along) (eqb (twin (cell s edge_prev m l.edge)) l.since) _ _ tt (K.twinned (K.read _ _ p)))

  searched_word : (e : ℕ) → W e → W (searched s m q e)
  unfolding searched
  searched_word e w = iterate_keeps Along (looked s m q) looked_word (nearest_fuel s) (look e e (far_from s m q e)) w

  nearest_edge_word : W (nearest_edge s m q)
  unfolding nearest_edge
  nearest_edge_word = searched_word _ (resume_word _ (located_word s P W K m p q))

  pub nearest_left_keeps : P (nearest_left s m q)
  unfolding nearest_left
  nearest_left_keeps = either_way P (eqb (half_edges_in s m) 0) _ _ p (resumed_keeps _ nearest_edge_word)

  pub nearest_number_word : Has W (nearest_number s m q)
  unfolding nearest_number
  nearest_number_word =
      either_way (Has W) (eqb (half_edges_in s m) 0) _ _ (either_way (Has W) (eqb (vertices_in s m) 0) _ _ tt (K.few (omega arith))) (K.read _ _ p)
