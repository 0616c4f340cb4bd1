-- Wherever a walk ends, the numbers of vertices and half edges that it tells are words.
use Rattle.std.proofs.Common.{ℕ, not, ◌&&◌, eqb, leb, List, arith}
use Rattle.exact.specs.Plane.{Point, same_spot}
use Rattle.dcel.specs.Layout.{Size, header, edge_next, edge_prev, edge_face}
use Rattle.dcel.specs.Map.{twin}
use Rattle.dcel.specs.Memory.{cell, vertices_in, half_edges_in, faces_in}
use Rattle.dcel.proofs.Steady.Writes.{Keeping}
use Rattle.delaunay.specs.Places.{place_of, from_of, to_of}
use Rattle.delaunay.specs.Where.{Where, on_vertex, on_edge, in_face, outside, beyond, no_edge}
use Rattle.delaunay.specs.Walk.{last_edge, right_at, on_at, left_at, crossed, walk_fuel, walked, inner_half, facing, in_face_of, where_walked, passed, went_on, line_fuel, along_line, where_on_line, where_by_line, where_alone, where_faces, located}
use Rattle.delaunay.proofs.Steady.Listing.{Has, either_way, iterate_keeps}

abbrev pub WordPlace : (ℕ → Type 0) → Where → Type 0
WordPlace W (on_vertex v) = W v
WordPlace W (on_edge e) = W e
WordPlace W (in_face e) = W e
WordPlace W (outside e) = W e
WordPlace W (beyond e) = W e
WordPlace W no_edge = Unit {0}

module _ (s : Size) (P : List ℕ → Type 0) (W : ℕ → Type 0) (K : Keeping s P W) (m : List ℕ) (p : P m) (q : Point) where
  -- across faces
  crossed_word : (e : ℕ) → W e → Has W (crossed s m q e)
  unfolding crossed
  crossed_word e w =
      either_way (Has W) (eqb (cell s edge_face m e) 0) _ _ tt (either_way (Has W) (right_at s m (cell s edge_next m e) q) _ _ (K.twinned (K.read _ _ p))
      (either_way (Has W) (right_at s m (cell s edge_prev m e) q) _ _ (K.twinned (K.read _ _ p)) tt))

  walked_word : (e : ℕ) → W e → W (walked s m q e)
  unfolding walked
  walked_word e w = iterate_keeps W (crossed s m q) crossed_word (walk_fuel s) e w

  inner_half_word : (e : ℕ) → W e → W (inner_half s m e)
  unfolding inner_half
  inner_half_word e w = either_way W (eqb (cell s edge_face m e) 0) _ _ (K.twinned w) w

  facing_word : (e : ℕ) → W e → W (facing s m q e)
  unfolding facing
  facing_word e w = either_way W (right_at s m e q) _ _ (K.twinned w) w

  in_face_word : (e : ℕ) → W e → WordPlace W (in_face_of s m q e)
  unfolding in_face_of
  in_face_word e w =
      let on_next = on_at s m (cell s edge_next m e) q in
      let on_prev = on_at s m (cell s edge_prev m e) q in
      either_way (WordPlace W) (on_at s m e q) _ _
      (either_way (WordPlace W) on_next _ _ (K.read _ _ p) (either_way (WordPlace W) on_prev _ _ (K.read _ _ p) w))
      (either_way (WordPlace W) on_next _ _ (either_way (WordPlace W) on_prev _ _ (K.read _ _ p) (K.read _ _ p)) (either_way (WordPlace W) on_prev _ _ (K.read _ _ p) w))

  where_walked_word : (e : ℕ) → W e → WordPlace W (where_walked s m q e)
  unfolding where_walked
  where_walked_word e w = either_way (WordPlace W) (eqb (cell s edge_face m e) 0) _ _ w (in_face_word e w)

  where_faces_word : (e : ℕ) → W e → WordPlace W (where_faces s m q e)
  unfolding where_faces
  where_faces_word e w = where_walked_word _ (walked_word _ (facing_word _ (inner_half_word e w)))

  -- along a line
  went_on_word : (e : ℕ) → W e → Has W (went_on s m q e)
  unfolding went_on
  went_on_word e w = either_way (Has W) (passed s m q e && not (eqb (cell s edge_next m e) (twin e))) _ _ (K.read _ _ p) tt

  along_line_word : (e : ℕ) → W e → W (along_line s m q e)
  unfolding along_line
  along_line_word e w = iterate_keeps W (went_on s m q) went_on_word (line_fuel s) e w

  where_on_line_word : (e : ℕ) → W e → WordPlace W (where_on_line s m q e)
  unfolding where_on_line
  where_on_line_word e w =
      either_way (WordPlace W) (passed s m q e) _ _ w
      (either_way (WordPlace W) (same_spot (to_of s m e) q) _ _ (K.read _ _ p) (either_way (WordPlace W) (same_spot (from_of s m e) q) _ _ (K.read _ _ p) w))

  where_by_line_word : (e : ℕ) → W e → WordPlace W (where_by_line s m q e)
  unfolding where_by_line
  where_by_line_word e w =
      either_way (WordPlace W) (left_at s m e q) _ _ w
      (either_way (WordPlace W) (right_at s m e q) _ _ (K.twinned w) (where_on_line_word _ (along_line_word _ (either_way W (passed s m q (twin e)) _ _ (K.twinned w) w))))

  where_alone_word : WordPlace W (where_alone s m q)
  unfolding where_alone
  where_alone_word = either_way (WordPlace W) (eqb (vertices_in s m) 1 && same_spot (place_of s m 0) q) _ _ (K.few (omega arith)) tt

  pub located_word : WordPlace W (located s m q)
  unfolding located
  located_word =
      let last : W (cell s header m last_edge) = K.read _ _ p in
      either_way (WordPlace W) (eqb (half_edges_in s m) 0) _ _ where_alone_word (either_way (WordPlace W) (leb (faces_in s m) 1) _ _ (where_by_line_word _ last) (where_faces_word _ last))
