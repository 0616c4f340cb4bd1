-- The surgeries write nothing but words, so they keep what the writing of words keeps.
use Rattle.std.proofs.Common.{ℕ, ◌*◌, ◌≤◌, List, arith}
use Rattle.dcel.specs.Layout.{Size}
use Rattle.dcel.specs.Map.{Map}
use Rattle.dcel.specs.Patch.{Change}
use Rattle.dcel.specs.Surgery.{flip_change, split_face_change, attach_change, ear_change}
use Rattle.dcel.specs.EdgeSurgery.{split_inner_edge_change, split_hull_edge_change, split_line_edge_change, split_line_end_change, extend_line_change}
use Rattle.dcel.specs.Memory.{map_of, vertices_in, half_edges_in, faces_in}
use Rattle.dcel.specs.Operations.{apply_with, flipped, ear_closed}
use Rattle.dcel.specs.Start.{bare_change, pair_change, cleared, first_put, second_put}
use Rattle.dcel.proofs.Becoming.{at_most_below}
use Rattle.dcel.proofs.Steady.Writes.{Keeping, WordChange, vertex_written, rewired, applied}

-- the counts are no more than there is room for
pub record Counted (s : Size) (m : List ℕ) : Type 0 where
  pub vertices_few : vertices_in s m ≤ s.vertices
  pub half_edges_few : half_edges_in s m ≤ 6 * s.vertices
  pub faces_few : faces_in s m ≤ 2 * s.vertices

pub counted : (s : Size) (m : List ℕ) → Counted s m
counted s m = record { vertices_few = at_most_below s.vertices _; half_edges_few = at_most_below (6 * s.vertices) _; faces_few = at_most_below (2 * s.vertices) _ }

module _ (s : Size) (P : List ℕ → Type 0) (W : ℕ → Type 0) (K : Keeping s P W) where
  -- what a change at a half edge writes are words
  abbrev pub WordsOnly : (Map → ℕ → Change) → Type 0
  WordsOnly change = (m : List ℕ) (e : ℕ) → P m → W e → Counted s m → WordChange W (change (map_of s m) e)

  flip_words : WordsOnly flip_change
  flip_words m e p w c = search (K.read, K.twinned, K.few, p, w, arith) depth 20

  pub split_face_words : WordsOnly split_face_change
  split_face_words m e p w c = search (K.read, K.twinned, K.few, p, w, arith) depth 20

  pub attach_words : WordsOnly attach_change
  attach_words m e p w c = search (K.read, K.twinned, K.few, p, w, arith) depth 20

  ear_words : WordsOnly ear_change
  ear_words m e p w c = search (K.read, K.twinned, K.few, p, w, arith) depth 20

  pub split_inner_edge_words : WordsOnly split_inner_edge_change
  split_inner_edge_words m e p w c = search (K.read, K.twinned, K.few, p, w, arith) depth 20

  pub split_hull_edge_words : WordsOnly split_hull_edge_change
  split_hull_edge_words m e p w c = search (K.read, K.twinned, K.few, p, w, arith) depth 20

  pub split_line_edge_words : WordsOnly split_line_edge_change
  split_line_edge_words m e p w c = search (K.read, K.twinned, K.few, p, w, arith) depth 20

  pub split_line_end_words : WordsOnly split_line_end_change
  split_line_end_words m e p w c = search (K.read, K.twinned, K.few, p, w, arith) depth 20

  pub extend_line_words : WordsOnly extend_line_change
  extend_line_words m e p w c = search (K.read, K.twinned, K.few, p, w, arith) depth 20

  pub flip_keeps : (m : List ℕ) (e : ℕ) → P m → W e → P (flipped s m e)
  flip_keeps m e p w = rewired s P W K (flip_change (map_of s m) e) m p (flip_words m e p w (counted s m))

  pub ear_keeps : (m : List ℕ) (e : ℕ) → P m → W e → P (ear_closed s m e)
  ear_keeps m e p w = applied s P W K (ear_change (map_of s m) e) m p (ear_words m e p w (counted s m))

  pub growth_keeps : (change : Map → ℕ → Change) → WordsOnly change → (m : List ℕ) (e : ℕ) {x y d : ℕ} → P m → W e → W x → W y → W d → P (apply_with s change m e x y d)
  growth_keeps change only m e p w a b d =
      applied s P W K (change (map_of s m) e) _ (vertex_written s P W K (vertices_in s m) p a b d) (only m e p w (counted s m))

  -- the first vertices
  bare_words : (k : ℕ) → k ≤ 1 → WordChange W (bare_change k)
  bare_words k h = search (K.few, arith) depth 20

  pair_words : WordChange W pair_change
  pair_words = search (K.few, arith) depth 20

  pub cleared_keeps : (m : List ℕ) → P m → P (cleared s m)
  cleared_keeps m p = applied s P W K (bare_change 0) m p (bare_words 0 (omega arith))

  pub first_keeps : (m : List ℕ) {x y d : ℕ} → P m → W x → W y → W d → P (first_put s m x y d)
  first_keeps m p a b d = applied s P W K (bare_change 1) _ (vertex_written s P W K 0 p a b d) (bare_words 1 (omega arith))

  pub second_keeps : (m : List ℕ) {x y d : ℕ} → P m → W x → W y → W d → P (second_put s m x y d)
  second_keeps m p a b d = applied s P W K pair_change _ (vertex_written s P W K 1 p a b d) pair_words
