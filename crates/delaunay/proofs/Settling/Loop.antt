-- The loop ends with nothing on the list and every edge right: the fuel is more than four times the volume and all edges.
use Rattle.std.proofs.Common.{◌≡◌, ℕ, zero, suc, ◌+◌, ◌-◌, ◌*◌, ◌<◌, ◌≤◌, List, [], ◌∷◌, sym, refl, subst, inl, inr, mod-lt, mul-le-mul, arith, le_trans}
use Rattle.dcel.specs.Layout.{Size, header, vertex_x, vertex_y}
use Rattle.dcel.specs.Memory.{cell, map_of, half_edges_in, faces_in}
use Rattle.dcel.proofs.Becoming.{at_most_below}
use Rattle.dcel.proofs.Legal.Prisms.{Bounded, volume_small}
use Rattle.delaunay.specs.Iterate.{iterate}
use Rattle.delaunay.specs.Places.{place_of}
use Rattle.delaunay.specs.Worklist.{popped}
use Rattle.delaunay.specs.Legalize.{settled_edge, settle, settle_fuel, legalized}
use Rattle.delaunay.specs.Walk.{last_edge}
use Rattle.delaunay.specs.Kept.{Held, Unsettled, Settled, Triangulated}
use Rattle.delaunay.proofs.Loops.{iterate_stop, iterate_on}
use Rattle.delaunay.proofs.Listed.{settle_none}
use Rattle.delaunay.proofs.Settling.Beside.{SameVertices, same_vertices, same_vertices_then, beside_vertices}
use Rattle.delaunay.proofs.Settling.Words.{off_list, off_list_most}
use Rattle.delaunay.proofs.Settling.Popping.{nothing_first}
use Rattle.delaunay.proofs.Settling.Faces.{Pends}
use Rattle.delaunay.proofs.Settling.Turning.{volume_of, turn_taken, one_turn}

-- n is at rest, with the vertices of m
pub record Legalized (s : Size) (m n : List ℕ) : Type 0 where
  pub settled : Settled s n
  pub same : SameVertices s m n

module _ (s : Size) where
  at_end : (m : List ℕ) → Unsettled s m [] → Legalized s m m
  at_end m U = record {
    settled = record { held = U.held; at_rest = λ e h z z'. U.ready e h z z' (λ k. elim k [ inl a ↦ a.1 | inr a ↦ a.1 ]); lists = U.lists };
    same = same_vertices s m;
  }

  -- at each turn the volume and the edges on the list together fall, so the fuel lasts
  settles : (fuel : ℕ) (m l : List ℕ) → Unsettled s m l → 4 * volume_of s m + 3 * s.vertices ≤ fuel + off_list s m → Legalized s m (iterate (settle s) fuel m)
  settles fuel m [] U h = subst (Legalized s m) (sym (iterate_stop (settle s) fuel m (settle_none s m (sym (nothing_first s m U.lists))))) (at_end m U)
  settles zero m (i ∷ l) U h = let T = one_turn s m i l U in absurd (omega (arith, T.falls, off_list_most s (settled_edge s (popped s m) (2 * i))))
  settles (suc fuel) m (i ∷ l) U h =
      let n = settled_edge s (popped s m) (2 * i) in
      let T = one_turn s m i l U in
      let k : suc fuel - 1 ≡ fuel = omega arith in
      let L = settles fuel n T.list T.unsettled (omega (arith, T.falls)) in
      subst (Legalized s m) (sym (iterate_on (settle s) (suc fuel) m n (omega arith) (turn_taken s m i l U))) (rw k (record { settled = L.settled; same = same_vertices_then s m n _ T.same L.same }))

  -- a remainder by 0 is the number itself: at such a size the coordinates would have no limit, nor would the volume
  volume_most : (m : List ℕ) → 0 < s.coordinates → Held s m → volume_of s m ≤ (2 * s.vertices) * (4 * (s.coordinates * s.coordinates) * (6 * (s.coordinates * s.coordinates)))
  volume_most m c H = le_trans (volume_small s.coordinates (place_of s m) (map_of s m) H.holds.mesh.sound bounded) (mul-le-mul few (omega arith))
    where
      bounded : (v : ℕ) → v < (map_of s m).vertices → Bounded s.coordinates (place_of s m v)
      bounded v h = record { x_at_most = omega (arith, mod-lt (cell s vertex_x m v) c); y_at_most = omega (arith, mod-lt (cell s vertex_y m v) c); whole = refl }

      few : faces_in s m - 1 ≤ 2 * s.vertices
      few = omega (arith, at_most_below (2 * s.vertices) (cell s header m 2))

  pub legalized_settled : (m l : List ℕ) → 0 < s.coordinates → Unsettled s m l → Legalized s m (legalized s m)
  unfolding legalized settle_fuel
  legalized_settled m l c U = settles _ m l U (omega (arith, volume_most m c U.held))

  -- edges put on the list and then the loop; where the next walk starts is as good as it was
  pub pending_legalized : (m n : List ℕ) → 0 < s.coordinates → Pends s m n → Legalized s m (legalized s n)
  pending_legalized m n c P =
      let L = legalized_settled n P.list c P.unsettled in
      record { settled = L.settled; same = same_vertices_then s m n (legalized s n) (beside_vertices s m n P.beside) L.same }

  pub legalized_triangulated : (m n : List ℕ) → cell s header m last_edge < half_edges_in s m → Legalized s m n → Triangulated s n
  legalized_triangulated m n h L = record { settled = L.settled; last_in = omega (arith, L.same.header_is last_edge (omega arith), L.same.half_edges_are) }
