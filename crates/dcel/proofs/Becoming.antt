-- Memory that holds a mesh holds one after a surgery: the patched one.
use Rattle.std.proofs.Common.{◌≡◌, ℕ, ◌*◌, ◌%◌, ◌<◌, ◌≤◌, List, length, sym, refl, ap, ◌∙◌, subst, inl, inr, arith, le_of_lt, le_refl, le_antisymm}
use Rattle.std.proofs.Math.Path.{fun_ext}
use Rattle.std.proofs.lemmas.Bool.{lt-ltb, le-ltb, cases_lt}
use Rattle.dcel.specs.Layout.{Size, Table, header, vertex_x, vertex_y, vertex_data, vertex_out, edge_next, edge_prev, edge_face, edge_origin, face_edge, worklist, total}
use Rattle.dcel.specs.Pairs.{Source, changed, reversed}
use Rattle.dcel.specs.Mesh.{Mesh}
use Rattle.dcel.specs.Patch.{Change, Patch, patch_of, patched}
use Rattle.dcel.specs.Memory.{cell, put_vertex, put_all, counts, rewire, apply, at_most, map_of}
use Rattle.dcel.specs.Holds.{Holds, Sites, sites_of, with_site, Rewritten, Becomes}
use Rattle.dcel.proofs.Places.{OtherTable}
use Rattle.dcel.proofs.Changes.{changed_off}
use Rattle.dcel.proofs.Cells.{all_same, all_other, length_put_all}
use Rattle.dcel.proofs.NewVertex.{SameMesh, same_mesh, vertex_same_mesh, vertex_sites}
use Rattle.dcel.proofs.Fits.{is_patched}
use Rattle.dcel.proofs.Surgeries.{Surgery, surgery_mesh, Room, counts_room}
use Rattle.dcel.proofs.Applied.{InRange, in_range, rewire_other, length_rewire, map_is}

pub at_most_same : (limit n : ℕ) → n ≤ limit → at_most limit n ≡ n
unfolding at_most
at_most_same limit n h = elim (cases_lt n limit) [ inl l ↦ rw (lt-ltb n limit l) | inr l ↦ rw (le-ltb n limit l) (le_antisymm l h) ]

pub at_most_below : (limit n : ℕ) → at_most limit n ≤ limit
unfolding at_most
at_most_below limit n = elim (cases_lt n limit) [ inl l ↦ rw (lt-ltb n limit l) (le_of_lt l) | inr l ↦ rw (le-ltb n limit l) (le_refl limit) ]

-- what a change writes, whatever mesh it makes
module _ (s : Size) (m : List ℕ) (z : length m ≡ total s) (c : Change) (range : InRange s (patch_of c)) where
  -- a change that leaves the counts
  pub rewired : c.vertices ≡ (map_of s m).vertices → c.half_edges ≡ (map_of s m).half_edges → c.faces ≡ (map_of s m).faces → Rewritten s m (patch_of c) (sites_of s m) (rewire s c m)
  rewired a b d =
      let n : List ℕ = rewire s c m in
      let head : (i : ℕ) → cell s header n i ≡ cell s header m i = rewire_other s c m header (refl, refl, refl, refl, refl, refl) in
      record {
        long = length_rewire s c m ∙ z;
        map_is = map_is s c m z range c.vertices c.half_edges c.faces
            (ap (at_most s.vertices) (head 0) ∙ sym a) (ap (at_most (6 * s.vertices)) (head 1) ∙ sym b) (ap (at_most (2 * s.vertices)) (head 2) ∙ sym d);
        sites_are = λ i. record {
          x = fun_ext (λ j. ap (λ (k : ℕ). k % s.coordinates) (rewire_other s c m vertex_x (refl, refl, refl, refl, refl, refl) j)) i;
          y = fun_ext (λ j. ap (λ (k : ℕ). k % s.coordinates) (rewire_other s c m vertex_y (refl, refl, refl, refl, refl, refl) j)) i;
          data_of = fun_ext (rewire_other s c m vertex_data (refl, refl, refl, refl, refl, refl)) i;
        };
        header_is = λ i h. head i;
        worklist_is = rewire_other s c m worklist (refl, refl, refl, refl, refl, refl);
      }

  -- a change with new counts, on memory l in which only sites differ
  module _ (room : Room s (patched (patch_of c) (map_of s m))) (l : List ℕ) (L : SameMesh s m l) where
    abbrev counted : List ℕ
    counted = put_all s header (counts c.vertices c.half_edges c.faces) l

    abbrev n : List ℕ
    n = rewire s c counted

    long_l : length l ≡ total s
    long_l = L.long ∙ z

    long : length counted ≡ total s
    long = length_put_all s header (counts c.vertices c.half_edges c.faces) l ∙ long_l

    kept : (k : Table) → OtherTable k header → (j : ℕ) → cell s k counted j ≡ cell s k l j
    kept k o j = all_other s k header (counts c.vertices c.half_edges c.faces) l j o

    head : (i : ℕ) → cell s header n i ≡ changed (counts c.vertices c.half_edges c.faces) (cell s header l) i
    head i = rewire_other s c counted header (refl, refl, refl, refl, refl, refl) i
        ∙ all_same s header (counts c.vertices c.half_edges c.faces) l i (omega (arith, long_l)) (omega arith)

    head_0 : cell s header n 0 ≡ c.vertices
    unfolding changed
    head_0 = head 0

    head_1 : cell s header n 1 ≡ c.half_edges
    unfolding changed
    head_1 = head 1

    head_2 : cell s header n 2 ≡ c.faces
    unfolding changed
    head_2 = head 2

    -- a table of the mesh before the patch
    before : (k : Table) → OtherTable k header → OtherTable k vertex_x → OtherTable k vertex_y → OtherTable k vertex_data → cell s k counted ≡ cell s k m
    before k o a b d = fun_ext (λ j. kept k o j ∙ L.same k a b d j)

    map_n : map_of s n ≡ patched (patch_of c) (map_of s m)
    map_n =
        map_is s c counted long range c.vertices c.half_edges c.faces
        (ap (at_most s.vertices) head_0 ∙ at_most_same _ _ room.vertex_room) (ap (at_most (6 * s.vertices)) head_1 ∙ at_most_same _ _ room.half_edge_room) (ap (at_most (2 * s.vertices)) head_2 ∙ at_most_same _ _ room.face_room)
        ∙ (λ i. record {
          next = changed (patch_of c).links (before edge_next refl refl refl refl i);
          prev = changed (reversed (patch_of c).links) (before edge_prev refl refl refl refl i);
          face = changed (patch_of c).sides (before edge_face refl refl refl refl i);
          origin = changed c.origins (before edge_origin refl refl refl refl i);
          edge = changed (patch_of c).edges (before face_edge refl refl refl refl i);
          out = changed c.outs (before vertex_out refl refl refl refl i);
          vertices = c.vertices;
          half_edges = c.half_edges;
          faces = c.faces;
        })

    site : (k : Table) → OtherTable k header → (j : ℕ) → cell s k (rewire s c counted) j ≡ cell s k counted j → cell s k n j ≡ cell s k l j
    site k o j q = q ∙ kept k o j

    pub applied : (t : Sites) → sites_of s l ≡ t → Rewritten s m (patch_of c) t (apply s c l)
    applied t q = record {
      long = length_rewire s c counted ∙ long;
      map_is = map_n;
      sites_are = (λ i. record {
        x = fun_ext (λ j. ap (λ (k : ℕ). k % s.coordinates) (site vertex_x refl j (rewire_other s c counted vertex_x (refl, refl, refl, refl, refl, refl) j))) i;
        y = fun_ext (λ j. ap (λ (k : ℕ). k % s.coordinates) (site vertex_y refl j (rewire_other s c counted vertex_y (refl, refl, refl, refl, refl, refl) j))) i;
        data_of = fun_ext (λ j. site vertex_data refl j (rewire_other s c counted vertex_data (refl, refl, refl, refl, refl, refl) j)) i;
      }) ∙ q;
      header_is = λ i h. head i
          ∙ changed_off (counts c.vertices c.half_edges c.faces) (cell s header l) i (below i h)
          ∙ L.same header refl refl refl i;
      worklist_is = λ i. rewire_other s c counted worklist (refl, refl, refl, refl, refl, refl) i ∙ kept worklist refl i ∙ L.same worklist refl refl refl i;
    }
      where
        below : (i : ℕ) → 3 ≤ i → Source i (counts c.vertices c.half_edges c.faces) → ⊥
        below i h k = grind arith

  -- with a vertex put into its row
  pub applied_with : Room s (patched (patch_of c) (map_of s m)) → (v x y d : ℕ) → v < s.vertices →
      Rewritten s m (patch_of c) (with_site (sites_of s m) v (x % s.coordinates) (y % s.coordinates) d) (apply s c (put_vertex s m v x y d))
  applied_with room v x y d h = applied room (put_vertex s m v x y d) (vertex_same_mesh s m v x y d) _ (vertex_sites s m v x y d z h)

-- memory that holds the patched mesh
pub becomes : (s : Size) (m : List ℕ) (p : Patch) (t : Sites) (n : List ℕ) → Mesh (patched p (map_of s m)) → Rewritten s m p t n → Becomes s m p t n
becomes s m p t n M w = record { holds = record { long = w.long; mesh = subst Mesh (sym w.map_is) M }; wrote = w }

-- a surgery on memory that holds a mesh
module _ (s : Size) (m : List ℕ) (H : Holds s m) (c : Change) (K : Surgery (map_of s m) (patch_of c)) (fit : c.vertices ≤ s.vertices) where
  after : Mesh (patched (patch_of c) (map_of s m))
  after = surgery_mesh (map_of s m) (patch_of c) H.mesh K

  room : Room s (patched (patch_of c) (map_of s m))
  room = counts_room s (patched (patch_of c) (map_of s m)) after.counts fit

  range : InRange s (patch_of c)
  range = in_range s (map_of s m) (patched (patch_of c) (map_of s m)) (patch_of c) (K.fits _ (is_patched _ (patch_of c) K.distinct)) after.sound room

  pub becomes_rewired : c.vertices ≡ (map_of s m).vertices → c.half_edges ≡ (map_of s m).half_edges → c.faces ≡ (map_of s m).faces → Becomes s m (patch_of c) (sites_of s m) (rewire s c m)
  becomes_rewired a b d = becomes s m (patch_of c) _ _ after (rewired s m H.long c range a b d)

  pub becomes_applied : Becomes s m (patch_of c) (sites_of s m) (apply s c m)
  becomes_applied = becomes s m (patch_of c) _ _ after (applied s m H.long c range room m (same_mesh s m) (sites_of s m) refl)

  pub becomes_with : (v x y d : ℕ) → v < s.vertices → Becomes s m (patch_of c) (with_site (sites_of s m) v (x % s.coordinates) (y % s.coordinates) d) (apply s c (put_vertex s m v x y d))
  becomes_with v x y d h = becomes s m (patch_of c) _ _ after (applied_with s m H.long c range room v x y d h)
