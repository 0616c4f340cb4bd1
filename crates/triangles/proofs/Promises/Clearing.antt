-- Memory without a vertex: all zero at the start, and after everything was cleared.
use Rattle.std.proofs.Common.{◌≡◌, ℕ, zero, suc, ◌-◌, ◌*◌, ◌<◌, Bool, true, false, cond, ltb, List, [], length, get_or, replicate, sym, refl, ap, ◌∙◌, ap₂, inl, true≢false, arith}
use lib.ListN.{length-replicate}
use Rattle.exact.specs.Plane.{each, up_to}
use Rattle.dcel.specs.Layout.{Size, Table, header, place, rows, total}
use Rattle.dcel.specs.Memory.{vertex_count, half_edge_count, face_count, cell, at_most, map_of, vertices_in, faces_in}
use Rattle.dcel.specs.Geometry.{triangles}
use Rattle.dcel.specs.Holds.{sites_of}
use Rattle.dcel.specs.Start.{Bare, Begins, cleared}
use Rattle.dcel.proofs.Becoming.{at_most_same}
use Rattle.dcel.proofs.FirstVertices.{clear_clears}
use Rattle.delaunay.specs.Worklist.{list_head}
use Rattle.delaunay.proofs.AtRest.{standing_delaunay}
use Rattle.delaunay.specs.Kept.{vertices_of, Lists, Standing}
use Rattle.triangles.specs.House.{house, clear, refusal, vertices_after, changes, After, Shown, core}
use Rattle.triangles.specs.Promise.{said, ran}
use Rattle.triangles.specs.Machine.{at_end, zeros, machine_step, machine}
use Rattle.triangles.proofs.Promises.Modes.{end_alike, standing_long, standing_lists}
use Rattle.triangles.proofs.Promises.Running.{runs_done}
use Rattle.triangles.proofs.Promises.Houses.{house_of, Stands, stands_alike, goes_well, Answered, answered}

none_listed : {A : Type 0} (f : ℕ → A) (k : ℕ) → k ≡ 0 → each f (up_to k) ≡ []
unfolding each up_to
none_listed {A} f k q = ap {B = List A} (λ (k : ℕ). each f (up_to k)) q

-- without a vertex there is no triangle
module _ (s : Size) (m : List ℕ) (b : Bare s 0 m) where
  pub no_vertices : vertices_of s m ≡ []
  no_vertices = none_listed _ (vertices_in s m) b.vertices_are

  pub no_triangles : triangles (map_of s m) ≡ []
  no_triangles = none_listed _ (faces_in s m - 1) (omega (arith, b.faces_few))

-- ---- everything goes
module _ (s : Size) (p : 0 < s.vertices) (m : List ℕ) (t : Standing s m) where
  abbrev n : List ℕ
  n = cleared s m

  begins : Begins s m 0 (sites_of s m) n
  begins = clear_clears s m (standing_long s m t) p

  lists_kept : Lists s n []
  lists_kept =
      let l = standing_lists s m t in
      record { linked = begins.wrote.header_is list_head (omega arith) ∙ l.linked; others = λ i h. begins.wrote.worklist_is i ∙ l.others i h }

  pub cleared_standing : Standing s n
  cleared_standing = inl (begins.bare, lists_kept)

  pub clear_answered : Answered s m (house_of s m) clear
  unfolding machine machine_step core refusal After vertices_after changes Shown
  clear_answered =
      answered s m (house_of s m) clear 1 (house_of s n) (ran (at_end s n) [] 0) (runs_done (machine s) m (said clear) [] 0 (at_end s n) refl)
      (goes_well (house_of s m) clear (at_end s n) (house_of s n) [] refl refl (no_vertices s n begins.bare, λ e. absurd (true≢false e), λ e. standing_delaunay s n cleared_standing) refl)
      (stands_alike (end_alike s n begins.bare.long) cleared_standing)

-- ---- the start
zero_anywhere : (k i : ℕ) → ◌≡◌ {A = ℕ} (get_or (replicate k 0) i 0) 0
zero_anywhere zero i = refl
zero_anywhere (suc k) zero = refl
zero_anywhere (suc k) (suc i) = zero_anywhere k i

pub zeros_long : (l : ℕ) → length (zeros l) ≡ l
unfolding zeros
zeros_long l = length-replicate l 0

zero_cell : (s : Size) (l : ℕ) (k : Table) (i : ℕ) → cell s k (zeros l) i ≡ 0
unfolding cell zeros
zero_cell s l k i = at (ltb i (rows s k))
  where
    at : (b : Bool) → ◌≡◌ {A = ℕ} (cond b (get_or (replicate l 0) (place s k i) 0) 0) 0
    at true = zero_anywhere l (place s k i)
    at false = refl

module _ (s : Size) where
  abbrev empty : List ℕ
  empty = zeros (total s)

  none_counted : (limit i : ℕ) → at_most limit (cell s header empty i) ≡ 0
  none_counted limit i = ap (at_most limit) (zero_cell s (total s) header i) ∙ at_most_same limit 0 (omega arith)

  pub start_bare : Bare s 0 empty
  start_bare = record {
    long = zeros_long (total s);
    vertices_are = none_counted s.vertices vertex_count;
    half_edges_are = none_counted (6 * s.vertices) half_edge_count;
    faces_few = omega (arith, none_counted (2 * s.vertices) face_count);
  }

  pub start_stands : Stands s empty (house [] [])
  start_stands = record {
    standing = inl (start_bare, record { linked = zero_cell s (total s) header list_head; others = λ i h. zero_cell s (total s) _ i });
    house_is = ap₂ house (sym (no_vertices s empty start_bare)) (sym (no_triangles s empty start_bare));
  }
