-- No vertex, one vertex, and two with the pair between them: the beginning of a mesh.
use Rattle.std.proofs.Common.{◌≡◌, ℕ, ◌+◌, ◌<◌, ◌≤◌, List, sym, refl, ap, ◌∙◌, arith, below_more, below_none}
use Rattle.dcel.specs.Layout.{Size}
use Rattle.dcel.specs.Pairs.{changed}
use Rattle.dcel.specs.Map.{Map, twin}
use Rattle.dcel.specs.Mesh.{Sound, Round, Counts, Mesh, turns, zero_bit, zero_count}
use Rattle.dcel.specs.Patch.{patch_of, patched}
use Rattle.dcel.specs.Memory.{map_of}
use Rattle.dcel.specs.Holds.{Sites, Rewritten}
use Rattle.dcel.specs.Start.{bare_change, pair_change, Begins, cleared, Clears, first_put, PutsFirst, second_put, PutsSecond}
use Rattle.dcel.proofs.Counting.{zero_bit_zero}
use Rattle.dcel.proofs.Surgeries.{Room, counts_room}
use Rattle.dcel.proofs.Applied.{InRange}
use Rattle.dcel.proofs.NewVertex.{same_mesh}
use Rattle.dcel.proofs.Becoming.{applied, applied_with, becomes}

pub record Two (m : Map) : Type 0 where
  pub next0 : m.next 0 ≡ 1
  pub next1 : m.next 1 ≡ 0
  pub prev0 : m.prev 0 ≡ 1
  pub prev1 : m.prev 1 ≡ 0
  pub face0 : m.face 0 ≡ 0
  pub face1 : m.face 1 ≡ 0
  pub origin0 : m.origin 0 ≡ 0
  pub origin1 : m.origin 1 ≡ 1
  pub out0 : m.out 0 ≡ 0
  pub out1 : m.out 1 ≡ 1
  pub vertices_is : m.vertices ≡ 2
  pub half_edges_is : m.half_edges ≡ 2
  pub faces_is : m.faces ≡ 1

-- for 0 and for 1
pub both : (P : ℕ → Type 0) (z : ℕ) → z ≡ 2 → P 0 → P 1 → (i : ℕ) → i < z → P i
both P z q a b = rw q (below_more P 1 (below_more P 0 (below_none P) a) b)

pair_sound : (m : Map) → Two m → Sound m
unfolding twin
pair_sound m t =
    let e2 = t.half_edges_is in
    let v2 = t.vertices_is in
    let f1 = t.faces_is in
    let n0 = t.next0 in
    let n1 = t.next1 in
    let p0 = t.prev0 in
    let p1 = t.prev1 in
    record {
      twin_in = both _ m.half_edges e2 (omega arith) (omega arith);
      next_in = both _ m.half_edges e2 (omega arith) (omega arith);
      prev_in = both _ m.half_edges e2 (omega arith) (omega arith);
      prev_next = both _ m.half_edges e2 (cc) (cc);
      next_prev = both _ m.half_edges e2 (cc) (cc);
      origin_in = both _ m.half_edges e2 (omega arith) (omega arith);
      origin_next = both _ m.half_edges e2 (ap m.origin n0) (ap m.origin n1);
      no_loop = both _ m.half_edges e2 (omega (arith, t.origin0, t.origin1)) (omega (arith, t.origin0, t.origin1));
      face_in = both _ m.half_edges e2 (omega arith) (omega arith);
      face_next = both _ m.half_edges e2 (ap m.face n0 ∙ t.face1 ∙ sym t.face0) (ap m.face n1 ∙ t.face0 ∙ sym t.face1);
      three = both _ m.half_edges e2 (λ z. absurd (z t.face0)) (λ z. absurd (z t.face1));
      edge_in = λ f p h. absurd (omega arith);
      edge_face = λ f p h. absurd (omega arith);
      edge_of = both _ m.half_edges e2 (λ z. absurd (z t.face0)) (λ z. absurd (z t.face1));
      out_in = both _ m.vertices v2 (omega arith) (omega arith);
      out_origin = both _ m.vertices v2 (ap m.origin t.out0 ∙ t.origin0) (ap m.origin t.out1 ∙ t.origin1);
    }

pair_round : (m : Map) → Two m → Round m
pair_round m t = record {
  round = λ e g p h q.
      let e2 = t.half_edges_is in
      both (λ e. m.origin e ≡ m.origin g → (k : ℕ) × (turns m k e ≡ g)) m.half_edges e2
      (both (λ g. m.origin 0 ≡ m.origin g → (k : ℕ) × (turns m k 0 ≡ g)) m.half_edges e2 (λ _. (0, refl)) (λ q. absurd (omega (arith, t.origin0, t.origin1))) g h)
      (both (λ g. m.origin 1 ≡ m.origin g → (k : ℕ) × (turns m k 1 ≡ g)) m.half_edges e2 (λ q. absurd (omega (arith, t.origin0, t.origin1))) (λ _. (0, refl)) g h) e p q;
}

pair_counts : (m : Map) → Two m → Counts m
unfolding zero_count
pair_counts m t =
    let z : zero_count m.face m.half_edges ≡ zero_bit (m.face 1) + (zero_bit (m.face 0) + 0) = ap (zero_count m.face) t.half_edges_is in
    let a : zero_bit (m.face 0) ≡ zero_bit 0 = ap zero_bit t.face0 in
    let b : zero_bit (m.face 1) ≡ zero_bit 0 = ap zero_bit t.face1 in
    let c = zero_bit_zero in
    record { half_edges_are = omega arith; faces_are = omega arith }

pub pair_two : (m : Map) → Two (patched (patch_of pair_change) m)
unfolding changed
pair_two m = record {
  next0 = refl;
  next1 = refl;
  prev0 = refl;
  prev1 = refl;
  face0 = refl;
  face1 = refl;
  origin0 = refl;
  origin1 = refl;
  out0 = refl;
  out1 = refl;
  vertices_is = refl;
  half_edges_is = refl;
  faces_is = refl;
}

pub pair_mesh : (m : Map) → Mesh (patched (patch_of pair_change) m)
pair_mesh m = let t = pair_two m in record { sound = pair_sound _ t; round = pair_round _ t; counts = pair_counts _ t }

-- without half edges
bare_range : (s : Size) (k : ℕ) → InRange s (patch_of (bare_change k))
bare_range s k = record { tails = tt; heads = tt; sides = tt; origins = tt; edges = tt; outs = tt }

bare_room : (s : Size) (k : ℕ) (m : Map) → k ≤ s.vertices → 0 < s.vertices → Room s (patched (patch_of (bare_change k)) m)
bare_room s k m h p = record { vertex_room = h; half_edge_room = omega arith; face_room = omega arith }

begins : (s : Size) (m : List ℕ) (k : ℕ) (t : Sites) (n : List ℕ) → Rewritten s m (patch_of (bare_change k)) t n → Begins s m k t n
begins s m k t n w = record {
  bare = record { long = w.long; vertices_are = ap (λ x. x.vertices) w.map_is; half_edges_are = ap (λ x. x.half_edges) w.map_is; faces_few = omega (arith, ap (λ x. x.faces) w.map_is) };
  wrote = w;
}

pub clear_clears : (s : Size) (m : List ℕ) → Clears s m (cleared s m)
clear_clears s m z p = begins s m 0 _ _ (applied s m z (bare_change 0) (bare_range s 0) (bare_room s 0 (map_of s m) (omega arith) p) m (same_mesh s m) _ refl)

pub first_puts : (s : Size) (m : List ℕ) (x y d : ℕ) → PutsFirst s m x y d (first_put s m x y d)
first_puts s m x y d B p = begins s m 1 _ _ (applied_with s m B.long (bare_change 1) (bare_range s 1) (bare_room s 1 (map_of s m) (omega arith) p) 0 x y d p)

-- with the first pair
pair_range : (s : Size) → 1 < s.vertices → InRange s (patch_of pair_change)
pair_range s p = record { tails = omega arith; heads = omega arith; sides = omega arith; origins = omega arith; edges = tt; outs = omega arith }

pub second_puts : (s : Size) (m : List ℕ) (x y d : ℕ) → PutsSecond s m x y d (second_put s m x y d)
second_puts s m x y d B p =
    let M = pair_mesh (map_of s m) in
    becomes s m (patch_of pair_change) _ _ M
    (applied_with s m B.long pair_change (pair_range s p) (counts_room s (patched (patch_of pair_change) (map_of s m)) M.counts (omega arith)) 1 x y d p)
