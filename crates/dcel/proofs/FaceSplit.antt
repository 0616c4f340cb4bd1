-- A new vertex in a face makes a mesh of a mesh.
use Rattle.std.proofs.Common.{◌≡◌, ℕ, ◌+◌, ◌<◌, ◌≢◌, [], sym, refl, ap, ◌∙◌, subst, inl, inr, arith}
use Rattle.dcel.specs.Pairs.{Source, Apart, changed}
use Rattle.dcel.specs.Map.{Map, twin}
use Rattle.dcel.specs.Mesh.{Sound, Counts, Mesh}
use Rattle.dcel.specs.Patch.{Patch, patched}
use Rattle.dcel.specs.Surgery.{Inner, split_face_patch}
use Rattle.dcel.proofs.Changes.{among_source, elsewhere}
use Rattle.dcel.proofs.Counting.{zero_bit_positive, changes, zero_count_six, inner_sides}
use Rattle.dcel.proofs.Fits.{IsPatched, Distinct, Relinks, Fits, Reach, RoundFits}
use Rattle.dcel.proofs.PatchRound.{reach_self, one_turn, two_turns}
use Rattle.dcel.proofs.Neighbours.{InTriangle, in_triangle, new_pairs}
use Rattle.dcel.proofs.Surgeries.{Surgery}
use Rattle.dcel.proofs.Twins.{twin_below}

module _ (m : Map) (M : Mesh m) (e : ℕ) (may : Inner m e) where
  abbrev S : Sound m
  S = M.sound

  in_e : e < m.half_edges
  in_e = may.in_e

  inner : m.face e ≢ 0
  inner = may.inner

  -- the new half edges
  abbrev ap' : ℕ
  ap' = m.half_edges

  abbrev pa : ℕ
  pa = m.half_edges + 1

  abbrev bp : ℕ
  bp = m.half_edges + 2

  abbrev pb : ℕ
  pb = m.half_edges + 3

  abbrev cp : ℕ
  cp = m.half_edges + 4

  abbrev pc : ℕ
  pc = m.half_edges + 5

  abbrev bc : ℕ
  bc = m.next e

  abbrev ca : ℕ
  ca = m.prev e

  abbrev p : Patch
  p = split_face_patch m e

  here : InTriangle m e
  here = in_triangle m S e in_e inner

  -- no place is changed twice
  tails_apart : Apart p.links
  tails_apart = let near = here in omega arith

  pub distinct : Distinct p
  distinct = let near = here in let k = tails_apart in record {
    tails = k;
    sides = k;
    heads = omega arith;
    origins = omega arith;
    edges = omega arith;
    outs = omega arith;
  }

  origin_same : (n : Map) → IsPatched m n p → (x : ℕ) → x < m.half_edges → n.origin x ≡ m.origin x
  origin_same n d x h = d.origin_off x (elsewhere p.origins x (omega arith))

  -- what loses its partner gets another
  pub relinks : Relinks m p
  relinks =
      let near = here in
      record {
        tails = search (inl, inr, arith) depth 15;
        heads = search (inl, inr, arith) depth 15;
        whole = search (inl, inr, arith) depth 15;
      }

  -- at the changed places; o- and w- are origins that stay, of half edges and of their twins, f- are faces
  pub fits : (n : Map) → IsPatched m n p → Fits m n p
  fits n d =
      let near = here in
      let apart = tails_apart in
      let more_edges : n.half_edges ≡ m.half_edges + 6 = d.half_edges_is in
      let more_vertices : n.vertices ≡ m.vertices + 1 = d.vertices_is in
      let more_faces : n.faces ≡ m.faces + 2 = d.faces_is in
      let new = new_pairs m S in
      let o_t : n.origin (twin e) ≡ m.origin (twin e) = origin_same n d (twin e) (S.twin_in e in_e) in
      let o_tbc : n.origin (twin bc) ≡ m.origin (twin bc) = origin_same n d (twin bc) (S.twin_in bc near.next_in) in
      let o_tca : n.origin (twin ca) ≡ m.origin (twin ca) = origin_same n d (twin ca) (S.twin_in ca near.prev_in) in
      let o_e : n.origin e ≡ m.origin e = origin_same n d e in_e in
      let o_bc : n.origin bc ≡ m.origin bc = origin_same n d bc near.next_in in
      let o_ca : n.origin ca ≡ m.origin ca = origin_same n d ca near.prev_in in
      let edge_e : Source (m.edge (m.face e)) p.links = among_source _ _ _ _ p.links near.edge_is (search inl) (search (inl, inr) depth 15) (search (inl, inr) depth 15) in
      let q1 = S.origin_in e in_e in
      let q2 = S.origin_in bc near.next_in in
      let q3 = S.origin_in ca near.prev_in in
      record {
        half_edges_more = omega arith;
        vertices_more = omega arith;
        faces_more = omega arith;
        twins = λ i h. twin_below n.half_edges i (omega arith) h;
        new_edge = grind arith;
        new_face = grind arith;
        new_vertex = grind arith;
        link_in = omega arith;
        side_in = omega arith;
        origin_in = omega arith;
        ends = grind arith;
        same_side = grind arith;
        rounds = grind arith;
        origin_fits = search (inl, inr, arith) depth 12;
        loops = grind arith;
        side_fits = search (inl, inr, arith) depth 12;
        edge_fits = search (inl, inr, arith) depth 15;
        out_fits = grind arith;
      }

  -- turning round: r- says where one turn leads
  round_fits : (n : Map) → IsPatched m n p → RoundFits m n p
  unfolding changed
  round_fits n d =
      let near = here in
      let new = new_pairs m S in
      let r0 : twin (n.prev ap') ≡ twin ca = ap twin d.prev_at.1.1.1.1.1.1.0 in
      let r1 : twin (n.prev pa) ≡ pb = ap twin d.prev_at.1.0 ∙ new.t2 in
      let r2 : twin (n.prev bp) ≡ twin e = ap twin d.prev_at.0 in
      let r3 : twin (n.prev pb) ≡ pc = ap twin d.prev_at.1.1.1.1.0 ∙ new.t4 in
      let r4 : twin (n.prev cp) ≡ twin bc = ap twin d.prev_at.1.1.1.0 in
      let r5 : twin (n.prev pc) ≡ pa = ap twin d.prev_at.1.1.1.1.1.1.1.0 ∙ new.t0 in
      let re : twin (n.prev e) ≡ ap' = ap twin d.prev_at.1.1.0 ∙ new.t1 in
      let rb : twin (n.prev bc) ≡ bp = ap twin d.prev_at.1.1.1.1.1.0 ∙ new.t3 in
      let rc : twin (n.prev ca) ≡ cp = ap twin d.prev_at.1.1.1.1.1.1.1.1.0 ∙ new.t5 in
      let hub : n.out m.vertices ≡ pa = d.out_at.0 in
      record {
        stands = [];
        stand_fits = tt;
        spins = (
          λ q. absurd (omega arith),
          (
            λ q. absurd (omega arith),
            (
              λ _. two_turns n _ _ _ re r0,
              (
                λ q. absurd (omega arith),
                (
                  λ q. absurd (omega arith),
                  (
                    λ _. two_turns n _ _ _ rb (r2 ∙ ap twin (sym near.prev_next)),
                    (λ q. absurd (omega arith), (λ q. absurd (omega arith), (λ _. two_turns n _ _ _ rc (r4 ∙ ap twin (sym near.prev_prev)), tt))),
                  ),
                ),
              ),
            ),
          ),
        );
        ahead = (
          λ _. (twin ca, S.twin_in _ near.prev_in, sym near.origin_here, one_turn n _ _ r0),
          (
            λ q. absurd (omega arith),
            (
              λ _. (twin e, S.twin_in _ in_e, sym near.origin_next, one_turn n _ _ r2),
              (
                λ q. absurd (omega arith),
                (λ _. (twin bc, S.twin_in _ near.next_in, sym near.origin_prev, one_turn n _ _ r4), (λ q. absurd (omega arith), tt)),
              ),
            ),
          ),
        );
        behind = (λ _. (e, in_e, refl, one_turn n _ _ re), (λ q. absurd (omega arith), (λ _. (bc, near.next_in, refl, one_turn n _ _ rb), (λ q. absurd (omega arith), (λ _. (ca, near.prev_in, refl, one_turn n _ _ rc), (λ q. absurd (omega arith), tt))))));
        about = (
          λ q. absurd (omega (arith, S.origin_in e in_e)),
          (
            λ _. (reach_self n _ _ (sym hub), reach_self n _ _ hub),
            (
              λ q. absurd (omega (arith, S.origin_in bc near.next_in)),
              (
                λ _. (two_turns n _ _ _ r3 (r5 ∙ sym hub), subst (λ x. Reach n x pb) (sym hub) (one_turn n _ _ r1)),
                (
                  λ q. absurd (omega (arith, S.origin_in ca near.prev_in)),
                  (λ _. (one_turn n _ _ (r5 ∙ sym hub), subst (λ x. Reach n x pc) (sym hub) (two_turns n _ _ _ r1 r3)), tt),
                ),
              ),
            ),
          ),
        );
      }

  -- outer half edges before and after
  counts : Counts (patched p m)
  counts =
      let near = here in
      let h = changes p.sides m.face (m.half_edges + 6) distinct.sides (omega arith) in
      let z = zero_count_six m.face m.half_edges in
      let a = inner_sides near inner in
      let f0 = zero_bit_positive m.faces (omega arith) in
      let f1 = zero_bit_positive (m.faces + 1) (omega arith) in
      let c = M.counts in
      record { half_edges_are = omega (arith, c.half_edges_are); faces_are = omega (arith, c.faces_are) }

  pub split_face_surgery : Surgery m p
  split_face_surgery = record { distinct = distinct; relinks = relinks; fits = fits; round_fits = round_fits; counts = counts }
