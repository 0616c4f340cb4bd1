-- A new vertex at an outer half edge makes a mesh of a mesh.
use Rattle.std.proofs.Common.{◌≡◌, ℕ, ◌+◌, ◌<◌, ◌≢◌, [], sym, refl, ap, ◌∙◌, subst, inl, inr, arith}
use Rattle.dcel.specs.Pairs.{Apart, changed}
use Rattle.dcel.specs.Map.{Map, twin}
use Rattle.dcel.specs.Mesh.{Sound, Counts, Mesh}
use Rattle.dcel.specs.Patch.{Patch, patched}
use Rattle.dcel.specs.Surgery.{Outer, attach_patch}
use Rattle.dcel.proofs.Changes.{elsewhere}
use Rattle.dcel.proofs.Counting.{zero_bit_zero, zero_bit_positive, zero_bit_is, changes, zero_count_four}
use Rattle.dcel.proofs.Fits.{IsPatched, Distinct, Relinks, Fits, Reach, RoundFits}
use Rattle.dcel.proofs.PatchRound.{reach_self, one_turn, two_turns}
use Rattle.dcel.proofs.Neighbours.{Neighbours, neighbours, new_pairs, not_itself}
use Rattle.dcel.proofs.Surgeries.{Surgery}
use Rattle.dcel.proofs.Twins.{twin_below}

module _ (m : Map) (M : Mesh m) (e : ℕ) (may : Outer m e) where
  abbrev S : Sound m
  S = M.sound

  in_e : e < m.half_edges
  in_e = may.in_e

  outer : m.face e ≡ 0
  outer = may.outer

  -- the new half edges
  abbrev wp : ℕ
  wp = m.half_edges

  abbrev pw : ℕ
  pw = m.half_edges + 1

  abbrev pu : ℕ
  pu = m.half_edges + 2

  abbrev up : ℕ
  up = m.half_edges + 3

  long : m.next e ≢ e
  long = not_itself m S e in_e

  abbrev p : Patch
  p = attach_patch m e

  here : Neighbours m e
  here = neighbours m S e in_e

  not_prev : e ≢ m.prev e
  not_prev q = long (ap m.next q ∙ S.next_prev e in_e)

  -- no place is changed twice
  tails_apart : Apart p.links
  tails_apart = let near = here in let q = not_prev in omega arith

  pub distinct : Distinct p
  distinct = let near = here in let l = long in record { tails = tails_apart; heads = omega arith; sides = omega arith; origins = omega arith; edges = omega arith; outs = omega arith }

  origin_same : (n : Map) → IsPatched m n p → (x : ℕ) → x < m.half_edges → n.origin x ≡ m.origin x
  origin_same n d x h = d.origin_off x (elsewhere p.origins x (omega arith))

  face_same : (n : Map) → IsPatched m n p → (x : ℕ) → x < m.half_edges → e ≢ x → n.face x ≡ m.face x
  face_same n d x h o = d.face_off x (elsewhere p.sides x (omega arith))

  -- what loses its partner gets another
  pub relinks : Relinks m p
  relinks =
      let near = here in
      record {
        tails = search (inl, inr, arith) depth 12;
        heads = search (inl, inr, arith) depth 12;
        whole = search (inl, inr, arith) depth 12;
      }

  -- at the changed places; o- and w- are origins that stay, of half edges and of their twins, f- are faces
  pub fits : (n : Map) → IsPatched m n p → Fits m n p
  fits n d =
      let near = here in
      let more_edges : n.half_edges ≡ m.half_edges + 4 = d.half_edges_is in
      let more_vertices : n.vertices ≡ m.vertices + 1 = d.vertices_is in
      let more_faces : n.faces ≡ m.faces + 1 = d.faces_is in
      let new = new_pairs m S in
      let o_t : n.origin (twin e) ≡ m.origin (twin e) = origin_same n d (twin e) (S.twin_in e in_e) in
      let o_e : n.origin e ≡ m.origin e = origin_same n d e in_e in
      let o_n : n.origin (m.next e) ≡ m.origin (m.next e) = origin_same n d (m.next e) near.next_in in
      let o_p : n.origin (twin (m.prev e)) ≡ m.origin (twin (m.prev e)) = origin_same n d (twin (m.prev e)) (S.twin_in _ near.prev_in) in
      let f_up : n.face up ≡ 0 = d.face_at.1.1.1.0 in
      let f_pw : n.face pw ≡ 0 = d.face_at.1.1.1.1.0 in
      let f_p : n.face (m.prev e) ≡ 0 = face_same n d (m.prev e) near.prev_in not_prev ∙ near.face_prev ∙ outer in
      let f_n : n.face (m.next e) ≡ 0 = face_same n d (m.next e) near.next_in (λ q. long (sym q)) ∙ near.face_next ∙ outer in
      let q1 = S.origin_in e in_e in
      let q2 = S.origin_in (twin e) (S.twin_in e in_e) in
      record {
        half_edges_more = omega arith;
        vertices_more = omega arith;
        faces_more = omega arith;
        twins = λ i h. twin_below n.half_edges i (omega arith) h;
        new_edge = grind arith;
        new_face = grind arith;
        new_vertex = grind arith;
        link_in = omega arith;
        side_in = omega arith;
        origin_in = omega arith;
        ends = grind arith;
        same_side = grind arith;
        rounds = grind arith;
        origin_fits = search (inl, inr, arith) depth 12;
        loops = grind arith;
        side_fits = search (inl, inr, arith) depth 12;
        edge_fits = search (inl, inr, arith) depth 12;
        out_fits = grind arith;
      }

  -- turning round: r- says where one turn leads
  round_fits : (n : Map) → IsPatched m n p → RoundFits m n p
  unfolding changed
  round_fits n d =
      let near = here in
      let new = new_pairs m S in
      let r0 : twin (n.prev wp) ≡ twin e = ap twin d.prev_at.0 in
      let r1 : twin (n.prev pw) ≡ pu = ap twin d.prev_at.1.1.1.1.0 ∙ new.t3 in
      let r2 : twin (n.prev pu) ≡ pw = ap twin d.prev_at.1.0 ∙ new.t0 in
      let r3 : twin (n.prev up) ≡ twin (m.prev e) = ap twin d.prev_at.1.1.1.0 in
      let re : twin (n.prev e) ≡ up = ap twin d.prev_at.1.1.0 ∙ new.t2 in
      let rn : twin (n.prev (m.next e)) ≡ wp = ap twin d.prev_at.1.1.1.1.1.0 ∙ new.t1 in
      let hub : n.out m.vertices ≡ pw = d.out_at.0 in
      record {
        stands = [];
        stand_fits = tt;
        spins = (λ q. absurd (omega arith), (λ q. absurd (omega arith), (λ _. two_turns n _ _ _ re r3, (λ q. absurd (omega arith), (λ q. absurd (omega arith), (λ _. two_turns n _ _ _ rn (r0 ∙ ap twin (sym near.prev_next)), tt))))));
        ahead = (λ _. (twin e, S.twin_in _ in_e, refl, one_turn n _ _ r0), (λ q. absurd (omega arith), (λ q. absurd (omega arith), (λ _. (twin (m.prev e), S.twin_in _ near.prev_in, sym near.origin_here, one_turn n _ _ r3), tt))));
        behind = (λ _. (m.next e, near.next_in, near.origin_next, one_turn n _ _ rn), (λ q. absurd (omega arith), (λ q. absurd (omega arith), (λ _. (e, in_e, refl, one_turn n _ _ re), tt))));
        about = (
          λ q. absurd (omega (arith, S.origin_in (twin e) (S.twin_in e in_e))),
          (
            λ _. (reach_self n _ _ (sym hub), reach_self n _ _ hub),
            (λ _. (one_turn n _ _ (r2 ∙ sym hub), subst (λ x. Reach n x pu) (sym hub) (one_turn n _ _ r1)), (λ q. absurd (omega (arith, S.origin_in e in_e)), tt)),
          ),
        );
      }

  -- outer half edges before and after
  counts : Counts (patched p m)
  counts =
      let near = here in
      let h = changes p.sides m.face (m.half_edges + 4) distinct.sides (omega arith) in
      let z = zero_count_four m.face m.half_edges in
      let a = zero_bit_is (m.face e) outer in
      let f0 = zero_bit_positive m.faces (omega arith) in
      let n0 = zero_bit_zero in
      let c = M.counts in
      record { half_edges_are = omega (arith, c.half_edges_are); faces_are = omega (arith, c.faces_are) }

  pub attach_surgery : Surgery m p
  attach_surgery = record { distinct = distinct; relinks = relinks; fits = fits; round_fits = round_fits; counts = counts }
