-- An ear closed makes a mesh of a mesh.
use Rattle.std.proofs.Common.{◌≡◌, ℕ, ◌+◌, ◌<◌, ◌≢◌, [], sym, refl, ap, ◌∙◌, inl, inr, arith}
use Rattle.dcel.specs.Pairs.{Apart, changed}
use Rattle.dcel.specs.Map.{Map, twin}
use Rattle.dcel.specs.Mesh.{Sound, Counts, Mesh, zero_bit}
use Rattle.dcel.specs.Patch.{Patch, patched}
use Rattle.dcel.specs.Surgery.{Ear, ear_patch}
use Rattle.dcel.proofs.Changes.{elsewhere}
use Rattle.dcel.proofs.Counting.{zero_bit_zero, zero_bit_positive, zero_bit_is, changes, zero_count_two}
use Rattle.dcel.proofs.Fits.{IsPatched, Distinct, Relinks, Fits, RoundFits}
use Rattle.dcel.proofs.PatchRound.{one_turn, two_turns}
use Rattle.dcel.proofs.Neighbours.{Neighbours, neighbours, new_pairs, not_itself}
use Rattle.dcel.proofs.Surgeries.{Surgery}
use Rattle.dcel.proofs.Twins.{twin_below}

module _ (m : Map) (M : Mesh m) (e : ℕ) (may : Ear m e) where
  abbrev S : Sound m
  S = M.sound

  in_e : e < m.half_edges
  in_e = may.in_e

  outer : m.face e ≡ 0
  outer = may.outer

  cross : m.origin e ≢ m.origin (twin (m.next e))
  cross = may.cross

  -- the new half edges
  abbrev uw : ℕ
  uw = m.half_edges

  abbrev wu : ℕ
  wu = m.half_edges + 1

  long : m.next e ≢ e
  long = not_itself m S e in_e

  open_end : m.next e ≢ m.prev e
  open_end q = cross (sym (ap m.origin (ap m.next q ∙ S.next_prev e in_e)) ∙ S.origin_next (m.next e) (S.next_in e in_e))

  abbrev vw : ℕ
  vw = m.next e

  abbrev after : ℕ
  after = m.next (m.next e)

  abbrev p : Patch
  p = ear_patch m e

  here : Neighbours m e
  here = neighbours m S e in_e

  there : Neighbours m vw
  there = neighbours m S vw (S.next_in e in_e)

  not_prev : e ≢ m.prev e
  not_prev q = long (ap m.next q ∙ S.next_prev e in_e)

  after_e : after ≢ e
  after_e q = open_end (sym there.prev_next ∙ ap m.prev q)

  after_vw : after ≢ vw
  after_vw q = long (sym there.prev_next ∙ ap m.prev q ∙ here.prev_next)

  -- no place is changed twice
  tails_apart : Apart p.links
  tails_apart = let near = here in let q = not_prev in let l = long in let o = open_end in omega arith

  pub distinct : Distinct p
  distinct = let near = here in let far = there in let l = long in let a = after_e in let b = after_vw in record { tails = tails_apart; heads = omega arith; sides = omega arith; origins = omega arith; edges = omega arith; outs = omega arith }

  origin_same : (n : Map) → IsPatched m n p → (x : ℕ) → x < m.half_edges → n.origin x ≡ m.origin x
  origin_same n d x h = d.origin_off x (elsewhere p.origins x (omega arith))

  face_same : (n : Map) → IsPatched m n p → (x : ℕ) → x < m.half_edges → e ≢ x → vw ≢ x → n.face x ≡ m.face x
  face_same n d x h o a = d.face_off x (elsewhere p.sides x (omega arith))

  -- what loses its partner gets another
  pub relinks : Relinks m p
  relinks =
      let near = here in
      let far = there in
      record {
        tails = let q1 = near.next_prev in search (inl, inr, arith) depth 12;
        heads = let q1 = near.prev_next in let q2 = far.prev_next in search (inl, inr, arith) depth 12;
        whole = let q1 = near.face_next in let q2 = near.face_prev in search (inl, inr, arith) depth 12;
      }

  -- at the changed places; o- and w- are origins that stay, of half edges and of their twins, f- are faces
  pub fits : (n : Map) → IsPatched m n p → Fits m n p
  fits n d =
      let near = here in
      let far = there in
      let more_edges : n.half_edges ≡ m.half_edges + 2 = d.half_edges_is in
      let more_vertices : n.vertices ≡ m.vertices = d.vertices_is in
      let more_faces : n.faces ≡ m.faces + 1 = d.faces_is in
      let new = new_pairs m S in
      let o_t : n.origin (twin e) ≡ m.origin (twin e) = origin_same n d (twin e) (S.twin_in e in_e) in
      let o_tv : n.origin (twin vw) ≡ m.origin (twin vw) = origin_same n d (twin vw) (S.twin_in vw near.next_in) in
      let o_tp : n.origin (twin (m.prev e)) ≡ m.origin (twin (m.prev e)) = origin_same n d (twin (m.prev e)) (S.twin_in _ near.prev_in) in
      let o_e : n.origin e ≡ m.origin e = origin_same n d e in_e in
      let o_v : n.origin vw ≡ m.origin vw = origin_same n d vw near.next_in in
      let o_a : n.origin after ≡ m.origin after = origin_same n d after far.next_in in
      let f_uw : n.face uw ≡ 0 = d.face_at.1.1.1.0 in
      let f_p : n.face (m.prev e) ≡ 0 = face_same n d (m.prev e) near.prev_in not_prev open_end ∙ near.face_prev ∙ outer in
      let f_a : n.face after ≡ 0 = face_same n d after far.next_in (λ q. after_e (sym q)) (λ q. after_vw (sym q)) ∙ far.face_next ∙ near.face_next ∙ outer in
      record {
        half_edges_more = omega arith;
        vertices_more = omega arith;
        faces_more = omega arith;
        twins = λ i h. twin_below n.half_edges i (omega arith) h;
        new_edge = grind arith;
        new_face = grind arith;
        new_vertex = λ i h q. absurd (omega arith);
        link_in = omega arith;
        side_in = omega arith;
        origin_in = omega arith;
        ends = grind arith;
        same_side = grind arith;
        rounds = grind arith;
        origin_fits = let q1 = S.origin_in e in_e in let q2 = S.origin_in (twin vw) (S.twin_in vw near.next_in) in search (inl, inr, arith) depth 12;
        loops = grind arith;
        side_fits = let q1 = near.face_next in let q2 = near.prev_next in search (inl, inr, arith) depth 12;
        edge_fits = search (inl, inr, arith) depth 12;
        out_fits = tt;
      }

  -- turning round: r- says where one turn leads
  round_fits : (n : Map) → IsPatched m n p → RoundFits m n p
  unfolding changed
  round_fits n d =
      let near = here in
      let far = there in
      let new = new_pairs m S in
      let r0 : twin (n.prev uw) ≡ twin (m.prev e) = ap twin d.prev_at.1.1.1.0 in
      let r1 : twin (n.prev wu) ≡ twin vw = ap twin d.prev_at.1.0 in
      let re : twin (n.prev e) ≡ uw = ap twin d.prev_at.1.1.0 ∙ new.t1 in
      let rv : twin (n.prev vw) ≡ twin e = ap twin d.prev_at.0 in
      let ra : twin (n.prev after) ≡ wu = ap twin d.prev_at.1.1.1.1.0 ∙ new.t0 in
      record {
        stands = [];
        stand_fits = tt;
        spins = (λ _. one_turn n _ _ (rv ∙ ap twin (sym near.prev_next)), (λ q. absurd (omega arith), (λ _. two_turns n _ _ _ re r0, (λ q. absurd (omega arith), (λ _. two_turns n _ _ _ ra (r1 ∙ ap twin (sym far.prev_next)), tt)))));
        ahead = (λ _. (twin (m.prev e), S.twin_in _ near.prev_in, sym near.origin_here, one_turn n _ _ r0), (λ _. (twin vw, S.twin_in _ near.next_in, refl, one_turn n _ _ r1), tt));
        behind = (λ _. (e, in_e, refl, one_turn n _ _ re), (λ _. (after, far.next_in, far.origin_next, one_turn n _ _ ra), tt));
        about = (λ q. absurd (omega (arith, S.origin_in e in_e)), (λ q. absurd (omega (arith, S.origin_in (twin vw) (S.twin_in vw near.next_in))), tt));
      }

  -- outer half edges before and after
  counts : Counts (patched p m)
  counts =
      let near = here in
      let h = changes p.sides m.face (m.half_edges + 2) distinct.sides (omega arith) in
      let z = zero_count_two m.face m.half_edges in
      let a = zero_bit_is (m.face e) outer in
      let a1 : zero_bit (m.face vw) ≡ zero_bit (m.face e) = ap zero_bit near.face_next in
      let f0 = zero_bit_positive m.faces (omega arith) in
      let n0 = zero_bit_zero in
      let c = M.counts in
      record { half_edges_are = omega (arith, c.half_edges_are); faces_are = omega (arith, c.faces_are) }

  pub ear_surgery : Surgery m p
  ear_surgery = record { distinct = distinct; relinks = relinks; fits = fits; round_fits = round_fits; counts = counts }
