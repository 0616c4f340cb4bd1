-- A new vertex on an edge of the hull makes a mesh of a mesh.
use Rattle.std.proofs.Common.{◌≡◌, ℕ, ◌+◌, ◌<◌, ◌≢◌, [], ◌∷◌, sym, refl, ap, ◌∙◌, subst, inl, inr, arith}
use Rattle.dcel.specs.Pairs.{Pairs, Source, Apart}
use Rattle.dcel.specs.Map.{Map, twin}
use Rattle.dcel.specs.Mesh.{Sound, Counts, Mesh}
use Rattle.dcel.specs.Patch.{Patch, patched}
use Rattle.dcel.specs.EdgeSurgery.{HullEdge, split_hull_edge_patch}
use Rattle.dcel.proofs.Changes.{changed_at, changed_off, among_source, elsewhere}
use Rattle.dcel.proofs.Counting.{zero_bit_zero, zero_bit_positive, changes, zero_count_four, inner_sides}
use Rattle.dcel.proofs.Fits.{IsPatched, Distinct, Relinks, Fits, Reach, stand_in, RoundFits}
use Rattle.dcel.proofs.PatchRound.{reach_self, reach_from, one_turn, two_turns}
use Rattle.dcel.proofs.Neighbours.{InTriangle, in_triangle, Neighbours, neighbours, new_pairs}
use Rattle.dcel.proofs.Surgeries.{Surgery}
use Rattle.dcel.proofs.Twins.{twin_twin, twin_below, twin_apart}

module _ (m : Map) (M : Mesh m) (e : ℕ) (may : HullEdge m e) where
  abbrev S : Sound m
  S = M.sound

  in_e : e < m.half_edges
  in_e = may.in_e

  left : m.face e ≢ 0
  left = may.left

  right : m.face (twin e) ≡ 0
  right = may.right

  -- the new half edges
  abbrev pb : ℕ
  pb = m.half_edges

  abbrev bp : ℕ
  bp = m.half_edges + 1

  abbrev pc : ℕ
  pc = m.half_edges + 2

  abbrev cp : ℕ
  cp = m.half_edges + 3

  abbrev ba : ℕ
  ba = twin e

  abbrev ca : ℕ
  ca = m.prev e

  abbrev bc : ℕ
  bc = m.next e

  abbrev db : ℕ
  db = m.prev ba

  abbrev p : Patch
  p = split_hull_edge_patch m e

  here : InTriangle m e
  here = in_triangle m S e in_e left

  across : Neighbours m ba
  across = neighbours m S ba (S.twin_in e in_e)

  old_apart : Apart ((e, 0) ∷ (ca, 0) ∷ (bc, 0) ∷ (ba, 0) ∷ []) × Apart ((e, 0) ∷ (ca, 0) ∷ (bc, 0) ∷ (db, 0) ∷ [])
  old_apart = let near = here in let far = across in grind arith

  -- no place is changed twice
  tails_apart : Apart p.links
  tails_apart = let near = here in let far = across in let s = old_apart in omega arith

  pub distinct : Distinct p
  distinct = let near = here in let far = across in let s = old_apart in let v = S.origin_in ba far.in_e in record {
    tails = tails_apart;
    heads = omega arith;
    sides = omega arith;
    origins = omega arith;
    edges = omega arith;
    outs = omega arith;
  }

  origin_same : (n : Map) → IsPatched m n p → (x : ℕ) → x < m.half_edges → x ≢ ba → n.origin x ≡ m.origin x
  origin_same n d x h q = d.origin_off x (elsewhere p.origins x (omega arith))

  origin_same_twin : (n : Map) → IsPatched m n p → (x : ℕ) → x < m.half_edges → x ≢ e → n.origin (twin x) ≡ m.origin (twin x)
  origin_same_twin n d x h q = origin_same n d (twin x) (S.twin_in x h) (twin_apart x e q)

  face_same : (n : Map) → IsPatched m n p → (x : ℕ) → x < m.half_edges → x ≢ e → x ≢ ca → x ≢ bc → n.face x ≡ m.face x
  face_same n d x h a b c = d.face_off x (elsewhere p.sides x (omega arith))

  -- what loses its partner gets another
  pub relinks : Relinks m p
  relinks =
      let near = here in
      let far = across in
      record {
        tails = search (inl, inr, arith) depth 15;
        heads = search (inl, inr, arith) depth 15;
        whole = search (inl, inr, arith) depth 15;
      }

  -- at the changed places; o- and w- are origins that stay, of half edges and of their twins, f- are faces
  pub fits : (n : Map) → IsPatched m n p → Fits m n p
  fits n d =
      let apart = old_apart in
      let near = here in
      let far = across in
      let more_edges : n.half_edges ≡ m.half_edges + 4 = d.half_edges_is in
      let more_vertices : n.vertices ≡ m.vertices + 1 = d.vertices_is in
      let more_faces : n.faces ≡ m.faces + 1 = d.faces_is in
      let new = new_pairs m S in
      let back = twin_twin e in
      let f_t : n.face ba ≡ 0 = face_same n d ba far.in_e (omega arith) (omega arith) (omega arith) ∙ right in
      let f_db : n.face db ≡ 0 = face_same n d db far.prev_in (omega arith) (omega arith) (omega arith) ∙ far.face_prev ∙ right in
      let o_e : n.origin e ≡ m.origin e = origin_same n d e in_e (omega arith) in
      let o_ca : n.origin ca ≡ m.origin ca = origin_same n d ca near.prev_in (omega arith) in
      let o_bc : n.origin bc ≡ m.origin bc = origin_same n d bc near.next_in (omega arith) in
      let o_tt : n.origin (twin ba) ≡ n.origin e = ap n.origin back in
      let w_ca : n.origin (twin ca) ≡ m.origin (twin ca) = origin_same_twin n d ca near.prev_in (omega arith) in
      let w_db : n.origin (twin db) ≡ m.origin (twin db) = origin_same_twin n d db far.prev_in (omega arith) in
      let w_bc : n.origin (twin bc) ≡ m.origin (twin bc) = origin_same_twin n d bc near.next_in (omega arith) in
      let edge_e : Source (m.edge (m.face e)) p.links = among_source _ _ _ _ p.links near.edge_is (search inl) (search (inl, inr) depth 15) (search (inl, inr) depth 15) in
      let q1 = S.origin_in e in_e in
      let q2 = S.origin_in ba far.in_e in
      let q3 = S.origin_in ca near.prev_in in
      record {
        half_edges_more = omega arith;
        vertices_more = omega arith;
        faces_more = omega arith;
        twins = λ i h. twin_below n.half_edges i (omega arith) h;
        new_edge = grind arith;
        new_face = grind arith;
        new_vertex = grind arith;
        link_in = omega arith;
        side_in = omega arith;
        origin_in = omega arith;
        ends = grind arith;
        same_side = grind arith;
        rounds = grind arith;
        origin_fits = search (inl, inr, arith) depth 12;
        loops = grind arith;
        side_fits = search (inl, inr, arith) depth 12;
        edge_fits = ((omega arith, d.face_at.0, λ _ _. edge_e), ((omega arith, d.face_at.1.1.1.0, λ _ q. absurd (omega arith)), tt));
        out_fits = grind arith;
      }

  abbrev moved : Pairs
  moved = (ba, bp) ∷ []

  itself : (x : ℕ) → x ≢ ba → stand_in moved x ≡ x
  itself x q = changed_off moved (λ y. y) x (elsewhere moved x (omega arith))

  itself_twin : (x : ℕ) → x ≢ e → stand_in moved (twin x) ≡ twin x
  itself_twin x q = itself (twin x) (twin_apart x e q)

  -- turning round: r- says where one turn leads
  round_fits : (n : Map) → IsPatched m n p → RoundFits m n p
  round_fits n d =
      let back = twin_twin e in
      let apart = old_apart in
      let near = here in
      let far = across in
      let new = new_pairs m S in
      let st_t : stand_in moved ba ≡ bp = (changed_at moved (λ y. y) (tt, tt)).0 in
      let st_e = itself e (omega arith) in
      let st_ca = itself ca (omega arith) in
      let st_bc = itself bc (omega arith) in
      let tw_ca = itself_twin ca (omega arith) in
      let tw_db = itself_twin db (omega arith) in
      let tw_bc = itself_twin bc (omega arith) in
      let r2 : twin (n.prev pc) ≡ ba = ap twin d.prev_at.0 in
      let rca : twin (n.prev ca) ≡ cp = ap twin d.prev_at.1.0 ∙ new.t2 in
      let re : twin (n.prev e) ≡ twin ca = ap twin d.prev_at.1.1.0 in
      let rbc : twin (n.prev bc) ≡ bp = ap twin d.prev_at.1.1.1.0 ∙ new.t0 in
      let r3 : twin (n.prev cp) ≡ twin bc = ap twin d.prev_at.1.1.1.1.0 in
      let r0 : twin (n.prev pb) ≡ pc = ap twin d.prev_at.1.1.1.1.1.0 ∙ new.t3 in
      let r1 : twin (n.prev bp) ≡ twin db = ap twin d.prev_at.1.1.1.1.1.1.0 in
      let rt : twin (n.prev ba) ≡ pb = ap twin d.prev_at.1.1.1.1.1.1.1.0 ∙ new.t1 in
      let hub : n.out m.vertices ≡ pb = d.out_at.0 in
      let st : (x y : ℕ) → m.prev x ≡ y → stand_in moved (twin (m.prev x)) ≡ stand_in moved (twin y) = λ x y q. ap (λ z. stand_in moved (twin z)) q in
      let to : (x : ℕ) → Reach n x pb → Reach n x (n.out m.vertices) = λ x r. subst (Reach n x) (sym hub) r in
      let fro : (x : ℕ) → Reach n m.half_edges x → Reach n (n.out m.vertices) x = λ x r. subst (λ z. Reach n z x) (sym hub) r in
      record {
        stands = moved;
        stand_fits = search (inl, inr, arith) depth 15;
        spins = (
          λ q. absurd (omega arith),
          (
            λ _. reach_from n _ _ _ _ st_ca (st ca bc near.prev_prev ∙ tw_bc) (two_turns n _ _ _ rca r3),
            (
              λ _. reach_from n _ _ _ _ st_e tw_ca (one_turn n _ _ re),
              (λ _. reach_from n _ _ _ _ st_bc (st bc e near.prev_next ∙ st_t) (one_turn n _ _ rbc), (λ q. absurd (omega arith), (λ q. absurd (omega arith), (λ q. absurd (omega arith), (λ _. reach_from n _ _ _ _ st_t tw_db (one_turn n _ _ r1), tt))))),
            ),
          ),
        );
        ahead = (
          λ q. absurd (omega arith),
          (
            λ q. absurd (omega arith),
            (
              λ _. (twin db, S.twin_in _ far.prev_in, sym far.origin_here, reach_from n _ _ _ _ refl tw_db (one_turn n _ _ r1)),
              (
                λ q. absurd (omega arith),
                (λ _. (twin bc, S.twin_in _ near.next_in, sym near.origin_prev, reach_from n _ _ _ _ refl tw_bc (one_turn n _ _ r3)), tt),
              ),
            ),
          ),
        );
        behind = (
          λ q. absurd (omega arith),
          (
            λ q. absurd (omega arith),
            (
              λ _. (bc, near.next_in, near.origin_next, reach_from n _ _ _ _ st_bc refl (one_turn n _ _ rbc)),
              (
                λ q. absurd (omega arith),
                (λ _. (ca, near.prev_in, refl, reach_from n _ _ _ _ st_ca refl (one_turn n _ _ rca)), tt),
              ),
            ),
          ),
        );
        about = (
          λ _. (to ba (one_turn n _ _ rt), fro ba (two_turns n _ _ _ r0 r2)),
          (
            λ _. (to _ (reach_self n _ _ refl), fro _ (reach_self n _ _ refl)),
            (
              λ q. absurd (omega (arith, S.origin_in ba far.in_e)),
              (λ _. (to _ (two_turns n _ _ _ r2 rt), fro _ (one_turn n _ _ r0)), (λ q. absurd (omega (arith, S.origin_in ca near.prev_in)), tt)),
            ),
          ),
        );
      }

  -- outer half edges before and after
  counts : Counts (patched p m)
  counts =
      let near = here in
      let h = changes p.sides m.face (m.half_edges + 4) distinct.sides (omega arith) in
      let z = zero_count_four m.face m.half_edges in
      let a = inner_sides near left in
      let f0 = zero_bit_positive m.faces (omega arith) in
      let n0 = zero_bit_zero in
      let c = M.counts in
      record { half_edges_are = omega (arith, c.half_edges_are); faces_are = omega (arith, c.faces_are) }

  pub split_hull_edge_surgery : Surgery m p
  split_hull_edge_surgery = record { distinct = distinct; relinks = relinks; fits = fits; round_fits = round_fits; counts = counts }
