-- A new vertex on an edge of a line, not at its end, makes a mesh of a mesh.
use Rattle.std.proofs.Common.{◌≡◌, ℕ, ◌+◌, ◌<◌, ◌≢◌, [], ◌∷◌, sym, refl, ap, ◌∙◌, subst, inl, inr, arith}
use Rattle.dcel.specs.Pairs.{Pairs}
use Rattle.dcel.specs.Map.{Map, twin}
use Rattle.dcel.specs.Mesh.{Sound, Counts, Mesh}
use Rattle.dcel.specs.Patch.{Patch, patched}
use Rattle.dcel.specs.EdgeSurgery.{LineEdge, split_line_edge_patch}
use Rattle.dcel.proofs.Changes.{changed_at, changed_off, elsewhere}
use Rattle.dcel.proofs.Counting.{line_counts}
use Rattle.dcel.proofs.Fits.{IsPatched, Distinct, Relinks, Fits, Reach, stand_in, RoundFits}
use Rattle.dcel.proofs.PatchRound.{reach_self, reach_from, one_turn}
use Rattle.dcel.proofs.Neighbours.{Neighbours, neighbours, new_pairs}
use Rattle.dcel.proofs.Surgeries.{Surgery}
use Rattle.dcel.proofs.Twins.{twin_twin, twin_ne, twin_below, twin_apart}

module _ (m : Map) (M : Mesh m) (e : ℕ) (may : LineEdge m e) where
  abbrev S : Sound m
  S = M.sound

  in_e : e < m.half_edges
  in_e = may.in_e

  left : m.face e ≡ 0
  left = may.left

  right : m.face (twin e) ≡ 0
  right = may.right

  long : m.next e ≢ twin e
  long = may.more

  -- the new half edges
  abbrev pb : ℕ
  pb = m.half_edges

  abbrev bp : ℕ
  bp = m.half_edges + 1

  abbrev ba : ℕ
  ba = twin e

  abbrev p : Patch
  p = split_line_edge_patch m e

  here : Neighbours m e
  here = neighbours m S e in_e

  across : Neighbours m ba
  across = neighbours m S ba (S.twin_in e in_e)

  e_db : e ≢ m.prev ba
  e_db q = long (ap m.next q ∙ across.next_prev)

  -- no place is changed twice
  pub distinct : Distinct p
  distinct = let near = here in let far = across in let v = S.origin_in ba far.in_e in let x = twin_ne e in let a1 = long in let a2 = e_db in record { tails = omega arith; heads = omega arith; sides = omega arith; origins = omega arith; edges = tt; outs = omega arith }

  origin_same : (n : Map) → IsPatched m n p → (x : ℕ) → x < m.half_edges → x ≢ ba → n.origin x ≡ m.origin x
  origin_same n d x h q = d.origin_off x (elsewhere p.origins x (omega arith))

  origin_same_twin : (n : Map) → IsPatched m n p → (x : ℕ) → x < m.half_edges → x ≢ e → n.origin (twin x) ≡ m.origin (twin x)
  origin_same_twin n d x h q = origin_same n d (twin x) (S.twin_in x h) (twin_apart x e q)

  face_same : (n : Map) → IsPatched m n p → (x : ℕ) → x < m.half_edges → m.face x ≡ 0 → n.face x ≡ 0
  face_same n d x h q = d.face_off x (elsewhere p.sides x (omega arith)) ∙ q

  -- what loses its partner gets another
  pub relinks : Relinks m p
  relinks =
      let near = here in
      let far = across in
      let x = twin_ne e in
      let a1 = long in let a2 = e_db in
      let back = twin_twin e in
      record {
        tails = search (inl, inr, arith) depth 12;
        heads = search (inl, inr, arith) depth 12;
        whole = search (inl, inr, arith) depth 12;
      }

  -- at the changed places; o- and w- are origins that stay, of half edges and of their twins, f- are faces
  pub fits : (n : Map) → IsPatched m n p → Fits m n p
  fits n d =
      let near = here in
      let far = across in
      let x = twin_ne e in
      let a1 = long in let a2 = e_db in
      let more_edges : n.half_edges ≡ m.half_edges + 2 = d.half_edges_is in
      let more_vertices : n.vertices ≡ m.vertices + 1 = d.vertices_is in
      let more_faces : n.faces ≡ m.faces = d.faces_is in
      let new = new_pairs m S in
      let back = twin_twin e in
      let f_e : n.face e ≡ 0 = face_same n d e in_e left in
      let f_t : n.face ba ≡ 0 = face_same n d ba far.in_e right in
      let f_n : n.face (m.next e) ≡ 0 = face_same n d (m.next e) near.next_in (near.face_next ∙ left) in
      let f_db : n.face (m.prev ba) ≡ 0 = face_same n d (m.prev ba) far.prev_in (far.face_prev ∙ right) in
      let o_e : n.origin e ≡ m.origin e = origin_same n d e in_e (omega arith) in
      let o_tt : n.origin (twin ba) ≡ n.origin e = ap n.origin back in
      let o_n : n.origin (m.next e) ≡ m.origin (m.next e) = origin_same n d (m.next e) near.next_in (omega arith) in
      let w_db : n.origin (twin (m.prev ba)) ≡ m.origin (twin (m.prev ba)) = origin_same_twin n d (m.prev ba) far.prev_in (omega arith) in
      let q1 = S.origin_in e in_e in
      let q2 = S.origin_in ba far.in_e in
      record {
        half_edges_more = omega arith;
        vertices_more = omega arith;
        faces_more = omega arith;
        twins = λ i h. twin_below n.half_edges i (omega arith) h;
        new_edge = grind arith;
        new_face = grind arith;
        new_vertex = grind arith;
        link_in = omega arith;
        side_in = omega arith;
        origin_in = omega arith;
        ends = grind arith;
        same_side = grind arith;
        rounds = grind arith;
        origin_fits = search (inl, inr, arith) depth 12;
        loops = grind arith;
        side_fits = search (inl, inr, arith) depth 12;
        edge_fits = tt;
        out_fits = grind arith;
      }

  abbrev moved : Pairs
  moved = (ba, bp) ∷ []

  itself : (x : ℕ) → x ≢ ba → stand_in moved x ≡ x
  itself x q = changed_off moved (λ y. y) x (elsewhere moved x (omega arith))

  itself_twin : (x : ℕ) → x ≢ e → stand_in moved (twin x) ≡ twin x
  itself_twin x q = itself (twin x) (twin_apart x e q)

  -- turning round: r- says where one turn leads
  round_fits : (n : Map) → IsPatched m n p → RoundFits m n p
  round_fits n d =
      let back = twin_twin e in
      let near = here in
      let far = across in
      let a1 = long in let a2 = e_db in
      let new = new_pairs m S in
      let st_t : stand_in moved ba ≡ bp = (changed_at moved (λ y. y) (tt, tt)).0 in
      let hub : n.out m.vertices ≡ pb = d.out_at.0 in
      let to : (x : ℕ) → Reach n x pb → Reach n x (n.out m.vertices) = λ x r. subst (Reach n x) (sym hub) r in
      let fro : (x : ℕ) → Reach n m.half_edges x → Reach n (n.out m.vertices) x = λ x r. subst (λ z. Reach n z x) (sym hub) r in
      let r0 : twin (n.prev pb) ≡ ba = ap twin d.prev_at.0 in
      let st_n = itself (m.next e) (omega arith) in
      let tw_db = itself_twin (m.prev ba) (omega arith) in
      let rn : twin (n.prev (m.next e)) ≡ bp = ap twin d.prev_at.1.0 ∙ new.t0 in
      let r1 : twin (n.prev bp) ≡ twin (m.prev ba) = ap twin d.prev_at.1.1.0 in
      let rt : twin (n.prev ba) ≡ pb = ap twin d.prev_at.1.1.1.0 ∙ new.t1 in
      record {
        stands = moved;
        stand_fits = search (inl, inr, arith) depth 15;
        spins = (λ q. absurd (omega arith), (λ _. reach_from n _ _ _ _ st_n (ap (λ z. stand_in moved (twin z)) near.prev_next ∙ st_t) (one_turn n _ _ rn), (λ q. absurd (omega arith), (λ _. reach_from n _ _ _ _ st_t tw_db (one_turn n _ _ r1), tt))));
        ahead = (λ q. absurd (omega arith), (λ q. absurd (omega arith), (λ _. (twin (m.prev ba), S.twin_in _ far.prev_in, sym far.origin_here, reach_from n _ _ _ _ refl tw_db (one_turn n _ _ r1)), tt)));
        behind = (λ q. absurd (omega arith), (λ q. absurd (omega arith), (λ _. (m.next e, near.next_in, near.origin_next, reach_from n _ _ _ _ st_n refl (one_turn n _ _ rn)), tt)));
        about = (λ _. (to ba (one_turn n _ _ rt), fro ba (one_turn n _ _ r0)), (λ _. (to _ (reach_self n _ _ refl), fro _ (reach_self n _ _ refl)), (λ q. absurd (omega (arith, S.origin_in ba far.in_e)), tt)));
      }

  -- outer half edges before and after
  counts : Counts (patched p m)
  counts = line_counts m M.counts p refl refl refl refl

  pub split_line_edge_surgery : Surgery m p
  split_line_edge_surgery = record { distinct = distinct; relinks = relinks; fits = fits; round_fits = round_fits; counts = counts }
