-- A flip makes a mesh of a mesh.
use Rattle.std.proofs.Common.{◌≡◌, ℕ, ◌<◌, ◌≢◌, [], ◌∷◌, sym, refl, ap, ◌∙◌, subst, inl, inr, arith}
use Rattle.dcel.specs.Pairs.{Pairs, Source, Apart}
use Rattle.dcel.specs.Map.{Map, twin}
use Rattle.dcel.specs.Mesh.{Sound, Counts, Mesh}
use Rattle.dcel.specs.Patch.{Patch, patched}
use Rattle.dcel.specs.Surgery.{Flippable, flip_patch}
use Rattle.dcel.proofs.Changes.{changed_at, changed_off, among_source, elsewhere}
use Rattle.dcel.proofs.Counting.{changes, inner_sides}
use Rattle.dcel.proofs.Fits.{IsPatched, Distinct, Relinks, Fits, Reach, stand_in, RoundFits}
use Rattle.dcel.proofs.PatchRound.{reach_self, reach_then, reach_from, one_turn}
use Rattle.dcel.proofs.Neighbours.{InTriangle, in_triangle, two_faces}
use Rattle.dcel.proofs.Surgeries.{Surgery}
use Rattle.dcel.proofs.Twins.{twin_twin, twin_apart}

module _ (m : Map) (M : Mesh m) (e : ℕ) (may : Flippable m e) where
  abbrev S : Sound m
  S = M.sound

  abbrev p : Patch
  p = flip_patch m e

  abbrev ba : ℕ
  ba = twin e

  abbrev ca : ℕ
  ca = m.prev e

  abbrev bc : ℕ
  bc = m.next e

  abbrev db : ℕ
  db = m.prev ba

  abbrev ad : ℕ
  ad = m.next ba

  pub here : InTriangle m e
  here = in_triangle m S e may.in_e may.left

  pub across : InTriangle m ba
  across = in_triangle m S ba (S.twin_in e may.in_e) may.right

  -- no place is changed twice
  pub tails_apart : Apart p.links
  tails_apart = let near = here in let far = across in let tf = two_faces m S e may.in_e may.left in grind arith

  pub distinct : Distinct p
  distinct = let k = tails_apart in record {
    tails = k;
    sides = k;
    heads = omega arith;
    origins = omega arith;
    edges = ((λ q. two_faces m S e may.in_e may.left (sym q), tt), (tt, tt));
    outs = ((S.no_loop e may.in_e, tt), (tt, tt));
  }

  -- origins off e and ba, and off their twins
  pub origin_same : (n : Map) → IsPatched m n p → (x : ℕ) → x ≢ e → x ≢ ba → n.origin x ≡ m.origin x
  origin_same n d x a b = d.origin_off x (elsewhere p.origins x (a, (b, tt)))

  origin_same_twin : (n : Map) → IsPatched m n p → (x : ℕ) → x ≢ e → x ≢ ba → n.origin (twin x) ≡ m.origin (twin x)
  origin_same_twin n d x a b = origin_same n d (twin x) (λ r. b (sym (twin_twin x) ∙ ap twin r)) (twin_apart x e a)

  -- what loses its partner gets another
  pub relinks : Relinks m p
  relinks =
      let apart = tails_apart in
      let near = here in
      let far = across in
      let back = twin_twin e in
      let q3 = may.cross in
      record {
        tails = search (inl, inr, arith) depth 12;
        heads = search (inl, inr, arith) depth 12;
        whole = search (inl, inr, arith) depth 12;
      }

  -- at the changed places; o- and w- are origins that stay, of half edges and of their twins, f- are faces
  pub fits : (n : Map) → IsPatched m n p → Fits m n p
  fits n d =
      let apart = tails_apart in
      let near = here in
      let far = across in
      let same : n.half_edges ≡ m.half_edges = d.half_edges_is in
      let back = twin_twin e in
      let o_e : n.origin e ≡ m.origin db = d.origin_at.0 in
      let o_t : n.origin ba ≡ m.origin ca = d.origin_at.1.0 in
      let o_tt : n.origin (twin ba) ≡ n.origin e = ap n.origin back in
      let a_tt : m.origin (twin ba) ≡ m.origin e = ap m.origin back in
      let o_ca : n.origin ca ≡ m.origin ca = origin_same n d ca (omega arith) (omega arith) in
      let o_ad : n.origin ad ≡ m.origin ad = origin_same n d ad (omega arith) (omega arith) in
      let o_db : n.origin db ≡ m.origin db = origin_same n d db (omega arith) (omega arith) in
      let o_bc : n.origin bc ≡ m.origin bc = origin_same n d bc (omega arith) (omega arith) in
      let w_ca : n.origin (twin ca) ≡ m.origin (twin ca) = origin_same_twin n d ca (omega arith) (omega arith) in
      let w_ad : n.origin (twin ad) ≡ m.origin (twin ad) = origin_same_twin n d ad (omega arith) (omega arith) in
      let w_db : n.origin (twin db) ≡ m.origin (twin db) = origin_same_twin n d db (omega arith) (omega arith) in
      let w_bc : n.origin (twin bc) ≡ m.origin (twin bc) = origin_same_twin n d bc (omega arith) (omega arith) in
      let edge_e : Source (m.edge (m.face e)) p.links = among_source _ _ _ _ p.links near.edge_is (search inl) (search (inl, inr) depth 12) (search (inl, inr) depth 12) in
      let edge_t : Source (m.edge (m.face ba)) p.links = among_source _ _ _ _ p.links far.edge_is (search (inl, inr) depth 12) (search (inl, inr) depth 12) (search (inl, inr) depth 12) in
      let same_V : n.vertices ≡ m.vertices = d.vertices_is in
      let same_F : n.faces ≡ m.faces = d.faces_is in
      let q1 = S.origin_in ca near.prev_in in
      let q2 = S.origin_in db far.prev_in in
      let q3 = may.cross in
      record {
        half_edges_more = omega arith;
        vertices_more = omega arith;
        faces_more = omega arith;
        twins = subst (λ x. (i : ℕ) → i < x → twin i < x) (sym same) S.twin_in;
        new_edge = grind arith;
        new_face = grind arith;
        new_vertex = grind arith;
        link_in = omega arith;
        side_in = omega arith;
        origin_in = omega arith;
        ends = grind arith;
        same_side = grind arith;
        rounds = grind arith;
        origin_fits = search (inl, inr, arith) depth 12;
        loops = grind arith;
        side_fits = search (inl, inr, arith) depth 12;
        edge_fits = search (inl, inr, arith) depth 12;
        out_fits = grind arith;
      }

  abbrev moved : Pairs
  moved = (e, ad) ∷ (ba, bc) ∷ []

  itself : (x : ℕ) → x ≢ e → x ≢ ba → stand_in moved x ≡ x
  itself x a b = changed_off moved (λ y. y) x (elsewhere moved x (omega arith))

  itself_twin : (x : ℕ) → x ≢ e → x ≢ ba → stand_in moved (twin x) ≡ twin x
  itself_twin x a b = itself (twin x) (λ r. b (sym (twin_twin x) ∙ ap twin r)) (twin_apart x e a)

  -- turning round: r- says where one turn leads
  round_fits : (n : Map) → IsPatched m n p → RoundFits m n p
  round_fits n d =
      let apart = tails_apart in
      let near = here in
      let far = across in
      let back = twin_twin e in
      let st_e : stand_in moved e ≡ ad = (changed_at moved (λ y. y) distinct.origins).0 in
      let st_t : stand_in moved ba ≡ bc = (changed_at moved (λ y. y) distinct.origins).1.0 in
      let st_ca = itself ca (omega arith) (omega arith) in
      let st_ad = itself ad (omega arith) (omega arith) in
      let st_db = itself db (omega arith) (omega arith) in
      let st_bc = itself bc (omega arith) (omega arith) in
      let tw_ca = itself_twin ca (omega arith) (omega arith) in
      let tw_ad = itself_twin ad (omega arith) (omega arith) in
      let tw_db = itself_twin db (omega arith) (omega arith) in
      let tw_bc = itself_twin bc (omega arith) (omega arith) in
      let p_ca : n.prev ca ≡ e = d.prev_at.0 in
      let p_ad : n.prev ad ≡ ca = d.prev_at.1.0 in
      let p_e : n.prev e ≡ ad = d.prev_at.1.1.0 in
      let p_db : n.prev db ≡ ba = d.prev_at.1.1.1.0 in
      let p_bc : n.prev bc ≡ db = d.prev_at.1.1.1.1.0 in
      let p_t : n.prev ba ≡ bc = d.prev_at.1.1.1.1.1.0 in
      let go_t : Reach n ba (twin bc) = one_turn n _ _ (ap twin p_t) in
      let go_e : Reach n e (twin ad) = one_turn n _ _ (ap twin p_e) in
      let go_ca : Reach n ca ba = one_turn n _ _ (ap twin p_ca) in
      let go_db : Reach n db e = one_turn n _ _ (ap twin p_db ∙ back) in
      record {
        stands = moved;
        stand_fits = search (inl, inr, arith) depth 12;
        spins = (
          λ _. reach_from n _ _ _ _ st_ca (ap (λ x. stand_in moved (twin x)) near.prev_prev ∙ tw_bc) (reach_then n _ ba _ go_ca go_t),
          (
            λ _. reach_self n _ _ (st_ad ∙ sym (ap (λ x. stand_in moved (twin x)) far.prev_next ∙ ap (stand_in moved) back ∙ st_e)),
            (
              λ _. reach_from n _ _ _ _ st_e tw_ca (one_turn n ad _ (ap twin p_ad)),
              (
                λ _. reach_from n _ _ _ _ st_db (ap (λ x. stand_in moved (twin x)) far.prev_prev ∙ tw_ad) (reach_then n _ e _ go_db go_e),
                (
                  λ _. reach_self n _ _ (st_bc ∙ sym (ap (λ x. stand_in moved (twin x)) near.prev_next ∙ st_t)),
                  (λ _. reach_from n _ _ _ _ st_t tw_db (one_turn n bc _ (ap twin p_bc)), tt),
                ),
              ),
            ),
          ),
        );
        ahead = (λ _. (twin ad, S.twin_in _ far.next_in, sym far.origin_prev, reach_from n _ _ _ _ refl tw_ad go_e), (λ _. (twin bc, S.twin_in _ near.next_in, sym near.origin_prev, reach_from n _ _ _ _ refl tw_bc go_t), tt));
        behind = (λ _. (db, far.prev_in, refl, reach_from n _ _ _ _ st_db refl go_db), (λ _. (ca, near.prev_in, refl, reach_from n _ _ _ _ st_ca refl go_ca), tt));
        about = (λ h. absurd (omega (arith, S.origin_in db far.prev_in)), (λ h. absurd (omega (arith, S.origin_in ca near.prev_in)), tt));
      }

  -- outer half edges before and after
  counts : Counts (patched p m)
  counts =
      let near = here in
      let far = across in
      let h = changes p.sides m.face m.half_edges distinct.sides (omega arith) in
      let a = inner_sides near may.left in
      let b = inner_sides far may.right in
      let c = M.counts in
      record { half_edges_are = omega (arith, c.half_edges_are); faces_are = omega (arith, c.faces_are) }

  pub flip_surgery : Surgery m p
  flip_surgery = record { distinct = distinct; relinks = relinks; fits = fits; round_fits = round_fits; counts = counts }
