-- A line made longer at its end makes a mesh of a mesh.
use Rattle.std.proofs.Common.{◌≡◌, ℕ, ◌+◌, ◌<◌, [], sym, refl, ap, ◌∙◌, inl, inr, arith}
use Rattle.dcel.specs.Pairs.{changed}
use Rattle.dcel.specs.Map.{Map, twin}
use Rattle.dcel.specs.Mesh.{Sound, Counts, Mesh}
use Rattle.dcel.specs.Patch.{Patch, patched}
use Rattle.dcel.specs.EdgeSurgery.{LineEnd, extend_line_patch}
use Rattle.dcel.proofs.Changes.{elsewhere}
use Rattle.dcel.proofs.Counting.{line_counts}
use Rattle.dcel.proofs.Fits.{IsPatched, Distinct, Relinks, Fits, RoundFits}
use Rattle.dcel.proofs.PatchRound.{reach_self, one_turn}
use Rattle.dcel.proofs.Neighbours.{Neighbours, neighbours, new_pairs}
use Rattle.dcel.proofs.Surgeries.{Surgery}
use Rattle.dcel.proofs.Twins.{twin_below}

module _ (m : Map) (M : Mesh m) (e : ℕ) (may : LineEnd m e) where
  abbrev S : Sound m
  S = M.sound

  in_e : e < m.half_edges
  in_e = may.in_e

  outer : m.face e ≡ 0
  outer = may.outer

  end : m.next e ≡ twin e
  end = may.end

  -- the new half edges
  abbrev bp : ℕ
  bp = m.half_edges

  abbrev pb : ℕ
  pb = m.half_edges + 1

  abbrev ba : ℕ
  ba = twin e

  abbrev p : Patch
  p = extend_line_patch m e

  here : Neighbours m e
  here = neighbours m S e in_e

  pt : m.prev ba ≡ e
  pt = ap m.prev (sym end) ∙ S.prev_next e in_e

  -- no place is changed twice
  pub distinct : Distinct p
  distinct = let near = here in let i = S.twin_in e in_e in record { tails = omega arith; heads = omega arith; sides = omega arith; origins = omega arith; edges = tt; outs = (tt, tt) }

  origin_same : (n : Map) → IsPatched m n p → (x : ℕ) → x < m.half_edges → n.origin x ≡ m.origin x
  origin_same n d x h = d.origin_off x (elsewhere p.origins x (omega arith))

  face_same : (n : Map) → IsPatched m n p → (x : ℕ) → x < m.half_edges → n.face x ≡ m.face x
  face_same n d x h = d.face_off x (elsewhere p.sides x (omega arith))

  -- what loses its partner gets another
  pub relinks : Relinks m p
  relinks =
      let near = here in
      let it = S.twin_in e in_e in
      let q2 = pt in
      record {
        tails = search (inl, inr, arith) depth 12;
        heads = search (inl, inr, arith) depth 12;
        whole = search (inl, inr, arith) depth 12;
      }

  -- at the changed places; o- and w- are origins that stay, of half edges and of their twins, f- are faces
  pub fits : (n : Map) → IsPatched m n p → Fits m n p
  fits n d =
      let near = here in
      let it = S.twin_in e in_e in
      let more_edges : n.half_edges ≡ m.half_edges + 2 = d.half_edges_is in
      let more_vertices : n.vertices ≡ m.vertices + 1 = d.vertices_is in
      let more_faces : n.faces ≡ m.faces = d.faces_is in
      let new = new_pairs m S in
      let o_t : n.origin ba ≡ m.origin ba = origin_same n d ba it in
      let f_e : n.face e ≡ 0 = face_same n d e in_e ∙ outer in
      let f_t : n.face ba ≡ 0 = face_same n d ba it ∙ ap m.face (sym end) ∙ near.face_next ∙ outer in
      let q1 = S.origin_in ba it in
      let q2 = pt in
      record {
        half_edges_more = omega arith;
        vertices_more = omega arith;
        faces_more = omega arith;
        twins = λ i h. twin_below n.half_edges i (omega arith) h;
        new_edge = grind arith;
        new_face = grind arith;
        new_vertex = grind arith;
        link_in = omega arith;
        side_in = omega arith;
        origin_in = omega arith;
        ends = grind arith;
        same_side = grind arith;
        rounds = grind arith;
        origin_fits = search (inl, inr, arith) depth 12;
        loops = grind arith;
        side_fits = search (inl, inr, arith) depth 12;
        edge_fits = tt;
        out_fits = grind arith;
      }

  -- turning round: r- says where one turn leads
  round_fits : (n : Map) → IsPatched m n p → RoundFits m n p
  unfolding changed
  round_fits n d =
      let it = S.twin_in e in_e in
      let new = new_pairs m S in
      let r0 : twin (n.prev bp) ≡ ba = ap twin d.prev_at.0 in
      let rt : twin (n.prev ba) ≡ bp = ap twin d.prev_at.1.1.0 ∙ new.t1 in
      let hub : n.out m.vertices ≡ pb = d.out_at.0 in
      record {
        stands = [];
        stand_fits = tt;
        spins = (λ q. absurd (omega arith), (λ q. absurd (omega arith), (λ _. reach_self n _ _ (ap twin (sym pt)), tt)));
        ahead = (λ _. (ba, it, refl, one_turn n _ _ r0), (λ q. absurd (omega arith), tt));
        behind = (λ _. (ba, it, refl, one_turn n _ _ rt), (λ q. absurd (omega arith), tt));
        about = (λ q. absurd (omega (arith, S.origin_in ba it)), (λ _. (reach_self n _ _ (sym hub), reach_self n _ _ hub), tt));
      }

  -- outer half edges before and after
  counts : Counts (patched p m)
  counts = line_counts m M.counts p refl refl refl refl

  pub extend_line_surgery : Surgery m p
  extend_line_surgery = record { distinct = distinct; relinks = relinks; fits = fits; round_fits = round_fits; counts = counts }
