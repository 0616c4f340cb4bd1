-- A new vertex p strictly between the ends of an edge e = ab between the faces abc and bad keeps the geometry.
use Rattle.std.proofs.Common.{◌≡◌, ℕ, ◌+◌, ◌<◌, ◌≢◌, sym, refl, ap, ◌∙◌, arith}
use Rattle.exact.specs.Plane.{Point}
use Rattle.exact.proofs.Algebra.Signs.{◌by◌}
use Rattle.exact.proofs.Geometry.Words.{Site, Orient, Left, Right, Between}
use Rattle.exact.proofs.Geometry.Betweenness.{between_swap}
use Rattle.exact.proofs.Geometry.Interior.{on_edge_right}
use Rattle.exact.proofs.Geometry.Split.{edge_left, edge_right}
use Rattle.dcel.specs.Map.{Map, twin}
use Rattle.dcel.specs.Mesh.{Sound}
use Rattle.dcel.specs.Patch.{Patch}
use Rattle.dcel.specs.EdgeSurgery.{InnerEdge, split_inner_edge_change, split_inner_edge_patch}
use Rattle.dcel.specs.Geometry.{Geometric}
use Rattle.dcel.specs.Legal.{EdgeListed, Ready}
use Rattle.dcel.proofs.Changes.{elsewhere}
use Rattle.dcel.proofs.Fits.{IsPatched, Relinks, Fits}
use Rattle.dcel.proofs.Twins.{twin_twin, twin_ne}
use Rattle.dcel.proofs.Neighbours.{InTriangle, in_triangle, two_faces, new_pairs}
use Rattle.dcel.proofs.Sites.{site, face_left, outer_right, ends_apart}
use Rattle.dcel.proofs.Legal.Corners.{Corners, LeftOf}
use Rattle.dcel.proofs.Legal.NewVertex.{Fresh, OnEdge}
use Rattle.dcel.proofs.Legal.Keeping.{listed_other, ready_keep}
use Rattle.dcel.proofs.Legal.InnerChange.{one_new, inner_geometric}

module _ (pos : ℕ → Point) (m : Map) (S : Sound m) (e : ℕ) (may : InnerEdge m e) (n : Map) (D : IsPatched m n (split_inner_edge_patch m e)) (relinks : Relinks m (split_inner_edge_patch m e)) (w : Fits m n (split_inner_edge_patch m e)) where
  abbrev p : Patch
  p = split_inner_edge_patch m e

  in_twin : twin e < m.half_edges
  in_twin = S.twin_in e may.in_e

  near : InTriangle m e
  near = in_triangle m S e may.in_e may.left

  far : InTriangle m (twin e)
  far = in_triangle m S (twin e) in_twin may.right

  -- old half edges but the twin of e begin where they did
  origin_same : (x : ℕ) → x < m.half_edges → x ≢ twin e → n.origin x ≡ m.origin x
  origin_same x h q = D.origin_off x (elsewhere p.origins x (omega arith))

  from_e : n.origin e ≡ m.origin e
  from_e = origin_same e may.in_e (λ q. twin_ne e (sym q))

  -- the corners of the four faces: a p c at e, p b c at pb, p a d at the twin of e, b p d at bp
  pub to_e : n.origin (twin e) ≡ m.vertices
  to_e = D.origin_at.0

  pub apex_e : n.origin (n.prev e) ≡ m.origin (m.prev e)
  apex_e = ap n.origin D.prev_at.1.1.0 ∙ origin_same (m.prev e) near.prev_in (λ q. two_faces m S e may.in_e may.left (sym (ap m.face q) ∙ near.face_prev))

  pub from_pb : n.origin m.half_edges ≡ m.vertices
  from_pb = D.origin_at.1.0

  pub from_bp : n.origin (m.half_edges + 1) ≡ m.origin (twin e)
  from_bp = D.origin_at.1.1.0

  pub apex_pb : n.origin (n.prev m.half_edges) ≡ m.origin (m.prev e)
  apex_pb = ap n.origin D.prev_at.1.1.1.1.1.0 ∙ D.origin_at.1.1.1.1.0

  pub apex_twin : n.origin (n.prev (twin e)) ≡ m.origin (m.prev (twin e))
  apex_twin = ap n.origin D.prev_at.1.1.1.1.1.1.1.1.0 ∙ D.origin_at.1.1.1.1.1.1.0

  pub apex_bp : n.origin (n.prev (m.half_edges + 1)) ≡ m.origin (m.prev (twin e))
  apex_bp = ap n.origin D.prev_at.1.1.1.1.1.1.1.1.1.1.1.0 ∙ origin_same (m.prev (twin e)) far.prev_in (λ q. far.not_prev (sym q))

  module _ (G : Geometric pos m) (i : OnEdge pos m G e) (fresh : Fresh pos m) where
    abbrev s : ℕ → Site
    s = site G

    abbrev a : Site
    a = s (m.origin e)

    abbrev b : Site
    b = s (m.origin (twin e))

    abbrev c : Site
    c = s (m.origin (m.prev e))

    abbrev d : Site
    d = s (m.origin (m.prev (twin e)))

    abbrev v : Site
    v = s m.vertices

    abc : Left a b c
    abc = face_left G e may.in_e may.left

    bad : Left b a d
    bad = face_left G (twin e) in_twin may.right by ap (λ x. Orient b (s (m.origin x)) d) (sym (twin_twin e))

    back : Between b a v
    back = between_swap a b v i

    corners_e : Corners (LeftOf pos m G) n e
    corners_e = rw (from_e, to_e, apex_e) (edge_left a b c v abc i)

    corners_pb : Corners (LeftOf pos m G) n m.half_edges
    corners_pb = rw ((new_pairs m S).t0, from_pb, from_bp, apex_pb) (edge_right a b c v abc i)

    corners_twin : Corners (LeftOf pos m G) n (twin e)
    corners_twin = rw (twin_twin e, to_e, from_e, apex_twin) (edge_right b a d v bad back)

    corners_bp : Corners (LeftOf pos m G) n (m.half_edges + 1)
    corners_bp = rw ((new_pairs m S).t1, from_bp, from_pb, apex_bp) (edge_left b a d v bad back)

    new_right : (x : ℕ) → x < m.half_edges → m.face x ≡ 0 → Right (s (m.origin x)) (s (m.origin (twin x))) v
    new_right x h z =
        let on : (y : ℕ) → y < m.half_edges → _ = λ y l. outer_right G x h z (m.origin y) (S.origin_in y l) in
        on_edge_right (s (m.origin x)) (s (m.origin (twin x))) a b c (ends_apart S G x h) abc d v bad i (on e may.in_e) (on (twin e) in_twin) (on (m.prev e) near.prev_in) (on (m.prev (twin e)) far.prev_in)

    pub split_inner_edge_geometric : Geometric pos n
    split_inner_edge_geometric =
        let some : 1 < m.faces = omega (arith, may.left, S.face_in e may.in_e) in
        inner_geometric pos m n S G (split_inner_edge_change m e) D relinks w (may.left, (omega arith, (may.right, (omega arith, tt)))) refl some (corners_e, (corners_pb, (corners_twin, (corners_bp, tt)))) (one_new pos m n G D.vertices_is new_right fresh)

  -- with the sides of the two faces, both halves of the edge and the two new edges listed, every other edge is as right as it was
  pub split_inner_edge_ready : (Before After : ℕ → Type 0) → ((x : ℕ) → Before x → EdgeListed After x) → EdgeListed After e → EdgeListed After (m.next e) → EdgeListed After (m.prev e) →
      EdgeListed After (m.next (twin e)) → EdgeListed After (m.prev (twin e)) → EdgeListed After m.half_edges → EdgeListed After (m.half_edges + 2) → EdgeListed After (m.half_edges + 4) →
      Ready pos m Before → Ready pos n After
  split_inner_edge_ready Before After more ap bc ca ad db pb pc pd =
      let k = new_pairs m S in
      ready_keep m n S p D relinks w pos Before After more
      (λ _. ap, (λ _. pc, (λ _. ca, (λ _. pb, (λ _. bc, (λ _. listed_other After _ _ k.t3 pc, (λ _. listed_other After _ _ (twin_twin e) ap, (λ _. ad, (λ _. listed_other After _ _ k.t5 pd, (λ _. listed_other After _ _ k.t1 pb, (λ _. pd, (λ _. db, tt))))))))))))
