-- At rest no vertex is inside the circle of a face: walking towards it one stays inside the circles, and ends in a face of which it is a corner.
use Rattle.std.proofs.Common.{◌≡◌, ℕ, ◌<◌, true, false, List, length, pos, neg_ℤ, sym, ap, ◌∙◌, subst, inl, inr, arith}
use Rattle.std.proofs.lemmas.Bool.{cases_eq}
use Rattle.exact.specs.Plane.{every, Point, Vertex, spot, empty_circle}
use Rattle.exact.proofs.Lists.{every←}
use Rattle.exact.proofs.Numbered.{numbered→}
use Rattle.exact.proofs.Algebra.Signs.{Sign, ◌by◌, zero_sign_neg}
use Rattle.exact.proofs.Geometry.Words.{Site, Incircle, W_site}
use Rattle.exact.proofs.Geometry.Identities.Circles.{circle_turn, corner_on}
use Rattle.exact.proofs.Geometry.Faces.{empty_circle←, rot_circle}
use Rattle.exact.proofs.Walk.Edges.{Power, InTriangleOf, Beyond, Across}
use Rattle.exact.proofs.Walk.Everywhere.{everywhere}
use Rattle.dcel.specs.Map.{Map, twin}
use Rattle.dcel.specs.Mesh.{Among, Sound}
use Rattle.dcel.specs.Geometry.{Geometric, AtRest, face_tri, triangles}
use Rattle.dcel.proofs.Twins.{twin_twin}
use Rattle.dcel.proofs.Sites.{site, start, stop, third, outer_left}
use Rattle.dcel.proofs.Tiling.Faces.{InTriangleOf as FaceTriangle, InFace, face_of, edge_inner}
use Rattle.dcel.proofs.Tiling.FaceTriangles.{face_least}
use Rattle.dcel.proofs.Tiling.Hull.{two_sides}
use Rattle.dcel.proofs.Tiling.Corners.{corners_only}
use Rattle.dcel.proofs.Legal.Corners.{corners_of_face}
use Rattle.dcel.proofs.Delaunay.MeshTriangles.{Inner, mesh_triangles, power_is, in_triangle→, crossable, twin_across}

among_turn : (v a b c : ℕ) → Among v a b c → Among v b c a
among_turn v a b c (inl q) = inr (inr q)
among_turn v a b c (inr (inl q)) = inl q
among_turn v a b c (inr (inr q)) = inr (inl q)

-- the corners of a triangle are on its circle
corners_on : (P : ℕ → Site) (a b c v : ℕ) → Among v a b c → Incircle (P a) (P b) (P c) (P v) ≡ pos 0
corners_on P a b c v among = elim among [
  | inl q ↦ first a b c q
  | inr r ↦ elim r [
    | inl q ↦ circle_turn (P a) (P b) (P c) (P v) ∙ first b c a q
    | inr q ↦ circle_turn (P a) (P b) (P c) (P v) ∙ circle_turn (P b) (P c) (P a) (P v) ∙ first c a b q
  ]
]
  where
    first : (a b c : ℕ) → v ≡ a → Incircle (P a) (P b) (P c) (P v) ≡ pos 0
    first a b c q = ap (λ (u : ℕ). Incircle (P a) (P b) (P c) (P u)) q ∙ corner_on (P a) (P b) (P c)

module _ {pos : ℕ → Point} {m : Map} (S : Sound m) (G : Geometric pos m) (some : 1 < m.faces) (v : ℕ) (l : v < m.vertices) where
  -- where there is a face, each vertex is a corner of one
  pub inner_from : (e : ℕ) × Inner m e × (m.origin e ≡ v)
  inner_from = elim (cases_eq (m.face e) 0) [
    | inr z ↦ (e, (h, z), S.out_origin v l)
    | inl z ↦ (m.next (twin e), (S.next_in (twin e) t, λ y. two_sides S G some e h z (sym (S.face_next (twin e) t) ∙ y)), S.origin_next (twin e) t ∙ ap m.origin (twin_twin e) ∙ S.out_origin v l)
  ]
    where
      e : ℕ
      e = m.out v

      h : e < m.half_edges
      h = S.out_in v l

      t : twin e < m.half_edges
      t = S.twin_in e h

  -- in a closed face it is a corner
  pub vertex_corner : (e : ℕ) → Inner m e → FaceTriangle pos m false e (pos v) → Among v (m.origin e) (m.origin (twin e)) (m.origin (m.prev e))
  vertex_corner e i has =
      let d = inner_from in let f = m.face e in let z = i.1 in
      let here : InFace pos m false f (pos (m.origin d.0)) = subst (λ (u : ℕ). InFace pos m false f (pos u)) (sym d.2) (face_of pos S e i.0 z has) in
      let among = subst (λ (u : ℕ). Among u (m.origin (m.edge f)) (m.origin (twin (m.edge f))) (m.origin (m.prev (m.edge f)))) d.2 (corners_only S G d.0 d.1.0 d.1.1 f (omega (arith, z)) (S.face_in e i.0) here) in
      corners_of_face (Among v) (among_turn v) m S e i.0 z among

  -- so it is on the circle
  on_circle : (e : ℕ) → Inner m e → InTriangleOf (start G) m.next false e (pos v) → Sign false (neg_ℤ (Power (start G) m.next e (pos v)))
  on_circle e i has = zero_sign_neg (Power (start G) m.next e (pos v))
      (power_is S G e i (pos v) ∙ corners_on (site G) (m.origin e) (m.origin (twin e)) (m.origin (m.prev e)) v (vertex_corner e i (in_triangle→ S G e i has)))

  pub vertex_outside : AtRest pos m → (e : ℕ) → Inner m e → Sign false (neg_ℤ (Incircle (start G e) (stop G e) (third G e) (site G v)))
  vertex_outside rest e i = everywhere (mesh_triangles S G) (pos v) (W_site (site G v)) cross on_circle e i by ap neg_ℤ (sym (power_is S G e i (pos v)))
    where
      cross : (e : ℕ) → Inner m e → Beyond (start G) m.next e (pos v) → (f : ℕ) × Inner m f × Across (start G) m.next e f
      cross e i r = let j = crossable S G e i.0 (pos v) (λ d k y. outer_left G d k y v l) r in (twin e, j, twin_across S G e i j (rest e i.0 i.1 j.1))

pub empty_circles : (vs : List Vertex) {m : Map} → Sound m → Geometric (spot vs) m → m.vertices ≡ length vs → AtRest (spot vs) m → every (empty_circle vs) (triangles m) ≡ true
empty_circles vs {m} S G len rest = every← (empty_circle vs) (triangles m) (λ t k. let r = numbered→ (face_tri m) m.faces t k in ap (empty_circle vs) r.3 ∙ empty r.0 r.1 r.2)
  where
    empty : (f : ℕ) → 0 < f → f < m.faces → empty_circle vs (face_tri m f) ≡ true
    empty f l h = empty_circle← vs (face_tri m f) (λ v k.
        let e = m.edge f in
        vertex_outside S G (omega arith) v (omega arith) rest e (S.edge_in f l h, edge_inner S f l h)
        by ap neg_ℤ (sym (rot_circle vs (face_tri m f) G.whole (m.origin e) (m.origin (twin e)) (m.origin (m.prev e)) (face_least S f l h).turned (spot vs v))))
