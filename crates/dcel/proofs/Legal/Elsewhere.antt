-- A place in a closed face, or on its border, that is at none of its corners is no vertex's: so a vertex put there is where no other is.
use Rattle.std.proofs.Common.{◌≡◌, ℕ, ◌<◌, false, ◌≢◌, sym, ap, ◌∙◌, subst, inl, inr, arith}
use Rattle.std.proofs.lemmas.Bool.{cases_eq}
use Rattle.exact.specs.Plane.{Point}
use Rattle.exact.proofs.Algebra.Signs.{clash_zero}
use Rattle.exact.proofs.Geometry.Words.{Within, Site, Left, Apart, Inside}
use Rattle.exact.proofs.Geometry.Triangles.{apart_swap, corners_apart, within_weak}
use Rattle.exact.proofs.Geometry.Betweenness.{between_apart}
use Rattle.exact.proofs.Geometry.Spots.{same_of, same_at}
use Rattle.exact.proofs.Geometry.Split.{edge_left, edge_at}
use Rattle.dcel.specs.Map.{Map, twin}
use Rattle.dcel.specs.Mesh.{Sound}
use Rattle.dcel.specs.Geometry.{Geometric}
use Rattle.dcel.proofs.Twins.{twin_twin}
use Rattle.dcel.proofs.Sites.{site, face_left}
use Rattle.dcel.proofs.Tiling.Faces.{InFace, face_of}
use Rattle.dcel.proofs.Tiling.Hull.{two_sides}
use Rattle.dcel.proofs.Tiling.Corners.{corners_only}
use Rattle.dcel.proofs.Legal.Corners.{Corners, corners_to_face}
use Rattle.dcel.proofs.Legal.NewVertex.{Fresh, OnEdge}

module _ (pos : ℕ → Point) (m : Map) (S : Sound m) (G : Geometric pos m) where
  abbrev s : ℕ → Site
  s = site G

  abbrev v : Site
  v = s m.vertices

  -- where there is a face, each vertex begins an inner half edge
  pub inner_from : 1 < m.faces → (u : ℕ) → u < m.vertices → (x : ℕ) × (x < m.half_edges) × (m.face x ≢ 0) × (m.origin x ≡ u)
  inner_from some u l = elim (cases_eq (m.face x) 0) [
    | inl q ↦ (m.next (twin x), S.next_in _ (S.twin_in x h), (λ z. two_sides S G some x h q (sym (S.face_next _ (S.twin_in x h)) ∙ z)), S.origin_next _ (S.twin_in x h) ∙ ap m.origin (twin_twin x) ∙ S.out_origin u l)
    | inr q ↦ (x, h, q, S.out_origin u l)
  ]
    where
      x : ℕ
      x = m.out u

      h : x < m.half_edges
      h = S.out_in u l

  -- at none of three corners
  abbrev OffCorners : ℕ → ℕ → ℕ → Type 0
  OffCorners a b c = Apart (s a) v × Apart (s b) v × Apart (s c) v

  module _ (e : ℕ) (h : e < m.half_edges) (z : m.face e ≢ 0) where
    in_face_fresh : Corners (λ a b c. Within false (pos a) (pos b) (pos c) (pos m.vertices)) m e → Corners OffCorners m e → Fresh pos m
    in_face_fresh i off u l x y = elim (corners_only S G o.0 o.1 o.2 (m.face e) (omega arith) (S.face_in e h) (subst (InFace pos m false (m.face e)) (sym here) (face_of pos S e h z i))) [
      | inl q ↦ at_corner q far.0
      | inr r ↦ elim r [ inl q ↦ at_corner q far.1 | inr q ↦ at_corner q far.2 ]
    ]
      where
        o : (x : ℕ) × (x < m.half_edges) × (m.face x ≢ 0) × (m.origin x ≡ u)
        o = inner_from (omega (arith, S.face_in e h)) u l

        here : pos (m.origin o.0) ≡ pos m.vertices
        here = ap pos o.3 ∙ same_at (s u) v (same_of (s u) v x y)

        far : Corners OffCorners m (m.edge (m.face e))
        far = corners_to_face OffCorners (λ a b c k. (k.1, k.2, k.0)) m S e h z off

        at_corner : {c : ℕ} → m.origin o.0 ≡ c → Apart (s c) v → ⊥
        at_corner {c} q k = let same : pos c ≡ pos m.vertices = ap pos (sym q) ∙ here in clash_zero k (same_of (s c) v (ap (λ r. r.x) same) (ap (λ r. r.y) same))

    pub inside_fresh : Corners (λ a b c. Inside (s a) (s b) (s c) v) m e → Fresh pos m
    inside_fresh i =
        let a = s (m.origin e) in
        let b = s (m.origin (twin e)) in
        let c = s (m.origin (m.prev e)) in
        in_face_fresh (within_weak i) (apart_swap v a (corners_apart a b v i.ab).2, (corners_apart a b v i.ab).1, (corners_apart b c v i.bc).1)

    pub on_edge_fresh : OnEdge pos m G e → Fresh pos m
    on_edge_fresh i =
        let a = s (m.origin e) in
        let b = s (m.origin (twin e)) in
        let c = s (m.origin (m.prev e)) in
        let t : Left a b c = face_left G e h z in
        let ends = between_apart a b v i in
        in_face_fresh (edge_at a b c v t i) (ends.0, ends.1, apart_swap v c (corners_apart a v c (edge_left a b c v t i)).1)
