-- The edges of the triangles of a mesh are its inner half edges.
use Rattle.std.proofs.Common.{◌≡◌, ℕ, ◌<◌, true, ◌≢◌, sym, ◌∙◌, subst, inl, inr, arith}
use Rattle.exact.specs.Plane.{Tri, goes}
use Rattle.exact.proofs.Lists.{In, any→, any←}
use Rattle.exact.proofs.Numbered.{numbered→, numbered←}
use Rattle.exact.proofs.Vertices.{Rot, rot_next, rot_goes, goes_rot}
use Rattle.exact.proofs.Geometry.Joined.{has_edge, rot_edges}
use Rattle.dcel.specs.Map.{Map, twin}
use Rattle.dcel.specs.Mesh.{Sound}
use Rattle.dcel.specs.Geometry.{face_tri, triangles}
use Rattle.dcel.proofs.Neighbours.{in_triangle}
use Rattle.dcel.proofs.Tiling.Faces.{next_inner, edge_inner}
use Rattle.dcel.proofs.Tiling.FaceTriangles.{face_least}
use Rattle.dcel.proofs.Legal.Corners.{corners_of_face}
use Rattle.dcel.proofs.Delaunay.MeshTriangles.{Inner}

-- a half edge from a to b
pub record Joins (m : Map) (a b e : ℕ) : Type 0 where
  pub in_e : e < m.half_edges
  pub from_is : m.origin e ≡ a
  pub to_is : m.origin (twin e) ≡ b

module _ {m : Map} (S : Sound m) where
  -- ---- the triangle on the left of an inner half edge goes along it
  pub face_turned : (e : ℕ) → Inner m e → Rot (face_tri m (m.face e)) (m.origin e) (m.origin (twin e)) (m.origin (m.prev e))
  face_turned e i = let z = i.1 in corners_of_face (Rot (face_tri m (m.face e))) (rot_next (face_tri m (m.face e))) m S e i.0 z (face_least S (m.face e) (omega (arith, z)) (S.face_in e i.0)).turned

  pub face_listed : (e : ℕ) → Inner m e → In (face_tri m (m.face e)) (triangles m)
  face_listed e i = let z = i.1 in numbered← (face_tri m) m.faces (m.face e) (omega (arith, z)) (S.face_in e i.0)

  pub inner_edge : (e : ℕ) → Inner m e → has_edge (triangles m) (m.origin e) (m.origin (twin e)) ≡ true
  inner_edge e i =
      let t = face_tri m (m.face e) in let a = m.origin e in let b = m.origin (twin e) in
      any← (λ t. goes t a b) (triangles m) t (face_listed e i) (rot_goes t a b (m.origin (m.prev e)) (face_turned e i))

  -- and each edge of a triangle is such a half edge
  pub triangle_edge : (a b : ℕ) → has_edge (triangles m) a b ≡ true → (e : ℕ) × Joins m a b e × (m.face e ≢ 0)
  triangle_edge a b h =
      let r = any→ (λ t. goes t a b) (triangles m) h in
      let k = numbered→ (face_tri m) m.faces r.0 r.1 in
      let g = goes_rot (face_tri m k.0) a b (subst (λ (t : Tri). goes t a b ≡ true) k.3 r.2) in
      of_face k.0 k.1 k.2 g.0 g.1
    where
      of_face : (f : ℕ) → 0 < f → f < m.faces → (c : ℕ) → Rot (face_tri m f) a b c → (e : ℕ) × Joins m a b e × (m.face e ≢ 0)
      of_face f l h c ρ =
          let e = m.edge f in let i = S.edge_in f l h in let z = edge_inner S f l h in let t = in_triangle m S e i z in
          elim (rot_edges (face_tri m f) (m.origin e) (m.origin (twin e)) (m.origin (m.prev e)) (face_least S f l h).turned a b c ρ) [
            | inl q ↦ (e, record { in_e = i; from_is = sym q.0; to_is = sym q.1 }, z)
            | inr s ↦ elim s [
              | inl q ↦ (m.next e, record { in_e = t.next_in; from_is = t.origin_next ∙ sym q.0; to_is = sym t.origin_prev ∙ sym q.1 }, next_inner S e i z)
              | inr q ↦ (m.prev e, record { in_e = t.prev_in; from_is = sym q.0; to_is = sym t.origin_here ∙ sym q.1 }, λ y. z (sym t.face_prev ∙ y))
            ]
          ]
