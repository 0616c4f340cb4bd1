-- A walk to the place x over a mesh at rest: from a half edge with x strictly on its left over one of the other two of its face that has x strictly on its right. Each step lowers the number of those that may be left.
use Rattle.std.proofs.Common.{◌≡◌, ℕ, suc, ◌*◌, ◌<◌, ◌≤◌, true, false, ◌≢◌, ◌⊎◌, neg_ℤ, sym, ◌∙◌, subst, inl, inr, arith}
use Rattle.std.proofs.lemmas.Int.{ints}
use Rattle.exact.specs.Plane.{Point, left_of, right_of}
use Rattle.exact.proofs.Algebra.Signs.{Sign, ◌by◌}
use Rattle.exact.proofs.Geometry.Words.{W_sign, orient}
use Rattle.exact.proofs.Geometry.Tests.{left→, left←, right→, not_right→}
use Rattle.exact.proofs.Geometry.Identities.Sides.{swap_place}
use Rattle.exact.proofs.Walk.Edges.{Beyond, Across}
use Rattle.exact.proofs.Walk.Measure.{measure, falls}
use Rattle.dcel.specs.Map.{Map, twin}
use Rattle.dcel.specs.Mesh.{Sound}
use Rattle.dcel.specs.Geometry.{from, to, Geometric, AtRest}
use Rattle.dcel.proofs.Twins.{twin_twin}
use Rattle.dcel.proofs.Neighbours.{in_triangle}
use Rattle.dcel.proofs.Sites.{start, stop}
use Rattle.dcel.proofs.Tiling.Faces.{InTriangleOf, next_inner}
use Rattle.dcel.proofs.Delaunay.MeshTriangles.{Inner, face_edges, vertex_sites, mesh_triangles, beyond←, twin_across, mesh_measure_bound}

-- a walk to x came to e, from the face on its right
pub record CameTo (pos : ℕ → Point) (m : Map) (x : Point) (e : ℕ) : Type 0 where
  pub in_e : e < m.half_edges
  pub behind : m.face (twin e) ≢ 0
  pub ahead : left_of (from pos m e) (to pos m e) x ≡ true

-- another side of the face of e, with x on its right
pub record Exit (pos : ℕ → Point) (m : Map) (x : Point) (e n : ℕ) : Type 0 where
  pub inner : m.face e ≢ 0
  pub side : (n ≡ m.next e) ⊎ (n ≡ m.prev e)
  pub right : right_of (from pos m n) (to pos m n) x ≡ true

module _ {pos : ℕ → Point} {m : Map} (S : Sound m) (G : Geometric pos m) (x : Point) where
  -- how many steps may be left at a half edge that a walk came to
  abbrev pub steps_left : ℕ → ℕ
  steps_left e = measure (start G) m.next (face_edges m) (vertex_sites G) x (twin e)

  pub steps_bound : (e : ℕ) → CameTo pos m x e → steps_left e < m.faces * suc m.vertices
  steps_bound e c = mesh_measure_bound S G x (twin e) (S.twin_in e c.in_e, c.behind)

  exit_inner : (e : ℕ) → e < m.half_edges → (n : ℕ) → Exit pos m x e n → Inner m n
  exit_inner e h n k = elim k.side [
    | inl q ↦ subst (Inner m) (sym q) (S.next_in e h, next_inner S e h k.inner)
    | inr q ↦ subst (Inner m) (sym q) (S.prev_in e h, λ z. k.inner (sym (in_triangle m S e h k.inner).face_prev ∙ z))
  ]

  -- over an exit it comes to the twin
  pub exit_came : (e : ℕ) → e < m.half_edges → (n : ℕ) → Exit pos m x e n → CameTo pos m x (twin n)
  exit_came e h n k =
      let i = exit_inner e h n k in
      record {
        in_e = S.twin_in n i.0;
        behind = rw (twin_twin n) i.1;
        ahead = subst (λ (d : ℕ). left_of (to pos m n) (from pos m d) x ≡ true) (sym (twin_twin n)) (left← (to pos m n) (from pos m n) x (right→ (from pos m n) (to pos m n) x k.right by swap_place (stop G n) (start G n) x));
      }

  pub exit_lowers : AtRest pos m → 1 ≤ x.w → (e : ℕ) → CameTo pos m x e → (n : ℕ) → Exit pos m x e n → steps_left (twin n) < steps_left e
  exit_lowers rest w e c n k =
      rw (twin_twin n) (falls (mesh_triangles S G) (twin e) e (t, c.behind) (c.in_e, k.inner) across x (W_sign x w) back n
      (beyond← S G n (exit_inner e c.in_e n k).0 x (right→ (from pos m n) (to pos m n) x k.right)) (inr which))
    where
      t : twin e < m.half_edges
      t = S.twin_in e c.in_e

      around : m.face (twin (twin e)) ≢ 0
      around = rw (twin_twin e) k.inner

      across : Across (start G) m.next (twin e) e
      across = rw (twin_twin e) at (twin_across S G (twin e) (t, c.behind) (S.twin_in (twin e) t, around) (rest (twin e) t c.behind around))

      turned : Sign true (neg_ℤ (orient (to pos m e) (from pos m e) x))
      turned = let s = left→ (from pos m e) (to pos m e) x c.ahead in omega (arith, ints, swap_place (stop G e) (start G e) x)

      back : Beyond (start G) m.next (twin e) x
      back = beyond← S G (twin e) t x (rw (twin_twin e) turned)

      which : (n ≡ m.next e) ⊎ (n ≡ m.next (m.next e))
      which = elim k.side [ inl q ↦ inl q | inr q ↦ inr (q ∙ sym (in_triangle m S e c.in_e k.inner).next_next) ]

  -- with no exit it is there
  pub arrived : (e : ℕ) → Inner m e → right_of (from pos m e) (to pos m e) x ≡ false → right_of (from pos m (m.next e)) (to pos m (m.next e)) x ≡ false → right_of (from pos m (m.prev e)) (to pos m (m.prev e)) x ≡ false →
      InTriangleOf pos m false e x
  arrived e i p q r =
      let t = in_triangle m S e i.0 i.1 in
      record {
        ab = not_right→ (from pos m e) (to pos m e) x p;
        bc = rw (t.origin_next, sym t.origin_prev) at (not_right→ (from pos m (m.next e)) (to pos m (m.next e)) x q);
        ca = rw (sym t.origin_here) at (not_right→ (from pos m (m.prev e)) (to pos m (m.prev e)) x r);
      }
