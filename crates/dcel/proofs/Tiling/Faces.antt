-- The faces of a mesh as triangles: a place in the triangle on the left of a half edge, and in a face, from any of its half edges; the middle of a triangle.
use Rattle.std.proofs.Common.{◌≡◌, ℕ, ◌<◌, ◌≤◌, Bool, true, ◌≢◌, sym, ap, ◌∙◌, subst, inl, inr, arith}
use Rattle.exact.specs.Plane.{Point}
use Rattle.exact.proofs.Geometry.Words.{Within}
use Rattle.exact.proofs.Geometry.Triangles.{within_turn}
use Rattle.exact.proofs.Geometry.Moves.{centre, centre_place, centre_inside}
use Rattle.dcel.specs.Map.{Map, twin}
use Rattle.dcel.specs.Mesh.{Sound}
use Rattle.dcel.specs.Geometry.{from, to, apex, Geometric}
use Rattle.dcel.proofs.Neighbours.{in_triangle}
use Rattle.dcel.proofs.Sites.{start, stop, third, face_left}

-- strict: p is strictly inside the triangle on the left of e; not strict: in it or on its border
abbrev pub InTriangleOf : (ℕ → Point) → Map → Bool → ℕ → Point → Type 0
InTriangleOf pos m s e p = Within s (from pos m e) (to pos m e) (apex pos m e) p

abbrev pub InFace : (ℕ → Point) → Map → Bool → ℕ → Point → Type 0
InFace pos m s f p = InTriangleOf pos m s (m.edge f) p

-- ---- the same triangle from the next half edge
module _ {m : Map} (S : Sound m) (e : ℕ) (h : e < m.half_edges) (z : m.face e ≢ 0) where
  pub origin_next_end : m.origin (twin (m.next e)) ≡ m.origin (m.prev e)
  origin_next_end = sym (in_triangle m S e h z).origin_prev

  pub origin_next_apex : m.origin (m.prev (m.next e)) ≡ m.origin e
  origin_next_apex = ap m.origin (in_triangle m S e h z).prev_next

  pub next_inner : m.face (m.next e) ≢ 0
  next_inner q = z (sym (S.face_next e h) ∙ q)

  pub triangle_next : (pos : ℕ → Point) {s : Bool} {p : Point} → InTriangleOf pos m s e p → InTriangleOf pos m s (m.next e) p
  triangle_next pos i = rw (S.origin_next e h, origin_next_end, origin_next_apex) (within_turn i)

-- from any half edge of the face
module _ (pos : ℕ → Point) {m : Map} (S : Sound m) (e : ℕ) (h : e < m.half_edges) (z : m.face e ≢ 0) {s : Bool} {p : Point} where
  second : InTriangleOf pos m s e p → InTriangleOf pos m s (m.next (m.next e)) p
  second i = triangle_next S (m.next e) (S.next_in e h) (next_inner S e h z) pos (triangle_next S e h z pos i)

  pub face_of : InTriangleOf pos m s e p → InFace pos m s (m.face e) p
  face_of i = elim (S.edge_of e h z) [
    | inl q ↦ subst (λ (d : ℕ). InTriangleOf pos m s d p) (sym q) i
    | inr r ↦ elim r [
      | inl q ↦ subst (λ (d : ℕ). InTriangleOf pos m s d p) (sym q) (triangle_next S e h z pos i)
      | inr q ↦ subst (λ (d : ℕ). InTriangleOf pos m s d p) (sym q) (second i)
    ]
  ]

-- ---- the half edge of a face
module _ {m : Map} (S : Sound m) (f : ℕ) (l : 0 < f) (h : f < m.faces) where
  pub edge_inner : m.face (m.edge f) ≢ 0
  edge_inner q = omega (arith, S.edge_face f l h)

-- ---- the middle of a triangle
module _ {pos : ℕ → Point} {m : Map} (G : Geometric pos m) (e : ℕ) (h : e < m.half_edges) (z : m.face e ≢ 0) where
  abbrev pub middle_of : Point
  middle_of = centre (start G e) (stop G e) (third G e) (face_left G e h z)

  pub middle_place : 1 ≤ middle_of.w
  middle_place = centre_place (start G e) (stop G e) (third G e) (face_left G e h z)

  pub middle_inside : InTriangleOf pos m true e middle_of
  middle_inside = centre_inside (start G e) (stop G e) (third G e) (face_left G e h z)
