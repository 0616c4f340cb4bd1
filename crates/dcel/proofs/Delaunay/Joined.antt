-- What is joined by the triangles of a mesh, or on a line as neighbours, are the ends of its half edges; the edges of the outer face are those of its outer half edges.
use Rattle.std.proofs.Common.{◌≡◌, ℕ, ◌<◌, ◌≤◌, true, false, not, List, length, sym, ap, ◌∙◌, subst, ap₂, inl, inr, arith}
use Rattle.exact.specs.Plane.{or, Vertex, spot, on_a_line, joined, outer_edge}
use Rattle.std.proofs.lemmas.Bool.{false_from_ne_true, and_from, not-true, not_from_false, cases_eq, cases_lt}
use Rattle.exact.proofs.Booleans.{true_false, and_left, and_right, or→, or_left, or_right}
use Rattle.exact.proofs.Algebra.Signs.{clash}
use Rattle.exact.proofs.Geometry.Words.{RightOn}
use Rattle.exact.proofs.Geometry.Joined.{has_edge, line_outer_is, joined_is, outer_is}
use Rattle.dcel.specs.Map.{Map, twin}
use Rattle.dcel.specs.Mesh.{Sound}
use Rattle.dcel.specs.Geometry.{Geometric, triangles}
use Rattle.dcel.proofs.Twins.{twin_twin}
use Rattle.dcel.proofs.Sites.{start, stop, third, face_left, outer_right, third_in}
use Rattle.dcel.proofs.Tiling.Hull.{two_sides}
use Rattle.dcel.proofs.NoFace.{all_outer}
use Rattle.dcel.proofs.Delaunay.FaceOrLine.{no_face_line, face_no_line}
use Rattle.dcel.proofs.Delaunay.TriangleEdges.{Joins, inner_edge, triangle_edge}
use Rattle.dcel.proofs.Delaunay.LineEdges.{line_edge_joined, line_joined_by}

module _ (vs : List Vertex) {m : Map} (S : Sound m) (G : Geometric (spot vs) m) (len : m.vertices ≡ length vs) where
  -- ---- where there is a face: the triangle on one of its sides
  module _ (some : 1 < m.faces) where
    off : on_a_line vs ≡ false
    off = face_no_line vs S G len some

    behind : (e : ℕ) → e < m.half_edges → m.face e ≡ 0 → has_edge (triangles m) (m.origin (twin e)) (m.origin e) ≡ true
    behind e h z = subst (λ (d : ℕ). has_edge (triangles m) (m.origin (twin e)) (m.origin d) ≡ true) (twin_twin e) (inner_edge S (twin e) (S.twin_in e h, two_sides S G some e h z))

    face_edge_joined : (e : ℕ) → e < m.half_edges → joined vs (triangles m) (m.origin e) (m.origin (twin e)) ≡ true
    face_edge_joined e h =
        let a = m.origin e in let b = m.origin (twin e) in let ts = triangles m in
        joined_is vs a b ts off ∙ elim (cases_eq (m.face e) 0) [
          | inl z ↦ or_right (has_edge ts a b) (has_edge ts b a) (behind e h z)
          | inr z ↦ or_left (has_edge ts a b) (has_edge ts b a) (inner_edge S e (h, z))
        ]

    -- no triangle is on the left of an outer half edge
    no_edge : (e : ℕ) → e < m.half_edges → m.face e ≡ 0 → has_edge (triangles m) (m.origin e) (m.origin (twin e)) ≡ false
    no_edge e h z = false_from_ne_true (has_edge (triangles m) (m.origin e) (m.origin (twin e))) (λ t.
        let r = triangle_edge S (m.origin e) (m.origin (twin e)) t in let d = r.0 in let j = r.1 in
        let right : RightOn (start G d) (stop G d) (third G d) = rw (j.from_is, j.to_is) (outer_right G e h z (m.origin (m.prev d)) (third_in S d j.in_e)) in
        clash (face_left G d j.in_e r.2) right)

    face_outer_edge : (e : ℕ) → e < m.half_edges → m.face e ≡ 0 → outer_edge vs (triangles m) (m.origin e) (m.origin (twin e)) ≡ true
    face_outer_edge e h z =
        let a = m.origin e in let b = m.origin (twin e) in let ts = triangles m in
        outer_is vs a b ts off ∙ and_from (or (has_edge ts a b) (has_edge ts b a)) (not (has_edge ts a b)) (or_right (has_edge ts a b) (has_edge ts b a) (behind e h z)) (not_from_false (has_edge ts a b) (no_edge e h z))

    -- and what is joined is so by a half edge
    face_joined_by : (a b : ℕ) → joined vs (triangles m) a b ≡ true → (e : ℕ) × Joins m a b e
    face_joined_by a b t = elim (or→ (has_edge (triangles m) a b) (has_edge (triangles m) b a) (sym (joined_is vs a b (triangles m) off) ∙ t)) [
      | inl k ↦ (let r = triangle_edge S a b k in (r.0, r.1))
      | inr k ↦
          let r = triangle_edge S b a k in let j = r.1 in
          (twin r.0, record { in_e = S.twin_in r.0 j.in_e; from_is = j.to_is; to_is = ap m.origin (twin_twin r.0) ∙ j.from_is })
    ]

    face_outer_by : (a b : ℕ) → outer_edge vs (triangles m) a b ≡ true → (e : ℕ) × Joins m a b e × (m.face e ≡ 0)
    face_outer_by a b t =
        let ts = triangles m in
        let both = sym (outer_is vs a b ts off) ∙ t in
        let none = not-true (has_edge ts a b) (and_right (or (has_edge ts a b) (has_edge ts b a)) (not (has_edge ts a b)) both) in
        let r = face_joined_by a b (joined_is vs a b ts off ∙ and_left (or (has_edge ts a b) (has_edge ts b a)) (not (has_edge ts a b)) both) in let e = r.0 in let j = r.1 in
        elim (cases_eq (m.face e) 0) [
          | inl z ↦ (e, j, z)
          | inr z ↦ absurd (true_false (has_edge ts a b) (sym (ap₂ (has_edge ts) j.from_is j.to_is) ∙ inner_edge S e (j.in_e, z)) none)
        ]

  -- ---- with a face or on a line
  pub edge_joined : (e : ℕ) → e < m.half_edges → joined vs (triangles m) (m.origin e) (m.origin (twin e)) ≡ true
  edge_joined e h = elim (cases_lt 1 m.faces) [ inl some ↦ face_edge_joined some e h | inr n ↦ line_edge_joined vs S G len (omega arith) (triangles m) e h ]

  pub edge_outer : (e : ℕ) → e < m.half_edges → m.face e ≡ 0 → outer_edge vs (triangles m) (m.origin e) (m.origin (twin e)) ≡ true
  edge_outer e h z = elim (cases_lt 1 m.faces) [
    | inl some ↦ face_outer_edge some e h z
    | inr n ↦ line_outer_is vs (m.origin e) (m.origin (twin e)) (triangles m) (no_face_line vs S G len (omega arith)) ∙ line_edge_joined vs S G len (omega arith) (triangles m) e h
  ]

  pub joined_by : (a b : ℕ) → joined vs (triangles m) a b ≡ true → (e : ℕ) × Joins m a b e
  joined_by a b t = elim (cases_lt 1 m.faces) [ inl some ↦ face_joined_by some a b t | inr n ↦ line_joined_by vs S G len (omega arith) (triangles m) a b t ]

  pub outer_by : (a b : ℕ) → outer_edge vs (triangles m) a b ≡ true → (e : ℕ) × Joins m a b e × (m.face e ≡ 0)
  outer_by a b t = elim (cases_lt 1 m.faces) [
    | inl some ↦ face_outer_by some a b t
    | inr n ↦
        let none : m.faces ≤ 1 = omega arith in
        let r = line_joined_by vs S G len none (triangles m) a b (sym (line_outer_is vs a b (triangles m) (no_face_line vs S G len none)) ∙ t) in
        (r.0, r.1, all_outer S none r.0 r.1.in_e)
  ]
