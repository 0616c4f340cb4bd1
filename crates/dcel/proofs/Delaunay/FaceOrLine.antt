-- A mesh has a face just where its vertices are not on one line.
use Rattle.std.proofs.Common.{◌≡◌, ℕ, ◌<◌, ◌≤◌, true, false, List, length, arith, inl, inr}
use Rattle.exact.specs.Plane.{Point, Vertex, spot, on_a_line}
use Rattle.std.proofs.lemmas.Bool.{false_from_ne_true, cases_lt}
use Rattle.exact.proofs.Booleans.{true_false}
use Rattle.exact.proofs.Algebra.Signs.{clash_zero}
use Rattle.exact.proofs.Geometry.Words.{On}
use Rattle.exact.proofs.Geometry.Line.{on_three}
use Rattle.exact.proofs.Geometry.OneLine.{on_a_line→, on_a_line←}
use Rattle.dcel.specs.Map.{Map, twin}
use Rattle.dcel.specs.Mesh.{Sound}
use Rattle.dcel.specs.Geometry.{Geometric}
use Rattle.dcel.proofs.Sites.{site, start, stop, third, different_apart, face_left, stop_in, third_in, ends_apart}
use Rattle.dcel.proofs.NoFace.{on_line}
use Rattle.dcel.proofs.Tiling.Faces.{edge_inner}

module _ {m : Map} (S : Sound m) where
  pub two_vertices : (e : ℕ) → e < m.half_edges → 1 < m.vertices
  two_vertices e h = omega (arith, S.origin_in e h, stop_in S e h, S.no_loop e h)

module _ {pos : ℕ → Point} {m : Map} (S : Sound m) (G : Geometric pos m) where
  -- any three are on one line: each has a half edge, and all are on its line
  pub three_on_line : m.faces ≤ 1 → (u v w : ℕ) → u < m.vertices → v < m.vertices → w < m.vertices → On (site G u) (site G v) (site G w)
  three_on_line none u v w hu hv hw =
      let e = m.out u in let h = S.out_in u hu in
      on_three (start G e) (stop G e) (site G u) (site G v) (site G w) (ends_apart S G e h) (on_line S none G e h u hu) (on_line S none G e h v hv) (on_line S none G e h w hw)

module _ (vs : List Vertex) {m : Map} (S : Sound m) (G : Geometric (spot vs) m) (len : m.vertices ≡ length vs) where
  pub no_face_line : m.faces ≤ 1 → on_a_line vs ≡ true
  no_face_line none = on_a_line← vs (λ k l.
      three_on_line S G none 0 1 k (omega arith) (two_vertices S (m.out k) (S.out_in k (omega arith))) (omega arith))

  -- the corners of a face are on no line
  pub face_no_line : 1 < m.faces → on_a_line vs ≡ false
  face_no_line some = false_from_ne_true (on_a_line vs) (λ line.
      let e = m.edge 1 in let h = S.edge_in 1 (omega arith) some in let z = edge_inner S 1 (omega arith) some in
      let two = two_vertices S e h in
      let on : (v : ℕ) → v < m.vertices → On (site G 0) (site G 1) (site G v) = λ v l. on_a_line→ vs G.whole line (omega arith) v (omega arith) in
      clash_zero (face_left G e h z) (on_three (site G 0) (site G 1) (start G e) (stop G e) (third G e) (different_apart G 0 1 (omega arith) two (λ q. omega arith)) (on (m.origin e) (S.origin_in e h)) (on (m.origin (twin e)) (stop_in S e h)) (on (m.origin (m.prev e)) (third_in S e h))))

  pub line_no_face : on_a_line vs ≡ true → m.faces ≤ 1
  line_no_face line = elim (cases_lt 1 m.faces) [ inl some ↦ absurd (true_false (on_a_line vs) line (face_no_line some)) | inr n ↦ omega arith ]

  pub no_line_face : on_a_line vs ≡ false → 1 < m.faces
  no_line_face off = elim (cases_lt 1 m.faces) [ inl some ↦ some | inr n ↦ absurd (true_false (on_a_line vs) (no_face_line (omega arith)) off) ]
