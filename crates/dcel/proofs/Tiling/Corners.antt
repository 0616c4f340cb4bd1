-- A vertex that some face has for a corner is in no closed face but those that have it for a corner.
use Rattle.std.proofs.Common.{◌≡◌, ℕ, ◌<◌, ◌≤◌, false, ◌≢◌, sym, ap, ◌∙◌, subst, inl, inr, arith}
use Rattle.exact.specs.Plane.{Point}
use Rattle.exact.proofs.Algebra.Signs.{clash_zero}
use Rattle.exact.proofs.Geometry.Words.{Site, Between, On, Same}
use Rattle.exact.proofs.Geometry.Triangles.{first_in}
use Rattle.exact.proofs.Geometry.Betweenness.{between_apart}
use Rattle.exact.proofs.Geometry.Spots.{same_of, same_or_apart}
use Rattle.exact.proofs.Geometry.Horizon.{inside_or_edge}
use Rattle.dcel.specs.Map.{Map, twin}
use Rattle.dcel.specs.Mesh.{Among, Sound}
use Rattle.dcel.specs.Geometry.{from, Geometric}
use Rattle.dcel.proofs.Neighbours.{InTriangle, in_triangle, same_face, face_three}
use Rattle.dcel.proofs.Sites.{site, start, stop, third, same_vertex, face_left, stop_in, third_in}
use Rattle.dcel.proofs.Tiling.Faces.{InFace, edge_inner, face_of}
use Rattle.dcel.proofs.Tiling.NeverTwo.{never_in_two}
use Rattle.dcel.proofs.Tiling.Edges.{in_twin, only_two}

module _ {pos : ℕ → Point} {m : Map} (S : Sound m) (G : Geometric pos m) (e : ℕ) (h : e < m.half_edges) (z : m.face e ≢ 0) where
  abbrev p : Site
  p = start G e

  whole : 1 ≤ (pos (m.origin e)).w
  whole = omega (arith, G.whole (m.origin e))

  -- it is in its own face
  own_face : InFace pos m false (m.face e) (from pos m e)
  own_face = face_of pos S e h z (first_in p (stop G e) (third G e) (face_left G e h z))

  abbrev StrictlyIn : ℕ → Type 0
  StrictlyIn d = Between (start G d) (stop G d) p

  -- ---- strictly inside no edge of a face
  not_own : (d : ℕ) → d < m.half_edges → m.face d ≢ 0 → m.face e ≡ m.face d → StrictlyIn d → ⊥
  not_own d k y q b =
      let r = between_apart u v p b in
      elim (same_face m S d e k h y q) [
        | inl s ↦ clash_zero r.0 (same (m.origin d) (ap m.origin s))
        | inr w ↦ elim w [
          | inl s ↦ clash_zero r.1 (same (m.origin (twin d)) (ap m.origin s ∙ S.origin_next d k))
          | inr s ↦ clash_zero (face_left G d k y) (subst (λ (x : ℕ). On u v (site G x)) (ap m.origin s) b.on)
        ]
      ]
    where
      u : Site
      u = start G d

      v : Site
      v = stop G d

      same : (x : ℕ) → m.origin e ≡ x → Same (site G x) p
      same x q = same_of (site G x) p (ap (λ (i : ℕ). (pos i).x) (sym q)) (ap (λ (i : ℕ). (pos i).y) (sym q))

  not_in_edge : (d : ℕ) → d < m.half_edges → m.face d ≢ 0 → StrictlyIn d → ⊥
  not_in_edge d k y b = elim (only_two S G (from pos m e) whole d k y b (m.face e) (omega (arith, z)) (S.face_in e h) own_face) [
    | inl q ↦ not_own d k y q b
    | inr q ↦ not_own (twin d) (S.twin_in d k) (λ w. z (q ∙ w)) q (in_twin S G (from pos m e) whole d b)
  ]

  pub corners_only : (f : ℕ) → 0 < f → f < m.faces → InFace pos m false f (from pos m e) → Among (m.origin e) (m.origin (m.edge f)) (m.origin (twin (m.edge f))) (m.origin (m.prev (m.edge f)))
  corners_only f l k i = elim (same_or_apart a p) [
    | inl s ↦ inl (sym (same_vertex G (m.origin d) (m.origin e) (S.origin_in d hd) (S.origin_in e h) s))
    | inr pa ↦ elim (same_or_apart b p) [
      | inl s ↦ inr (inl (sym (same_vertex G (m.origin (twin d)) (m.origin e) (stop_in S d hd) (S.origin_in e h) s)))
      | inr pb ↦ elim (same_or_apart c p) [
        | inl s ↦ inr (inr (sym (same_vertex G (m.origin (m.prev d)) (m.origin e) (third_in S d hd) (S.origin_in e h) s)))
        | inr pc ↦ elim (inside_or_edge a b c p (face_left G d hd zd) i pa pb pc) [
          | inl s ↦ named (face_three m S f e l k h (never_in_two S G (from pos m e) whole (m.face e) f (omega (arith, z)) (S.face_in e h) l k own_face s))
          | inr r ↦ elim r [
            | inl s ↦ absurd (not_in_edge d hd zd s)
            | inr r ↦ elim r [
              | inl s ↦ absurd (not_in_edge (m.next d) t.next_in (λ q. zd (sym t.face_next ∙ q)) (rw (t.origin_next, sym t.origin_prev) s))
              | inr s ↦ absurd (not_in_edge (m.prev d) t.prev_in (λ q. zd (sym t.face_prev ∙ q)) (rw (sym t.origin_here) s))
            ]
          ]
        ]
      ]
    ]
  ]
    where
      d : ℕ
      d = m.edge f

      hd : d < m.half_edges
      hd = S.edge_in f l k

      zd : m.face d ≢ 0
      zd = edge_inner S f l k

      t : InTriangle m d
      t = in_triangle m S d hd zd

      a : Site
      a = start G d

      b : Site
      b = stop G d

      c : Site
      c = third G d

      named : Among e d (m.next d) (m.next (m.next d)) → Among (m.origin e) (m.origin d) (m.origin (twin d)) (m.origin (m.prev d))
      named (inl q) = inl (ap m.origin q)
      named (inr (inl q)) = inr (inl (ap m.origin q ∙ t.origin_next))
      named (inr (inr q)) = inr (inr (ap m.origin (q ∙ t.next_next)))
