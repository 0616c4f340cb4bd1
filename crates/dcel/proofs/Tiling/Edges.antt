-- A place strictly inside an edge is in no other closed face than the edge's two, so edges do not cross.
use Rattle.std.proofs.Common.{◌≡◌, ℕ, ◌+◌, ◌<◌, ◌≤◌, true, false, ◌≢◌, ◌⊎◌, neg_ℤ, sym, ◌∙◌, subst, inl, inr, arith}
use Rattle.std.proofs.lemmas.Bool.{cases_eq}
use Rattle.exact.specs.Plane.{Point}
use Rattle.exact.proofs.Algebra.Signs.{Sign, ◌by◌, weak, split, zero_sign, clash_zero}
use Rattle.exact.proofs.Geometry.Words.{W_sign, orient, InSegment, Site}
use Rattle.exact.proofs.Geometry.Identities.Sides.{swap_place}
use Rattle.exact.proofs.Geometry.Triangles.{corners_left, within_weak}
use Rattle.exact.proofs.Geometry.Betweenness.{segment_swap, segment_left_ca, segment_left_bc}
use Rattle.exact.proofs.Geometry.Moves.{toward, toward_place, reach, reach_bc, reach_ca, left_stays, toward_centre}
use Rattle.dcel.specs.Map.{Map, twin}
use Rattle.dcel.specs.Mesh.{Sound}
use Rattle.dcel.specs.Geometry.{from, to, apex, Geometric}
use Rattle.dcel.proofs.Twins.{twin_twin}
use Rattle.dcel.proofs.Neighbours.{in_triangle, same_face}
use Rattle.dcel.proofs.Sites.{start, stop, third, face_left, outer_left, stop_in, third_in}
use Rattle.dcel.proofs.Tiling.Faces.{InFace, origin_next_end, edge_inner, face_of, middle_of, middle_place}
use Rattle.dcel.proofs.Tiling.NeverTwo.{never_in_two}

-- p is strictly inside the edge e
abbrev pub InEdge : (ℕ → Point) → Map → ℕ → Point → Type 0
InEdge pos m e p = InSegment (from pos m e) (to pos m e) p

module _ {pos : ℕ → Point} {m : Map} (S : Sound m) (G : Geometric pos m) (p : Point) (w : 1 ≤ p.w) where
  pub in_twin : (e : ℕ) → InEdge pos m e p → InEdge pos m (twin e) p
  in_twin e i = rw (twin_twin e) (segment_swap (start G e) (stop G e) p i)

  -- what is not left of e is not right of its twin
  other_side : (e : ℕ) (x : Point) → Sign false (neg_ℤ (orient (from pos m e) (to pos m e) x)) → Sign false (orient (from pos m (twin e)) (to pos m (twin e)) x)
  other_side e x s = rw (twin_twin e) (s by swap_place (stop G e) (start G e) x)

  -- ---- one inner half edge e with p strictly inside
  module _ (e : ℕ) (h : e < m.half_edges) (z : m.face e ≢ 0) (i : InEdge pos m e p) where
    abbrev a : Site
    a = start G e

    abbrev b : Site
    b = stop G e

    abbrev c : Site
    c = third G e

    left_second : Sign true (orient b.at c.at p)
    left_second = segment_left_bc a b c p (W_sign p w) (face_left G e h z) i

    left_third : Sign true (orient c.at a.at p)
    left_third = segment_left_ca a b c p (W_sign p w) (face_left G e h z) i

    edge_in_face : InFace pos m false (m.face e) p
    edge_in_face = face_of pos S e h z (record { ab = zero_sign i.on; bc = weak left_second; ca = weak left_third })

    -- moved a little to the left it is in the face
    moved_in : (q : Point) (n : ℕ) → reach (from pos m e) (to pos m e) (apex pos m e) q ≤ n → Sign false (orient (from pos m e) (to pos m e) (toward n p q)) → InFace pos m false (m.face e) (toward n p q)
    moved_in q n far x = face_of pos S e h z (record {
      ab = x;
      bc = weak (left_stays b.at c.at p q n left_second (omega (arith, reach_bc a.at b.at c.at q)));
      ca = weak (left_stays c.at a.at p q n left_third (omega (arith, reach_ca a.at b.at c.at q)));
    })

    -- the only half edge of its face
    only_edge : (d : ℕ) → d < m.half_edges → m.face d ≡ m.face e → InEdge pos m d p → d ≡ e
    only_edge d k q j =
        let t = in_triangle m S e h z in
        elim (same_face m S e d h k z q) [
          | inl r ↦ r
          | inr s ↦ elim s [
            | inl r ↦ absurd (clash_zero left_second (rw (S.origin_next e h, origin_next_end S e h z) at (subst (λ (x : ℕ). InEdge pos m x p) r j).on))
            | inr r ↦ absurd (clash_zero left_third (rw (sym t.origin_here) at (subst (λ (x : ℕ). InEdge pos m x p) r j).on))
          ]
        ]

  pub only_two : (e : ℕ) → e < m.half_edges → m.face e ≢ 0 → InEdge pos m e p → (g : ℕ) → 0 < g → g < m.faces → InFace pos m false g p → (g ≡ m.face e) ⊎ (g ≡ m.face (twin e))
  only_two e h z i g lg hg j = elim (split (orient (from pos m e) (to pos m e) x)) [
    | inl s ↦ inl (here (weak s))
    | inr s ↦ elim (cases_eq (m.face (twin e)) 0) [
      | inl y ↦ inl (here (outside y))
      | inr y ↦ inr (there y (other_side e x s))
    ]
  ]
    where
      d : ℕ
      d = m.edge g

      hd : d < m.half_edges
      hd = S.edge_in g lg hg

      zd : m.face d ≢ 0
      zd = edge_inner S g lg hg

      q : Point
      q = middle_of G d hd zd

      room : ℕ → ℕ
      room e = reach (from pos m e) (to pos m e) (apex pos m e) q

      n : ℕ
      n = room e + room (twin e)

      -- p a little towards the middle of g: strictly inside g, and beside the edge
      x : Point
      x = toward n p q

      inside : InFace pos m true g x
      inside = toward_centre (start G d) (stop G d) (third G d) (face_left G d hd zd) p n j

      face : (k : ℕ) → k < m.half_edges → m.face k ≢ 0 → InFace pos m false (m.face k) x → g ≡ m.face k
      face k l y r = sym (never_in_two S G x (toward_place p q n (middle_place G d hd zd)) (m.face k) g (omega (arith, y)) (S.face_in k l) lg hg r inside)

      here : Sign false (orient (from pos m e) (to pos m e) x) → g ≡ m.face e
      here s = face e h z (moved_in e h z i q n (omega arith) s)

      there : (y : m.face (twin e) ≢ 0) → Sign false (orient (from pos m (twin e)) (to pos m (twin e)) x) → g ≡ m.face (twin e)
      there y s = face (twin e) (S.twin_in e h) y (moved_in (twin e) (S.twin_in e h) y (in_twin e i) q n (omega arith) s)

      -- the other side is the outside: all is on this side
      outside : m.face (twin e) ≡ 0 → Sign false (orient (from pos m e) (to pos m e) x)
      outside y = corners_left (start G d) (stop G d) (third G d) (start G e) (stop G e) x (face_left G d hd zd)
          (seen (m.origin d) (S.origin_in d hd)) (seen (m.origin (twin d)) (stop_in S d hd)) (seen (m.origin (m.prev d)) (third_in S d hd)) (within_weak inside)
        where
          seen : (v : ℕ) → v < m.vertices → Sign false (orient (from pos m e) (to pos m e) (pos v))
          seen v l = rw (twin_twin e) at (outer_left G (twin e) (S.twin_in e h) y v l)

  pub edges_apart : (d e : ℕ) → d < m.half_edges → e < m.half_edges → m.face d ≢ 0 → m.face e ≢ 0 → InEdge pos m d p → InEdge pos m e p → (d ≡ e) ⊎ (d ≡ twin e)
  edges_apart d e hd he zd ze i j = elim (only_two e he ze j (m.face d) (omega (arith, zd)) (S.face_in d hd) (edge_in_face d hd zd i)) [
    | inl q ↦ inl (only_edge e he ze j d hd q i)
    | inr q ↦ inr (only_edge (twin e) (S.twin_in e he) (λ y. zd (q ∙ y)) (in_twin e j) d hd q i)
  ]
