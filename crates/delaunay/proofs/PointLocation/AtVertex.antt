-- A place at a vertex is told to be there: it is strictly between the ends of no edge, strictly inside no face, outside nowhere and beyond no end.
use Rattle.std.proofs.Common.{◌≡◌, ℕ, ◌<◌, ◌≢◌, List, ap, ◌∙◌, subst, inl, inr, arith}
use Rattle.std.proofs.lemmas.Bool.{cases_eq}
use Rattle.exact.specs.Plane.{Point, point}
use Rattle.exact.proofs.Booleans.{true_false}
use Rattle.exact.proofs.Algebra.Signs.{weak, zero_sign, clash, clash_zero}
use Rattle.exact.proofs.Geometry.Words.{Site, Orient, Left, Between, Inside, W_site}
use Rattle.exact.proofs.Geometry.Tests.{left→}
use Rattle.exact.proofs.Geometry.Identities.Sides.{start_on, end_on}
use Rattle.exact.proofs.Geometry.Triangles.{within_weak}
use Rattle.exact.proofs.Geometry.Betweenness.{segment_left_ca, segment_left_bc}
use Rattle.exact.proofs.Geometry.LineOrder.{not_start, not_end}
use Rattle.dcel.specs.Layout.{Size}
use Rattle.dcel.specs.Map.{Map, twin}
use Rattle.dcel.specs.Mesh.{Among, Sound}
use Rattle.dcel.specs.Memory.{map_of, x_in, y_in, vertices_in}
use Rattle.dcel.specs.Geometry.{from, to, apex, strictly_between, Geometric}
use Rattle.dcel.proofs.StrictlyBetween.{strictly_between→}
use Rattle.dcel.proofs.Sites.{site, start, stop, third, face_left, outer_right, none_between}
use Rattle.dcel.proofs.Delaunay.EmptyCircles.{vertex_corner}
use Rattle.delaunay.specs.Places.{place_of}
use Rattle.delaunay.specs.Where.{Where, on_vertex, on_edge, in_face, outside, beyond, no_edge}
use Rattle.delaunay.specs.Walk.{located}
use Rattle.delaunay.specs.Kept.{Triangulated, RightPlace}
use Rattle.delaunay.proofs.PointLocation.Located.{sound, geometric, located_right}

module _ {pos : ℕ → Point} {m : Map} (S : Sound m) (G : Geometric pos m) (v : ℕ) (l : v < m.vertices) (e : ℕ) (h : e < m.half_edges) where
  abbrev a : Site
  a = start G e

  abbrev b : Site
  b = stop G e

  abbrev c : Site
  c = third G e

  some : m.face e ≢ 0 → 1 < m.faces
  some z = omega (arith, z, S.face_in e h)

  not_between : Between a b (site G v) → ⊥
  not_between k = elim (cases_eq (m.face e) 0) [
    | inl z ↦ none_between G e h z v l k
    | inr z ↦
        let t = face_left G e h z in let w = W_site (site G v) in
        at_corner t (vertex_corner S G (some z) v l e (h, z) (record { ab = zero_sign k.on; bc = weak (segment_left_bc a b c (pos v) w t k); ca = weak (segment_left_ca a b c (pos v) w t k) }))
  ]
    where
      at_corner : Left a b c → Among v (m.origin e) (m.origin (twin e)) (m.origin (m.prev e)) → ⊥
      at_corner t (inl q) = not_start a b (subst (λ (u : ℕ). Between a b (site G u)) q k)
      at_corner t (inr (inl q)) = not_end a b (subst (λ (u : ℕ). Between a b (site G u)) q k)
      at_corner t (inr (inr q)) = clash_zero t (subst (λ (u : ℕ). Between a b (site G u)) q k).on

  not_inside : m.face e ≢ 0 → Inside a b c (site G v) → ⊥
  not_inside z k = elim (vertex_corner S G (some z) v l e (h, z) (within_weak k)) [
    | inl q ↦ clash_zero k.ab (ap (λ (u : ℕ). Orient a b (site G u)) q ∙ start_on a b)
    | inr r ↦ elim r [
      | inl q ↦ clash_zero k.ab (ap (λ (u : ℕ). Orient a b (site G u)) q ∙ end_on a b)
      | inr q ↦ clash_zero k.bc (ap (λ (u : ℕ). Orient b c (site G u)) q ∙ end_on b c)
    ]
  ]

module _ (s : Size) (m : List ℕ) where
  abbrev M : Map
  M = map_of s m

  abbrev at : ℕ → Point
  at = place_of s m

  module _ (S : Sound M) (G : Geometric at M) (v : ℕ) (l : v < M.vertices) where
    pub only_vertex : (w : Where) → RightPlace s m (at v) w → w ≡ on_vertex v
    only_vertex (on_vertex u) r = ap on_vertex (G.apart u v r.0 l (ap (λ (p : Point). p.x) r.1) (ap (λ (p : Point). p.y) r.1))
    only_vertex (on_edge e) r = absurd (not_between S G v l e r.0 (strictly_between→ (from at M e) (to at M e) (at v) r.1))
    only_vertex (in_face e) r = absurd (not_inside S G v l e r.0 r.1
        (record { ab = left→ (from at M e) (to at M e) (at v) r.2; bc = left→ (to at M e) (apex at M e) (at v) r.3; ca = left→ (apex at M e) (from at M e) (at v) r.4 }))
    only_vertex (outside e) r = absurd (clash (left→ (from at M e) (to at M e) (at v) r.2) (outer_right G e r.0 r.1 v l))
    only_vertex (beyond e) r = absurd (true_false (strictly_between (from at M e) (at v) (to at M e)) r.3 (G.ends r.0 e r.1 r.2 v l))
    only_vertex no_edge r = absurd r

  module _ (T : Triangulated s m) where
    pub located_at_vertex : (v : ℕ) → v < vertices_in s m → (p : Point) → at v ≡ p → located s m p ≡ on_vertex v
    located_at_vertex v l p e = subst (λ (q : Point). located s m q ≡ on_vertex v) e
        (only_vertex (sound s m T) (geometric s m T) v l (located s m (at v)) (located_right s m T (x_in s m v) (y_in s m v)))

    -- and where no vertex is, none is told
    pub located_at_none : (x y : ℕ) → ((v : ℕ) → v < vertices_in s m → at v ≡ point x y → ⊥) → (v : ℕ) → located s m (point x y) ≡ on_vertex v → ⊥
    located_at_none x y none v e = let r = subst (RightPlace s m (point x y)) e (located_right s m T x y) in none v r.0 r.1
