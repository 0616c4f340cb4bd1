-- The outer half edges of a mesh with a face: each vertex ends one at most, and at most one comes back over a place.
use Rattle.std.proofs.Common.{◌≡◌, ℕ, ◌<◌, ◌≤◌, true, sym, ap, ◌∙◌, inl, inr, arith}
use Rattle.exact.specs.Plane.{Point}
use Rattle.exact.proofs.Sums.{only}
use Rattle.exact.proofs.Algebra.Signs.{Sign}
use Rattle.exact.proofs.Geometry.Words.{W}
use Rattle.exact.proofs.Geometry.Betweenness.{between_swap}
use Rattle.exact.proofs.Geometry.HullEdges.{same_starts}
use Rattle.exact.proofs.Geometry.Crossings.{crossing_≤1, crossing→}
use Rattle.dcel.specs.Map.{Map, twin}
use Rattle.dcel.specs.Mesh.{Sound}
use Rattle.dcel.specs.Geometry.{from, to, Geometric}
use Rattle.dcel.proofs.Fibres.{sum_≤1, only_some, only_≤, fibre}
use Rattle.dcel.proofs.Sites.{start, stop, same_vertex, outer_left, none_between, stop_in}
use Rattle.dcel.proofs.Tiling.Balance.{back, outer_back}

module _ {pos : ℕ → Point} {m : Map} (S : Sound m) (G : Geometric pos m) (some : 1 < m.faces) where
  -- a vertex ends one at most, as it begins one at most
  pub ends_once : (d e : ℕ) → d < m.half_edges → e < m.half_edges → m.face d ≡ 0 → m.face e ≡ 0 → m.origin (twin d) ≡ m.origin (twin e) → d ≡ e
  ends_once d e hd he zd ze q =
      sym (S.prev_next d hd)
      ∙ ap m.prev (G.once some (m.next d) (m.next e) (S.next_in d hd) (S.next_in e he) (S.face_next d hd ∙ zd) (S.face_next e he ∙ ze) (S.origin_next d hd ∙ q ∙ sym (S.origin_next e he)))
      ∙ S.prev_next e he

  module _ (p : Point) (w : Sign true (W p)) where
    one_back : (d e : ℕ) → d < m.half_edges → e < m.half_edges → m.face d ≡ 0 → m.face e ≡ 0 → 1 ≤ back pos m p d → 1 ≤ back pos m p e → d ≡ e
    one_back d e hd he zd ze cd ce =
        let x = crossing→ (to pos m d) (from pos m d) p cd in let y = crossing→ (to pos m e) (from pos m e) p ce in
        let left = outer_left G d hd zd in let left' = outer_left G e he ze in
        elim (same_starts (stop G d) (start G d) (stop G e) (start G e) p w x.0 x.1 y.0 y.1
        (left (m.origin (twin e)) (stop_in S e he)) (left (m.origin e) (S.origin_in e he)) (left' (m.origin (twin d)) (stop_in S d hd)) (left' (m.origin d) (S.origin_in d hd))) [
          | inl s ↦ ends_once d e hd he zd ze (same_vertex G (m.origin (twin d)) (m.origin (twin e)) (stop_in S d hd) (stop_in S e he) s)
          | inr r ↦ elim r [
            | inl k ↦ absurd (none_between G d hd zd (m.origin (twin e)) (stop_in S e he) (between_swap (stop G d) (start G d) (stop G e) k))
            | inr k ↦ absurd (none_between G e he ze (m.origin (twin d)) (stop_in S d hd) (between_swap (stop G e) (start G e) (stop G d) k))
          ]
        ]

    pub outer_back_≤1 : outer_back pos m p ≤ 1
    unfolding fibre
    outer_back_≤1 = sum_≤1 (λ e. only 0 (m.face e) (back pos m p e)) m.half_edges
        (λ e h. omega (arith, only_≤ 0 (m.face e) (back pos m p e), crossing_≤1 (to pos m e) (from pos m e) p))
        (λ d e hd he cd ce.
        let u = only_some 0 (m.face d) (back pos m p d) cd in
        let v = only_some 0 (m.face e) (back pos m p e) ce in
        one_back d e hd he (sym u.0) (sym v.0) u.1 v.1)
