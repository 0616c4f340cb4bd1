-- The vertices of a mesh as sites, and its half edges by signs: faces turn to the left, and the outside has the vertices on the right of its half edges and none between their ends.
use Rattle.std.proofs.Common.{◌≡◌, ℕ, ◌<◌, ◌≢◌, inl, inr}
use Rattle.exact.specs.Plane.{Point}
use Rattle.exact.proofs.Algebra.Signs.{◌by◌}
use Rattle.exact.proofs.Geometry.Words.{Site, Left, LeftOn, RightOn, Between, Same, Apart}
use Rattle.exact.proofs.Geometry.Tests.{left→, not_left→}
use Rattle.exact.proofs.Geometry.Identities.Sides.{swap}
use Rattle.exact.proofs.Geometry.Spots.{same_x, same_y, same_or_apart}
use Rattle.dcel.specs.Map.{Map, twin}
use Rattle.dcel.specs.Mesh.{Sound}
use Rattle.dcel.specs.Geometry.{from, to, apex, Geometric}
use Rattle.dcel.proofs.StrictlyBetween.{not_strictly_between→}

module _ {pos : ℕ → Point} {m : Map} (G : Geometric pos m) where
  abbrev pub site : ℕ → Site
  site v = record { at = pos v; whole = G.whole v }

  -- where a half edge begins and ends, and the third corner of its face
  abbrev pub start : ℕ → Site
  start e = site (m.origin e)

  abbrev pub stop : ℕ → Site
  stop e = site (m.origin (twin e))

  abbrev pub third : ℕ → Site
  third e = site (m.origin (m.prev e))

  -- vertices at the same place are the same
  pub same_vertex : (u v : ℕ) → u < m.vertices → v < m.vertices → Same (site u) (site v) → u ≡ v
  same_vertex u v h l s = G.apart u v h l (same_x (site u) (site v) s) (same_y (site u) (site v) s)

  pub different_apart : (u v : ℕ) → u < m.vertices → v < m.vertices → u ≢ v → Apart (site u) (site v)
  different_apart u v h l n = elim (same_or_apart (site u) (site v)) [ inl s ↦ absurd (n (same_vertex u v h l s)) | inr a ↦ a ]

  pub face_left : (e : ℕ) → e < m.half_edges → m.face e ≢ 0 → Left (start e) (stop e) (third e)
  face_left e h z = left→ (from pos m e) (to pos m e) (apex pos m e) (G.left e h z)

  -- ---- an outer half edge
  module _ (e : ℕ) (h : e < m.half_edges) (z : m.face e ≡ 0) (v : ℕ) (l : v < m.vertices) where
    pub outer_right : RightOn (start e) (stop e) (site v)
    outer_right = not_left→ (from pos m e) (to pos m e) (pos v) (G.right e h z v l)

    pub outer_left : LeftOn (stop e) (start e) (site v)
    outer_left = outer_right by swap (stop e) (start e) (site v)

    pub none_between : Between (start e) (stop e) (site v) → ⊥
    none_between = not_strictly_between→ (from pos m e) (to pos m e) (pos v) (G.clear e h z v l)

module _ {m : Map} (S : Sound m) where
  pub stop_in : (e : ℕ) → e < m.half_edges → m.origin (twin e) < m.vertices
  stop_in e h = S.origin_in (twin e) (S.twin_in e h)

  pub third_in : (e : ℕ) → e < m.half_edges → m.origin (m.prev e) < m.vertices
  third_in e h = S.origin_in (m.prev e) (S.prev_in e h)

  pub ends_apart : {pos : ℕ → Point} (G : Geometric pos m) (e : ℕ) → e < m.half_edges → Apart (start G e) (stop G e)
  ends_apart G e h = different_apart G (m.origin e) (m.origin (twin e)) (S.origin_in e h) (stop_in e h) (S.no_loop e h)
