-- A mesh with its vertices at their places: its vertices as sites, its outer half edges, and what is so where it has no face.
use Rattle.std.proofs.Common.{◌≡◌, ℕ, ◌<◌, ◌≤◌, inl, inr, arith}
use Rattle.exact.specs.Plane.{Point}
use Rattle.exact.proofs.Geometry.Words.{Site, Left, Right, RightOn, On, Apart, Same, Between}
use Rattle.exact.proofs.Geometry.Tests.{left→}
use Rattle.exact.proofs.Geometry.Seen.{some_beside}
use Rattle.dcel.specs.Map.{Map, twin}
use Rattle.dcel.specs.Mesh.{Sound, Mesh}
use Rattle.dcel.specs.Surgery.{Outer}
use Rattle.dcel.specs.Geometry.{Geometric}
use Rattle.dcel.proofs.Sites as sites
use Rattle.dcel.proofs.NoFace as lines

pub record Placed (pos : ℕ → Point) (m : Map) : Type 0 where
  pub mesh : Mesh m
  pub geometric : Geometric pos m

module _ {pos : ℕ → Point} {m : Map} (B : Placed pos m) where
  abbrev S : Sound m
  S = B.mesh.sound

  abbrev G : Geometric pos m
  G = B.geometric

  abbrev pub site : ℕ → Site
  site = sites.site G

  abbrev pub start : ℕ → Site
  start = sites.start G

  abbrev pub stop : ℕ → Site
  stop = sites.stop G

  -- ---- vertices and outer half edges
  pub same_number : (u v : ℕ) → u < m.vertices → v < m.vertices → Same (site u) (site v) → u ≡ v
  same_number = sites.same_vertex G

  pub ends_apart : (x : ℕ) → x < m.half_edges → Apart (start x) (stop x)
  ends_apart = sites.ends_apart S G

  module _ (x : ℕ) (o : Outer m x) where
    pub right_on : (v : ℕ) → v < m.vertices → RightOn (start x) (stop x) (site v)
    right_on = sites.outer_right G x o.in_e o.outer

    pub none_between : (v : ℕ) → v < m.vertices → Between (start x) (stop x) (site v) → ⊥
    none_between = sites.none_between G x o.in_e o.outer

    pub in_start : m.origin x < m.vertices
    in_start = S.origin_in x o.in_e

    pub in_stop : m.origin (twin x) < m.vertices
    in_stop = S.origin_in (twin x) (S.twin_in x o.in_e)

  -- where there is a face, a vertex is strictly right of an outer half edge
  pub beside : 1 < m.faces → (x : ℕ) → Outer m x → (v : ℕ) × (v < m.vertices) × Right (start x) (stop x) (site v)
  beside f x o =
      let g = m.edge 1 in
      let l : g < m.half_edges = S.edge_in 1 (omega arith) f in
      let q : m.face g ≡ 1 = S.edge_face 1 (omega arith) f in
      let u = m.origin g in let v = m.origin (twin g) in let w = m.origin (m.prev g) in
      let hu : u < m.vertices = S.origin_in g l in
      let hv : v < m.vertices = S.origin_in (twin g) (S.twin_in g l) in
      let hw : w < m.vertices = S.origin_in (m.prev g) (S.prev_in g l) in
      let t : Left (site u) (site v) (site w) = left→ (pos u) (pos v) (pos w) (G.left g l (λ z. omega arith)) in
      elim (some_beside (start x) (stop x) (site u) (site v) (site w) (ends_apart x o.in_e) t (right_on x o u hu) (right_on x o v hv) (right_on x o w hw)) [
        | inl r ↦ (u, hu, r)
        | inr k ↦ elim k [ inl r ↦ (v, hv, r) | inr r ↦ (w, hw, r) ]
      ]

  -- where there is none, every half edge is outer, and every vertex on its line
  pub all_outer : m.faces ≤ 1 → (x : ℕ) → x < m.half_edges → Outer m x
  all_outer f x h = record { in_e = h; outer = lines.all_outer S f x h }

  pub on_line : m.faces ≤ 1 → (x : ℕ) → x < m.half_edges → (v : ℕ) → v < m.vertices → On (start x) (stop x) (site v)
  on_line f = lines.on_line S f G
