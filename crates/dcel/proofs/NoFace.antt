-- A mesh without a face: both halves of each edge are of the outside, so that every vertex is on the line of every edge.
use Rattle.std.proofs.Common.{◌≡◌, ℕ, ◌<◌, ◌≤◌, arith}
use Rattle.exact.specs.Plane.{Point}
use Rattle.exact.proofs.Algebra.Signs.{is_zero}
use Rattle.exact.proofs.Geometry.Words.{On}
use Rattle.dcel.specs.Map.{Map, twin}
use Rattle.dcel.specs.Mesh.{Sound}
use Rattle.dcel.specs.Geometry.{Geometric}
use Rattle.dcel.proofs.Twins.{twin_twin}
use Rattle.dcel.proofs.Sites.{site, start, stop, outer_right, outer_left}

module _ {m : Map} (S : Sound m) (none : m.faces ≤ 1) where
  pub all_outer : (e : ℕ) → e < m.half_edges → m.face e ≡ 0
  all_outer e h = omega (arith, S.face_in e h)

  pub on_line : {pos : ℕ → Point} (G : Geometric pos m) (e : ℕ) → e < m.half_edges → (v : ℕ) → v < m.vertices → On (start G e) (stop G e) (site G v)
  on_line G e h v l =
      let t = S.twin_in e h in
      is_zero (rw (twin_twin e) at (outer_left G (twin e) t (all_outer (twin e) t) v l)) (outer_right G e h (all_outer e h) v l)
