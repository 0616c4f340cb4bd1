-- How long a walk can be, whichever edges it chooses: fewer steps than (faces + 1) · (vertices + 1).
use Rattle.std.proofs.Common.{◌≡◌, ℕ, zero, suc, ◌+◌, ◌*◌, ◌<◌, ◌≤◌, true, ◌⊎◌, List, length, arith}
use Rattle.exact.specs.Plane.{Point}
use Rattle.exact.proofs.Algebra.Signs.{Sign}
use Rattle.exact.proofs.Geometry.Words.{W, Site}
use Rattle.exact.proofs.Walk.Edges.{Beyond, Across, Triangles}
use Rattle.exact.proofs.Walk.Measure.{measure, measure_bound, falls}

-- from the edge e across it, to leave by the edge g; x is strictly right of both
pub record Step {E : Type 0} (from : E → Site) (next : E → E) (Inner : E → Type 0) (x : Point) (e g : E) : Type 0 where
  pub inner : Inner e
  pub beyond : Beyond from next e x
  pub to : E
  pub to_inner : Inner to
  pub across : Across from next e to
  pub leaves : (g ≡ to) ⊎ ((g ≡ next to) ⊎ (g ≡ next (next to)))
  pub beyond_after : Beyond from next g x

module _ {E : Type 0} {from : E → Site} {next : E → E} {Inner : E → Type 0} {faces : List E} {vertices : List Site} (T : Triangles from next Inner faces vertices) (x : Point) (w : Sign true (W x)) where
  pub step_falls : (e g : E) → Step from next Inner x e g → measure from next faces vertices x g < measure from next faces vertices x e
  step_falls e g s = falls T e s.to s.inner s.to_inner s.across x w s.beyond g s.beyond_after s.leaves

  module _ (at : ℕ → E) where
    spent : (n : ℕ) → ((i : ℕ) → i < n → Step from next Inner x (at i) (at (suc i))) → n + measure from next faces vertices x (at n) ≤ measure from next faces vertices x (at 0)
    spent zero h = omega arith
    spent (suc n) h = omega (arith, spent n (λ i l. h i (omega arith)), step_falls (at n) (at (suc n)) (h n (omega arith)))

    pub walk_bound : (n : ℕ) → ((i : ℕ) → i < n → Step from next Inner x (at i) (at (suc i))) → n < suc (length faces) * suc (length vertices)
    walk_bound n h = omega (arith, spent n h, measure_bound from next faces vertices x (at 0))
