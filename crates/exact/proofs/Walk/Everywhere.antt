-- Locally right is right everywhere: a place that is outside or on the circle of each triangle that has it is so for all triangles, if each edge that it is beyond of can be crossed.
use Rattle.std.proofs.Common.{true, false, ◌⊎◌, List, neg_ℤ, inl, inr}
use Rattle.exact.specs.Plane.{Point}
use Rattle.exact.proofs.Algebra.Signs.{Sign, ◌by◌, split, clash}
use Rattle.exact.proofs.Geometry.Words.{W, Site}
use Rattle.exact.proofs.Walk.Edges.{Power, Beyond, Across, InTriangleOf, Triangles, power_next}
use Rattle.exact.proofs.Walk.Measure.{keeps_inside}
use Rattle.exact.proofs.Walk.Lemma.{Crossed, Arrived, walk}

module _ {E : Type 0} {from : E → Site} {next : E → E} {Inner : E → Type 0} {faces : List E} {vertices : List Site} (T : Triangles from next Inner faces vertices) (x : Point) (w : Sign true (W x))
    (cross : (e : E) → Inner e → Beyond from next e x → (f : E) × Inner f × Across from next e f)
    (here : (e : E) → Inner e → InTriangleOf from next false e x → Sign false (neg_ℤ (Power from next e x))) where
  abbrev Inside : E → Type 0
  Inside e = Sign true (Power from next e x)

  step : (e : E) → Inner e → Inside e → Beyond from next e x → ⊥ ⊎ Crossed from next Inner Inside e
  step e i h r = let c = cross e i r in inr (record { to = c.0; inner = c.1; good = keeps_inside T e c.0 i c.1 c.2 x w r h; across = c.2 })

  arrived : ⊥ ⊎ Arrived from next Inner Inside x → ⊥
  arrived (inl n) = n
  arrived (inr a) = clash a.good (here a.edge a.inner a.has)

  pub everywhere : (e : E) → Inner e → Sign false (neg_ℤ (Power from next e x))
  everywhere e i = elim (split (Power from next e x)) [
    | inl h ↦ absurd (arrived (walk T x w ⊥ Inside (λ e i h. h by power_next T e i x) step e i h))
    | inr h ↦ h
  ]
