-- The test `strictly_between`, by signs.
use Rattle.std.proofs.Common.{◌≡◌, true, false}
use Rattle.exact.specs.Plane.{Point, Diff, plus, times, below_0, across, along, in_line}
use Rattle.std.proofs.lemmas.Bool.{and_from, false_from_ne_true}
use Rattle.exact.proofs.Booleans.{and_left, and_right, true_false}
use Rattle.exact.proofs.Algebra.Tests.{below→, below←}
use Rattle.exact.proofs.Geometry.Words.{dot, InSegment}
use Rattle.exact.proofs.Geometry.Tests.{in_line→, in_line←}
use Rattle.dcel.specs.Geometry.{strictly_between}

module _ (a b v : Point) where
  abbrev opposite : Diff
  opposite = plus (times (across v a) (across v b)) (times (along v a) (along v b))

  pub strictly_between→ : strictly_between a b v ≡ true → InSegment a b v
  unfolding dot
  strictly_between→ e = record { on = in_line→ a b v (and_left (in_line a b v) (below_0 opposite) e); opposite = below→ opposite (and_right (in_line a b v) (below_0 opposite) e) }

  pub strictly_between← : InSegment a b v → strictly_between a b v ≡ true
  unfolding dot
  strictly_between← h = and_from (in_line a b v) (below_0 opposite) (in_line← a b v h.on) (below← opposite h.opposite)

  pub not_strictly_between→ : strictly_between a b v ≡ false → InSegment a b v → ⊥
  not_strictly_between→ e h = true_false (strictly_between a b v) (strictly_between← h) e

  pub not_strictly_between← : (InSegment a b v → ⊥) → strictly_between a b v ≡ false
  not_strictly_between← n = false_from_ne_true (strictly_between a b v) (λ e. n (strictly_between→ e))
