use Rattle.std.proofs.Common.{◌-◌}
use Rattle.delaunay.specs.Iterate.{Iterates}
use Rattle.delaunay.proofs.iterate.iterate.Given as goal

abbrev pub invariant-stepping : goal.invariant-stepping
invariant-stepping g l =
    (r : _) → Iterates (goal.F-post g l.step) (l.fuel - l.counter) l.state r → Iterates (goal.F-post g l.step) l.fuel l.initial.state r
