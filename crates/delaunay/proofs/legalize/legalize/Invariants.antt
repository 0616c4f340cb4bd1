use Rattle.std.proofs.Common.{◌≡◌, ◌-◌}
use Rattle.dcel.specs.Layout.{real}
use Rattle.delaunay.specs.Iterate.{iterate}
use Rattle.delaunay.specs.Legalize.{settle, settle_fuel}
use Rattle.delaunay.proofs.legalize.legalize.Given as goal

abbrev pub invariant-settling : goal.invariant-settling
invariant-settling l = iterate (settle real) (settle_fuel real) l.initial.memory ≡ iterate (settle real) (settle_fuel real - l.counter) l.memory

abbrev pub decreases-settling : goal.decreases-settling
decreases-settling l = settle_fuel real - l.counter
