use Rattle.std.proofs.Common.{◌≡◌, ◌-◌}
use Rattle.exact.specs.Verdicts.{at}
use Rattle.dcel.specs.Layout.{real}
use Rattle.delaunay.specs.Iterate.{iterate}
use Rattle.delaunay.specs.Outside.{rim, closed_on, ear_fuel}
use Rattle.delaunay.proofs.outside.close_all.Given as goal

abbrev pub invariant-closing : goal.invariant-closing
invariant-closing l =
    iterate (closed_on real l.way (at l.p)) (ear_fuel real) (rim l.initial.memory l.initial.e.0) ≡ iterate (closed_on real l.way (at l.p)) (ear_fuel real - l.counter) (rim l.memory l.e.0)
