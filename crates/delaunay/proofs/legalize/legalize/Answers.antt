use Rattle.std.proofs.Common.{rules, arith}
use Rattle.delaunay.specs.Legalize.{settle, settle_fuel, legalized}
use Rattle.delaunay.proofs.Loops.{iterate_over, iterate_stop, iterate_turn}
use Rattle.delaunay.proofs.Listed.{popped_none, settle_none}
use Rattle.delaunay.proofs.legalize.legalize.Goals as goal

pub settling-smaller : goal.settling-smaller
unfolding settle_fuel
settling-smaller c = omega (arith, c.settling-test.true)

pub settling-preserved : goal.settling-preserved
unfolding settle settle_fuel
settling-preserved c = search (rules, iterate_turn)

pub returns-after-settling : goal.returns-after-settling
unfolding legalized settle_fuel
returns-after-settling c = search (rules, iterate_over)

pub returns-in_default : goal.returns-in_default
unfolding legalized
returns-in_default c = search (rules, iterate_stop, popped_none, settle_none)
