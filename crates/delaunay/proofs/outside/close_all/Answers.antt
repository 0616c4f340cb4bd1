use Rattle.std.proofs.Common.{rules}
use Rattle.delaunay.specs.Outside.{ear_fuel, closed_on, ears_closed}
use Rattle.delaunay.proofs.Loops.{iterate_over, iterate_stop, iterate_turn}
use Rattle.delaunay.proofs.outside.close_all.Goals as goal

pub closing-preserved : goal.closing-preserved
unfolding closed_on ear_fuel
closing-preserved c = search (rules, iterate_turn)

pub returns-after-closing : goal.returns-after-closing
unfolding ears_closed ear_fuel
returns-after-closing c = search (rules, iterate_over)

pub returns-in_default : goal.returns-in_default
unfolding ears_closed closed_on
returns-in_default c = search (rules, iterate_stop)
