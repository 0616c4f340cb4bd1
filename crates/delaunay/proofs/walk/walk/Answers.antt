use Rattle.std.proofs.Common.{rules}
use Rattle.exact.specs.Verdicts.{at}
use Rattle.dcel.specs.Layout.{real}
use Rattle.delaunay.specs.Walk.{crossed, walk_fuel, walked}
use Rattle.delaunay.proofs.Loops.{iterates_is}
use Rattle.delaunay.proofs.walk.walk.Goals as goal

pub returns : goal.returns
unfolding walked walk_fuel
returns c = iterates_is _ (λ e. e.0) (crossed real c.args.memory.now (at c.args.goal)) (λ e o h. search rules) _ _ _ c.iterate.ensures
