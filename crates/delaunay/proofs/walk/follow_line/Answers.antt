use Rattle.std.proofs.Common.{rules}
use Rattle.exact.specs.Verdicts.{at}
use Rattle.dcel.specs.Layout.{real}
use Rattle.delaunay.specs.Walk.{went_on, line_fuel, along_line}
use Rattle.delaunay.proofs.Loops.{iterates_is}
use Rattle.delaunay.proofs.walk.follow_line.Goals as goal

pub returns : goal.returns
unfolding along_line line_fuel
returns c = iterates_is _ (λ e. e.0) (went_on real c.args.memory.now (at c.args.goal)) (λ e o h. search rules) _ _ _ c.iterate.ensures
