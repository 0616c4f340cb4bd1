use Rattle.std.proofs.Common.{◌≡◌, ap, subst, rules}
use Rattle.exact.specs.Verdicts.{at}
use Rattle.dcel.specs.Layout.{real}
use Rattle.delaunay.specs.Iterate.{iterate}
use Rattle.delaunay.specs.Nearest.{Look, look, look_of, looked, nearest_fuel, searched}
use Rattle.delaunay.proofs.Loops.{iterates_is}
use Rattle.delaunay.proofs.nearest.search.Goals as goal

pub returns : goal.returns
unfolding searched nearest_fuel
returns c =
    let look_on = looked real c.args.memory.now (at c.args.goal) in
    subst (λ d. c.iterate.result.edge.0 ≡ (iterate look_on (nearest_fuel real) (look c.args.start.0 c.args.start.0 d)).edge) c.far.ensures
    (ap (λ (l : Look). l.edge) (iterates_is _ look_of look_on (λ l o h. search rules) _ _ _ c.iterate.ensures))
