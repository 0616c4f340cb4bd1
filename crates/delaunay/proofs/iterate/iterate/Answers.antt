use Rattle.std.proofs.Common.{arith}
use Rattle.delaunay.proofs.Loops.{iterates_none, iterates_stop, iterates_on}
use Rattle.delaunay.proofs.iterate.iterate.Goals as goal
use Rattle.delaunay.proofs.iterate.iterate.Goals.{else-stepping-test, then-stepping-test+in_default}

pub stepping-preserved : goal.stepping-preserved
stepping-preserved g c r h = c.stepping.invariant r (iterates_on _ _ _ _ _ _ (omega arith) c.in-Some.ensures h)

pub returns : goal.returns
returns g c = elim c.stepping-test.branch [
  | else-stepping-test w ↦ c.stepping.invariant _ (iterates_none _ _ _ (omega (arith, w.stepping-test.false)))
  | then-stepping-test+in_default w ↦ c.stepping.invariant _ (iterates_stop _ _ _ (search (w.in_default.ensures)))
]
