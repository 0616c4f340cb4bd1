use Rattle.std.proofs.Common.{◌≡◌, ◌+◌}
use Rattle.bench_exact.proofs.runs.tally.Given as goal

abbrev pub invariant-loop-i : goal.invariant-loop-i
invariant-loop-i g l = goal.F-IsAlwaysCallable g l.call × (l.below + l.zero + l.above ≡ l.i)
