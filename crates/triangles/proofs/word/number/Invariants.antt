use Rattle.std.proofs.Common.{◌≡◌, ◌<◌, drop}
use Rattle.triangles.specs.Line.{digits}
use Rattle.triangles.proofs.word.number.Given as goal

abbrev pub invariant-loop-b : goal.invariant-loop-b
invariant-loop-b l = (digits 0 l.word ≡ digits l.n (drop l.b-index l.word)) × (l.n < 18446744073709551616)
