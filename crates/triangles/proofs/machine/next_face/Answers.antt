use Rattle.std.proofs.Common.{rules}
use Rattle.triangles.specs.Machine.{next_face}
use Rattle.std.proofs.lemmas.Bool.Decides.{nat_tests}
use Rattle.triangles.proofs.machine.next_face.Goals as goal

pub returns-then-i-count : goal.returns-then-i-count
unfolding next_face
returns-then-i-count c = search (rules, nat_tests)

pub returns : goal.returns
unfolding next_face
returns c = search (rules, nat_tests)
