use Rattle.std.proofs.Common.{rules}
use Rattle.std.proofs.lemmas.Bool.Decides.{nat_tests}
use Rattle.triangles.specs.Machine.{put_in}
use Rattle.delaunay.proofs.Refusing.{refused_same}
use Rattle.triangles.proofs.machine.put.Goals as goal

pub returns-in_err-p : goal.returns-in_err-p
unfolding put_in
returns-in_err-p c = search (rules, nat_tests)

pub returns-in_err-v : goal.returns-in_err-v
unfolding put_in
returns-in_err-v c = search (rules, nat_tests, refused_same)

pub returns : goal.returns
unfolding put_in
returns c = search (rules, nat_tests)
