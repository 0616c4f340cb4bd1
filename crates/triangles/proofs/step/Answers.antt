use Rattle.std.proofs.Common.{rules}
use Rattle.std.proofs.lemmas.Result.{err_from_is_err_and}
use Rattle.triangles.proofs.Entries.{says_no, says_yes, refused_told}
use Rattle.triangles.proofs.step.Goals as goal

pub returns-in_default : goal.returns-in_default
returns-in_default c = search (rules, says_no)

pub returns-in_default-of : goal.returns-in_default-of
returns-in_default-of c = search (rules, says_no)

pub returns-in_default-2 : goal.returns-in_default-2
returns-in_default-2 c = search (rules, says_no)

pub returns-in_err-outcome : goal.returns-in_err-outcome
returns-in_err-outcome c =
    let told = err_from_is_err_and c.from_residual.result c.from_residual.ensures.1 in rw (told.1, told.2) (search (rules, says_yes, refused_told))

pub returns : goal.returns
returns c = search (rules, says_yes)
