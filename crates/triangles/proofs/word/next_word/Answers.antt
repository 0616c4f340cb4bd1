use Rattle.std.proofs.Common.{rules}
use Rattle.triangles.proofs.Words.{none_left, one_left}
use Rattle.triangles.proofs.word.next_word.Goals as goal

pub returns-in_default-clause-word : goal.returns-in_default-clause-word
returns-in_default-clause-word c = (none_left c.args.line.now (search rules)).0

pub returns-in_default-clause-rest : goal.returns-in_default-clause-rest
returns-in_default-clause-rest c = (none_left c.args.line.now (search rules)).1

pub returns-clause-word : goal.returns-clause-word
returns-clause-word c = (one_left c.args.line.now c.split_at.result.1.now c.split_at-2.result.0.now c.split_at-2.result.1.now c.in-Some.start c.unwrap_or.result (search rules) (search rules) (search rules) (search rules) (search rules)).0

pub returns-clause-rest : goal.returns-clause-rest
returns-clause-rest c = (one_left c.args.line.now c.split_at.result.1.now c.split_at-2.result.0.now c.split_at-2.result.1.now c.in-Some.start c.unwrap_or.result (search rules) (search rules) (search rules) (search rules) (search rules)).1
