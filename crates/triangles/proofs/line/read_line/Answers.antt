use Rattle.std.proofs.Common.{rules, ap, ◌∙◌}
use Rattle.triangles.specs.Line.{understood, words}
use Rattle.triangles.proofs.Words.{request_is}
use Rattle.triangles.proofs.line.read_line.Goals as goal

pub returns : goal.returns
returns c =
    let r = ap (understood (record {})) c.request.ensures ∙ request_is _ (words c.args.line.now) c.first_words.ensures.words c.in-Some.verb c.in-Some.is _ _ c.first_words.ensures.rest c.next_word.ensures.word in
    search rules

pub returns-in_err-request : goal.returns-in_err-request
returns-in_err-request c =
    let r = ap (understood (record {})) c.request.ensures ∙ request_is _ (words c.args.line.now) c.first_words.ensures.words c.in-Some.verb c.in-Some.is _ _ c.first_words.ensures.rest c.next_word.ensures.word in
    search rules
