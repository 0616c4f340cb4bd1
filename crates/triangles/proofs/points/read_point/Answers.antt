use Rattle.std.proofs.Common.{rules, ap, ◌∙◌}
use Rattle.triangles.specs.Line.{words, understood}
use Rattle.triangles.proofs.Words.{point_is}
use Rattle.triangles.proofs.points.read_point.Goals as goal

pub returns : goal.returns
returns c =
    let r = ap (understood (record {})) c.point.ensures ∙ point_is _ (words c.args.line.now) c.first_words.ensures.words c.in-Some.one c.in-Some.is in
    search rules

pub returns-in_err-point : goal.returns-in_err-point
returns-in_err-point c =
    let r = ap (understood (record {})) c.point.ensures ∙ point_is _ (words c.args.line.now) c.first_words.ensures.words c.in-Some.one c.in-Some.is in
    search rules
