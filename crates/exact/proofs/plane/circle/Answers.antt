use Rattle.std.proofs.Common.{◌≡◌, rules}
use Rattle.exact.specs.Plane.{circle}
use Rattle.exact.specs.Verdicts.{at, circle_told}
use Rattle.exact.proofs.Telling.{circle_tells}
use Rattle.exact.proofs.Verdicts.{inside_told}
use Rattle.exact.proofs.plane.circle.Goals as goal

pub returns : goal.returns
returns c =
    let told : c.into.result ≡ circle_told (circle (at c.args.p) (at c.args.q) (at c.args.r) (at c.args.s)) =
    search (
      rules,
      circle_tells c.args.p c.args.q c.args.r c.args.s c.between-sp.result c.between-sq.result c.between-rp.result c.between-rq.result
          c.cross.result c.cross-2.result c.dot.result c.dot-2.result c.determinant-sum.result c.sign.result,
    )
    in record { told = told; inside = rw told (inside_told _) }
