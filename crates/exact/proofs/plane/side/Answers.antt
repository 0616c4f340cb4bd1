use Rattle.std.proofs.Common.{◌≡◌, rules}
use Rattle.exact.specs.Plane.{side}
use Rattle.exact.specs.Verdicts.{at, side_told}
use Rattle.exact.proofs.Telling.{side_tells}
use Rattle.exact.proofs.Verdicts.{right_told, on_told, left_told}
use Rattle.exact.proofs.plane.side.Goals as goal

pub returns : goal.returns
returns c =
    let d = side (at c.args.p) (at c.args.q) (at c.args.r) in
    let told : c.into.result ≡ side_told d =
    search (rules, side_tells c.args.p c.args.q c.args.r c.between.result c.between-2.result c.cross-turn.result c.from.result)
    in record { told = told; right = rw told (right_told d); on = rw told (on_told d); left = rw told (left_told d) }
