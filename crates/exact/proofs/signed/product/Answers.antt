use Rattle.std.proofs.Common.{arith}
use Rattle.std.proofs.lemmas.Int.{ints}
use Rattle.exact.proofs.Numbers.{product_ends, product_widened}
use Rattle.exact.proofs.signed.product.Goals as goal

pub returns : goal.returns
returns c =
    let e = product_widened c.args.a c.args.b c.ranges.a c.ranges.b in
    let ends = product_ends c.args.a c.args.b c.ranges.a c.ranges.b in
    record { value = e; above = rw e (omega (arith, ints)); below = rw e (omega (arith, ints)) }
