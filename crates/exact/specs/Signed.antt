-- The integer that a number of two words and a sign stands for.
use Rattle.std.specs.Prelude.{ℕ, ◌+◌, ◌*◌, Bool, true, false, ℤ, pos, neg_ℤ, int_lt}
use Rattle.exact.specs.Plane.{pick}
use Rattle.exact.specs.declared.signed.Sign.{Sign}
use Rattle.exact.specs.declared.signed.Sign.TheVariants.{Negative, Zero, Positive}
use Rattle.exact.specs.declared.signed.Signed.TheInside.{Inside}

-- the words together: how far from 0
abbrev pub size : Inside → ℕ
size a = a.high * 18446744073709551616 + a.low

abbrev pub signed : Bool → ℕ → ℤ
signed false n = pos n
signed true n = neg_ℤ (pos n)

abbrev pub integer : Inside → ℤ
integer a = signed a.negative (size a)

abbrev pub sign_of : ℤ → Sign
sign_of z = pick (int_lt z (pos 0)) Negative (pick (int_lt (pos 0) z) Positive Zero)
