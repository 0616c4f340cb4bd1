-- Where a position is in the plane, and what the signs of the two determinants tell.
use Rattle.std.specs.Prelude.{Bool, true, false}
use Rattle.exact.specs.Plane.{Diff, plus, times, Point, point, across, along, above_0, below_0, pick}
use Rattle.exact.specs.declared.position.Position.{Position}
use Rattle.exact.specs.declared.signed.Sign.{Sign}
use Rattle.exact.specs.declared.signed.Sign.TheVariants.{Negative, Zero, Positive}
use Rattle.exact.specs.declared.verdict.Side.{Side}
use Rattle.exact.specs.declared.verdict.Side.TheVariants as side
use Rattle.exact.specs.declared.verdict.Circle.{Circle}
use Rattle.exact.specs.declared.verdict.Circle.TheVariants as circle

abbrev pub at : Position → Point
at p = point p.x p.y

-- from v to a, times from v to b: below 0 where v is between them on a line
abbrev pub scalar : Point → Point → Point → Diff
scalar v a b = plus (times (across v a) (across v b)) (times (along v a) (along v b))

-- one of three, by a sign
abbrev pub by_sign : {A : Type 0} → A → A → A → Sign → A
by_sign a b c Negative = a
by_sign a b c Zero = b
by_sign a b c Positive = c

abbrev pub side_told : Diff → Side
side_told d = pick (below_0 d) side.Right (pick (above_0 d) side.Left side.On)

abbrev pub circle_told : Diff → Circle
circle_told d = pick (below_0 d) circle.Outside (pick (above_0 d) circle.Inside circle.On)

-- a verdict by tests
abbrev pub right? : Side → Bool
right? side.Right = true
right? side.On = false
right? side.Left = false

abbrev pub on? : Side → Bool
on? side.Right = false
on? side.On = true
on? side.Left = false

abbrev pub left? : Side → Bool
left? side.Right = false
left? side.On = false
left? side.Left = true

abbrev pub inside? : Circle → Bool
inside? circle.Outside = false
inside? circle.On = false
inside? circle.Inside = true
