-- A point with coordinates below 2^12, or that it is too large.
use Rattle.std.specs.Prelude.{◌≡◌, ℕ, Bool, true, false, ◌&&◌, Result, Ok, Err, nat_lt}
use Rattle.exact.specs.Plane.{point}
use Rattle.exact.specs.Verdicts.{at}
use Rattle.exact.specs.declared.position.Position.{Position}
use Rattle.triangles.specs.declared.small.NoCircle.{NoCircle}
use Rattle.triangles.specs.declared.small.NoCircle.TheVariants.{TooLarge}

abbrev pub small_two : ℕ → ℕ → Bool
small_two x y = nat_lt x 4096 && nat_lt y 4096

abbrev pub SmallTold : ℕ → ℕ → Result Position NoCircle → Type 0
SmallTold x y (Ok p) = (small_two x y ≡ true) × (at p ≡ point x y)
SmallTold x y (Err why) = (small_two x y ≡ false) × (why ≡ TooLarge)
