-- How far two points are from one another, squared, for points with w = 1.
use Rattle.std.specs.Prelude.{ℕ, ◌+◌, ◌-◌, ◌*◌}
use Rattle.exact.specs.Plane.{Point}

-- the larger of two numbers without the smaller
abbrev pub gap : ℕ → ℕ → ℕ
gap a b = (a - b) + (b - a)

unfoldable pub squared : Point → Point → ℕ
squared p q = gap p.x q.x * gap p.x q.x + gap p.y q.y * gap p.y q.y
