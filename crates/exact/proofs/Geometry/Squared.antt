-- The squared distance as a natural number: it is the integer of the geometry, and the test which of two is farther is the order of the numbers.
use Rattle.std.proofs.Common.{◌≡◌, ℕ, ◌*◌, ◌<◌, ◌≤◌, true, not, ℤ, pos, negsuc, ◌+ℤ◌, ◌-ℤ◌, ◌*ℤ◌, nat_abs, refl, ap, ◌∙◌, ap₂, mul-le-mul, arith}
use Rattle.std.proofs.lemmas.Int.{ints}
use Rattle.exact.specs.Plane.{Point, minus, square, above_0}
use Rattle.exact.specs.Distance.{gap, squared}
use Rattle.std.proofs.lemmas.Bool.{not-true, not_from_false}
use Rattle.exact.proofs.Algebra.Integers.{value_minus}
use Rattle.exact.proofs.Algebra.Tests.{not_above→, not_above←}
use Rattle.exact.proofs.Geometry.Words.{X, Y, Δx, Δy, dist², Site, Dist²}
use Rattle.exact.proofs.Geometry.Identities.Dots.{dist²_Δ, Δx_site, Δy_site}

-- a square by the number without its sign
square_natural : (z : ℤ) → z *ℤ z ≡ pos (nat_abs z * nat_abs z)
square_natural (pos n) = refl
square_natural (negsuc n) = refl

gap_is : (a b : ℕ) → nat_abs (pos b -ℤ pos a) ≡ gap a b
gap_is a b = omega (arith, ints)

square_gap : (z : ℤ) (a b : ℕ) → z ≡ pos b -ℤ pos a → z *ℤ z ≡ pos (gap a b * gap a b)
square_gap z a b e = square_natural z ∙ ap (λ (n : ℕ). pos (n * n)) (ap nat_abs e ∙ gap_is a b)

pub dist²_squared : (a b : Site) → Dist² a b ≡ pos (squared a.at b.at)
unfolding squared X Y
dist²_squared a b =
    dist²_Δ a.at b.at
    ∙ ap₂ ◌+ℤ◌ (square_gap (Δx a.at b.at) a.at.x b.at.x (Δx_site a b)) (square_gap (Δy a.at b.at) a.at.y b.at.y (Δy_site a b))

-- ---- a is no farther from p than b
module _ (p a b : Site) where
  pub no_farther← : squared p.at a.at ≤ squared p.at b.at → not (above_0 (minus (square p.at a.at) (square p.at b.at))) ≡ true
  unfolding dist²
  no_farther← h =
      let farther = minus (square p.at a.at) (square p.at b.at) in
      not_from_false (above_0 farther) (not_above← farther (omega (arith, ints, value_minus (square p.at a.at) (square p.at b.at), dist²_squared p a, dist²_squared p b)))

  pub no_farther→ : not (above_0 (minus (square p.at a.at) (square p.at b.at))) ≡ true → squared p.at a.at ≤ squared p.at b.at
  unfolding dist²
  no_farther→ e =
      let farther = minus (square p.at a.at) (square p.at b.at) in
      omega (arith, ints, not_above→ farther (not-true (above_0 farther) e), value_minus (square p.at a.at) (square p.at b.at), dist²_squared p a, dist²_squared p b)

-- ---- how large it is, for coordinates below n
gap_below : (n a b : ℕ) → a < n → b < n → gap a b ≤ n
gap_below n a b h l = omega arith

pub squared_bound : (n : ℕ) (p q : Point) → p.x < n → p.y < n → q.x < n → q.y < n → squared p q ≤ 2 * (n * n)
unfolding squared
squared_bound n p q px py qx qy =
    let x = gap_below n p.x q.x px qx in
    let y = gap_below n p.y q.y py qy in
    omega (arith, mul-le-mul x x, mul-le-mul y y)

-- the other way round it is the same
pub squared_swap : (p q : Point) → squared p q ≡ squared q p
unfolding squared
squared_swap p q =
    let x : gap p.x q.x ≡ gap q.x p.x = omega arith in
    let y : gap p.y q.y ≡ gap q.y p.y = omega arith in
    rw (x, y)
