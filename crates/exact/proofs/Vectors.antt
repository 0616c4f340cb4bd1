-- Products of short vectors fit a word, and so do the sum and the difference of two.
use Rattle.std.proofs.Common.{◌≡◌, ℕ, ◌+◌, ◌-◌, ◌*◌, ◌^◌, ◌<◌, ◌≤◌, ℤ, ◌+ℤ◌, ◌-ℤ◌, ◌*ℤ◌, nat_abs, mul-le-mul, arith, w64, Fits, SFits, to_z, of_z}
use Rattle.std.proofs.lemmas.Int.{ints, to_z-of_z, unsigned_abs-mul}

short_times : (a b : ℤ) → nat_abs a < 2 ^ 20 → nat_abs b < 2 ^ 20 → nat_abs (a *ℤ b) < 2 ^ 40
short_times a b f g =
    let p : nat_abs a ≤ 2 ^ 20 - 1 = omega arith in let q : nat_abs b ≤ 2 ^ 20 - 1 = omega arith in
    let h : nat_abs a * nat_abs b ≤ (2 ^ 20 - 1) * (2 ^ 20 - 1) = mul-le-mul p q in
    omega (arith, unsigned_abs-mul a b)

-- two squares, of numbers without a sign
pub squares_fit : (a b : ℕ) → a < 2 ^ 20 → b < 2 ^ 20 → Fits w64 (a * a + b * b)
squares_fit a b f g =
    let p : a ≤ 2 ^ 20 - 1 = omega arith in
    let q : b ≤ 2 ^ 20 - 1 = omega arith in
    omega (arith, mul-le-mul p p, mul-le-mul q q)

small_fits : (z : ℤ) → nat_abs z < 2 ^ 42 → SFits w64 z
small_fits z h = omega (arith, ints)

-- a number on its way through a word
abbrev pub passed : ℤ → ℤ
passed z = to_z w64 (of_z w64 z)

passed_is : (z : ℤ) → nat_abs z < 2 ^ 42 → passed z ≡ z
passed_is z h = to_z-of_z w64 z (small_fits z h)

passed_short : (z : ℤ) → nat_abs z < 2 ^ 20 → passed z ≡ z
passed_short z h = passed_is z (omega arith)

module _ (a b : ℤ) (f : nat_abs a < 2 ^ 20) (g : nat_abs b < 2 ^ 20) where
  short_product : nat_abs (a *ℤ b) < 2 ^ 42
  short_product = omega (arith, short_times a b f g)

  pub product_fits : SFits w64 (passed a *ℤ passed b)
  product_fits = simp (passed_short a f, passed_short b g) (small_fits (a *ℤ b) short_product)

  pub product_is : passed (passed a *ℤ passed b) ≡ a *ℤ b
  product_is = simp (passed_short a f, passed_short b g) (passed_is (a *ℤ b) short_product)

module _ (a b c d : ℤ) (f : nat_abs a < 2 ^ 20) (g : nat_abs b < 2 ^ 20) (h : nat_abs c < 2 ^ 20) (i : nat_abs d < 2 ^ 20) where
  sum_short : nat_abs (a *ℤ b +ℤ c *ℤ d) < 2 ^ 42
  sum_short = omega (arith, ints, short_times a b f g, short_times c d h i)

  difference_short : nat_abs (a *ℤ b -ℤ c *ℤ d) < 2 ^ 42
  difference_short = omega (arith, ints, short_times a b f g, short_times c d h i)

  pub sum_fits : SFits w64 (passed (passed a *ℤ passed b) +ℤ passed (passed c *ℤ passed d))
  sum_fits = simp (product_is a b f g, product_is c d h i) (small_fits (a *ℤ b +ℤ c *ℤ d) sum_short)

  pub sum_is : passed (passed (passed a *ℤ passed b) +ℤ passed (passed c *ℤ passed d)) ≡ a *ℤ b +ℤ c *ℤ d
  sum_is = simp (product_is a b f g, product_is c d h i) (passed_is (a *ℤ b +ℤ c *ℤ d) sum_short)

  pub difference_fits : SFits w64 (passed (passed a *ℤ passed b) -ℤ passed (passed c *ℤ passed d))
  difference_fits = simp (product_is a b f g, product_is c d h i) (small_fits (a *ℤ b -ℤ c *ℤ d) difference_short)

  pub difference_is : passed (passed (passed a *ℤ passed b) -ℤ passed (passed c *ℤ passed d)) ≡ a *ℤ b -ℤ c *ℤ d
  difference_is = simp (product_is a b f g, product_is c d h i) (passed_is (a *ℤ b -ℤ c *ℤ d) difference_short)
