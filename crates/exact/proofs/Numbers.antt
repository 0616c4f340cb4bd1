-- Products of words with a sign: how far they go, and the difference of two.
use Rattle.std.proofs.Common.{◌≡◌, suc, ◌+◌, ◌-◌, ◌*◌, ◌^◌, ◌<◌, ◌≤◌, ℤ, pos, negsuc, ◌-ℤ◌, ◌*ℤ◌, ◌≤ℤ◌, ◌∙◌, ap₂, mul-le-mul, arith, w64, SFits, to_z, of_z}
use mir.Syntax.{w128}
use borrow.Author.Differences.{up, down}
use Rattle.std.proofs.lemmas.Int.{ints, to_z-of_z}

-- a word with a sign, times another
pub product_ends : (a b : ℤ) → SFits w64 a → SFits w64 b →
    (up (a *ℤ b) ≤ down (a *ℤ b) + 2 ^ 126) × (down (a *ℤ b) < up (a *ℤ b) + 2 ^ 126)
product_ends (pos a) (pos b) f g =
    let p : a ≤ 2 ^ 63 - 1 = omega (arith, ints) in let q : b ≤ 2 ^ 63 - 1 = omega (arith, ints) in
    let h : a * b ≤ (2 ^ 63 - 1) * (2 ^ 63 - 1) = mul-le-mul p q in omega arith
product_ends (pos a) (negsuc b) f g =
    let p : a ≤ 2 ^ 63 - 1 = omega (arith, ints) in let q : suc b ≤ 2 ^ 63 = omega (arith, ints) in
    let h : a * suc b ≤ (2 ^ 63 - 1) * 2 ^ 63 = mul-le-mul p q in omega (arith, ints)
product_ends (negsuc a) (pos b) f g =
    let p : suc a ≤ 2 ^ 63 = omega (arith, ints) in let q : b ≤ 2 ^ 63 - 1 = omega (arith, ints) in
    let h : suc a * b ≤ 2 ^ 63 * (2 ^ 63 - 1) = mul-le-mul p q in omega (arith, ints)
product_ends (negsuc a) (negsuc b) f g =
    let p : suc a ≤ 2 ^ 63 = omega (arith, ints) in let q : suc b ≤ 2 ^ 63 = omega (arith, ints) in
    let h : suc a * suc b ≤ 2 ^ 63 * 2 ^ 63 = mul-le-mul p q in omega arith

widened : (a : ℤ) → SFits w64 a → to_z w128 (of_z w128 (to_z w64 (of_z w64 a))) ≡ a
widened a f = omega (arith, ints)

-- the product that is computed, of the two as they are widened
pub product_widened : (a b : ℤ) → SFits w64 a → SFits w64 b →
    to_z w128 (of_z w128 (to_z w128 (of_z w128 (to_z w64 (of_z w64 a))) *ℤ to_z w128 (of_z w128 (to_z w64 (of_z w64 b))))) ≡ a *ℤ b
product_widened a b f g =
    let e = product_ends a b f g in
    let fits : SFits w128 (a *ℤ b) = omega (arith, ints) in
    simp (widened a f, widened b g) (to_z-of_z w128 (a *ℤ b) fits)

-- two words with a sign as they are passed on
product_passed : (r a b : ℤ) → SFits w64 a → SFits w64 b → r ≡ to_z w64 (of_z w64 a) *ℤ to_z w64 (of_z w64 b) → r ≡ a *ℤ b
product_passed r a b f g e = simp to_z-of_z at e

-- the difference of two such products
module _ (u v : ℤ) (a : negsuc (2 ^ 126 - 2) ≤ℤ u) (b : u ≤ℤ pos (2 ^ 126)) (c : negsuc (2 ^ 126 - 2) ≤ℤ v) (d : v ≤ℤ pos (2 ^ 126)) where
  left_fits : SFits w128 u
  left_fits = omega (arith, ints)

  right_fits : SFits w128 v
  right_fits = omega (arith, ints)

  difference_fits : SFits w128 (u -ℤ v)
  difference_fits = omega (arith, ints)

  pub passed_fits : SFits w128 (to_z w128 (of_z w128 u) -ℤ to_z w128 (of_z w128 v))
  passed_fits = simp (to_z-of_z w128 u left_fits, to_z-of_z w128 v right_fits) difference_fits

  difference_passed : to_z w128 (of_z w128 (to_z w128 (of_z w128 u) -ℤ to_z w128 (of_z w128 v))) ≡ u -ℤ v
  difference_passed = simp (to_z-of_z w128 u left_fits, to_z-of_z w128 v right_fits) (to_z-of_z w128 (u -ℤ v) difference_fits)

-- a d - b c, from the products u and v and the number w that is made of their difference
pub determinant_is : (a b c d u v w : ℤ) → SFits w64 a → SFits w64 b → SFits w64 c → SFits w64 d
    → negsuc (2 ^ 126 - 2) ≤ℤ u → u ≤ℤ pos (2 ^ 126) → negsuc (2 ^ 126 - 2) ≤ℤ v → v ≤ℤ pos (2 ^ 126)
    → u ≡ to_z w64 (of_z w64 a) *ℤ to_z w64 (of_z w64 d) → v ≡ to_z w64 (of_z w64 b) *ℤ to_z w64 (of_z w64 c)
    → w ≡ to_z w128 (of_z w128 (to_z w128 (of_z w128 u) -ℤ to_z w128 (of_z w128 v))) → w ≡ a *ℤ d -ℤ b *ℤ c
determinant_is a b c d u v w fa fb fc fd ua ub va vb eu ev ew =
    ew ∙ difference_passed u v ua ub va vb ∙ ap₂ ◌-ℤ◌ (product_passed u a d fa fd eu) (product_passed v b c fb fc ev)
