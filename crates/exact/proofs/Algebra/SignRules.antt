-- Rules for `search`, which wants the strictness of each part: `search integer_signs` finds the sign of a sum of products from the signs of their factors.
use Rattle.std.proofs.Common.{◌≡◌, Bool, true, false, ℤ, pos, ◌+ℤ◌, ◌*ℤ◌, neg_ℤ}
use Rattle.std.proofs.Math.IntN.{neg_ℤ-neg_ℤ, neg_ℤ-+ℤ}
use Rattle.exact.proofs.Algebra.Signs.{Sign, ◌⊙◌, ◌⊞◌, ◌by◌, weak, square_sign, zero_sign, zero_sign_neg, left_zero, right_zero, neg_times, times_neg, neg_neg}

pub times_strict : {a b : ℤ} → Sign true a → Sign true b → Sign true (a *ℤ b)
times_strict h l = h ⊙ l

pub times_weak : {a b : ℤ} → Sign false a → Sign false b → Sign false (a *ℤ b)
times_weak h l = h ⊙ l

pub neg_times_strict : (a b : ℤ) → Sign true (neg_ℤ a) → Sign true b → Sign true (neg_ℤ (a *ℤ b))
neg_times_strict a b h l = neg_times a b h l

pub neg_times_weak : (a b : ℤ) → Sign false (neg_ℤ a) → Sign false b → Sign false (neg_ℤ (a *ℤ b))
neg_times_weak a b h l = neg_times a b h l

pub times_neg_strict : (a b : ℤ) → Sign true a → Sign true (neg_ℤ b) → Sign true (neg_ℤ (a *ℤ b))
times_neg_strict a b h l = times_neg a b h l

pub times_neg_weak : (a b : ℤ) → Sign false a → Sign false (neg_ℤ b) → Sign false (neg_ℤ (a *ℤ b))
times_neg_weak a b h l = times_neg a b h l

pub neg_neg_strict : (a b : ℤ) → Sign true (neg_ℤ a) → Sign true (neg_ℤ b) → Sign true (a *ℤ b)
neg_neg_strict a b h l = neg_neg a b h l

pub neg_neg_weak : (a b : ℤ) → Sign false (neg_ℤ a) → Sign false (neg_ℤ b) → Sign false (a *ℤ b)
neg_neg_weak a b h l = neg_neg a b h l

pub plus_strict_weak : {a b : ℤ} → Sign true a → Sign false b → Sign true (a +ℤ b)
plus_strict_weak h l = h ⊞ l

pub plus_weak_strict : {a b : ℤ} → Sign false a → Sign true b → Sign true (a +ℤ b)
plus_weak_strict h l = h ⊞ l

pub plus_weak : {a b : ℤ} → Sign false a → Sign false b → Sign false (a +ℤ b)
plus_weak h l = h ⊞ l

pub neg_plus_strict_weak : (a b : ℤ) → Sign true (neg_ℤ a) → Sign false (neg_ℤ b) → Sign true (neg_ℤ (a +ℤ b))
neg_plus_strict_weak a b h l = h ⊞ l by neg_ℤ-+ℤ a b

pub neg_plus_weak_strict : (a b : ℤ) → Sign false (neg_ℤ a) → Sign true (neg_ℤ b) → Sign true (neg_ℤ (a +ℤ b))
neg_plus_weak_strict a b h l = h ⊞ l by neg_ℤ-+ℤ a b

pub neg_plus_weak : (a b : ℤ) → Sign false (neg_ℤ a) → Sign false (neg_ℤ b) → Sign false (neg_ℤ (a +ℤ b))
neg_plus_weak a b h l = h ⊞ l by neg_ℤ-+ℤ a b

pub weaken : {z : ℤ} → Sign true z → Sign false z
weaken h = weak h

pub double_neg : {s : Bool} (z : ℤ) → Sign s z → Sign s (neg_ℤ (neg_ℤ z))
double_neg z h = h by neg_ℤ-neg_ℤ z

pub left_zero_sign : (a b : ℤ) → a ≡ pos 0 → Sign false (a *ℤ b)
left_zero_sign a b e = zero_sign (left_zero a b e)

pub left_zero_neg : (a b : ℤ) → a ≡ pos 0 → Sign false (neg_ℤ (a *ℤ b))
left_zero_neg a b e = zero_sign_neg (a *ℤ b) (left_zero a b e)

pub right_zero_sign : (a b : ℤ) → b ≡ pos 0 → Sign false (a *ℤ b)
right_zero_sign a b e = zero_sign (right_zero a b e)

pub right_zero_neg : (a b : ℤ) → b ≡ pos 0 → Sign false (neg_ℤ (a *ℤ b))
right_zero_neg a b e = zero_sign_neg (a *ℤ b) (right_zero a b e)

pub ruleset products = (times_strict, times_weak, neg_times_strict, neg_times_weak, times_neg_strict, times_neg_weak, neg_neg_strict, neg_neg_weak)

pub ruleset sums = (plus_strict_weak, plus_weak_strict, plus_weak, neg_plus_strict_weak, neg_plus_weak_strict, neg_plus_weak)

pub ruleset zeros = (zero_sign, zero_sign_neg, left_zero_sign, left_zero_neg, right_zero_sign, right_zero_neg)

pub ruleset integer_signs = (products, sums, weaken, double_neg, zeros, square_sign)
