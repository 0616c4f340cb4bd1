-- Tests of an integer's sign as Booleans, for counting: above 0, at 0, not below 0.
use Rattle.std.proofs.Common.{◌≡◌, zero, suc, ◌≤◌, Bool, true, false, ℤ, pos, negsuc, neg_ℤ, refl, ap, true≢false, arith}
use Rattle.std.proofs.lemmas.Bool.{false≢true, false_from_ne_true}
use Rattle.exact.proofs.Booleans.{bit, bit_mono}
use Rattle.exact.proofs.Algebra.Signs.{Sign, clash, clash_below}

unfoldable pub above? : ℤ → Bool
above? (pos zero) = false
above? (pos (suc n)) = true
above? (negsuc n) = false

unfoldable pub zero? : ℤ → Bool
zero? (pos zero) = true
zero? (pos (suc n)) = false
zero? (negsuc n) = false

unfoldable pub not_below? : ℤ → Bool
not_below? (pos n) = true
not_below? (negsuc n) = false

pub above?→ : (z : ℤ) → above? z ≡ true → Sign true z
unfolding above?
above?→ (pos zero) e = absurd (false≢true e)
above?→ (pos (suc n)) e = record { bound = omega arith }
above?→ (negsuc n) e = absurd (false≢true e)

pub above?← : (z : ℤ) → Sign true z → above? z ≡ true
unfolding above?
above?← (pos zero) h = absurd (omega (arith, h.bound))
above?← (pos (suc n)) h = refl
above?← (negsuc n) h = absurd (omega (arith, h.bound))

pub not_above?→ : (z : ℤ) → above? z ≡ false → Sign false (neg_ℤ z)
unfolding above?
not_above?→ (pos zero) e = record { bound = omega arith }
not_above?→ (pos (suc n)) e = absurd (true≢false e)
not_above?→ (negsuc n) e = record { bound = omega arith }

pub not_above?← : (z : ℤ) → Sign false (neg_ℤ z) → above? z ≡ false
not_above?← z h = false_from_ne_true (above? z) (λ e. clash (above?→ z e) h)

pub zero?→ : (z : ℤ) → zero? z ≡ true → z ≡ pos 0
unfolding zero?
zero?→ (pos zero) e = refl
zero?→ (pos (suc n)) e = absurd (false≢true e)
zero?→ (negsuc n) e = absurd (false≢true e)

pub zero?← : (z : ℤ) → z ≡ pos 0 → zero? z ≡ true
unfolding zero?
zero?← z e = ap zero? e

pub not_below?→ : (z : ℤ) → not_below? z ≡ true → Sign false z
unfolding not_below?
not_below?→ (pos n) e = record { bound = omega arith }
not_below?→ (negsuc n) e = absurd (false≢true e)

pub not_below?← : (z : ℤ) → Sign false z → not_below? z ≡ true
unfolding not_below?
not_below?← (pos n) h = refl
not_below?← (negsuc n) h = absurd (omega (arith, h.bound))

pub below?→ : (z : ℤ) → not_below? z ≡ false → Sign true (neg_ℤ z)
unfolding not_below?
below?→ (pos n) e = absurd (true≢false e)
below?→ (negsuc n) e = record { bound = omega arith }

pub below?← : (z : ℤ) → Sign true (neg_ℤ z) → not_below? z ≡ false
below?← z h = false_from_ne_true (not_below? z) (λ e. clash_below z (not_below?→ z e) h)

-- as bits
pub not_below_mono : (y z : ℤ) → (Sign false y → Sign false z) → bit (not_below? y) ≤ bit (not_below? z)
not_below_mono y z f = bit_mono (not_below? y) (not_below? z) (λ e. not_below?← z (f (not_below?→ y e)))
