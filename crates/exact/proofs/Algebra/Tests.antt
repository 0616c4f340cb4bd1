-- The tests `above_0` and `below_0` of a difference, and the sign of its value.
use Rattle.std.proofs.Common.{◌≡◌, ℕ, ◌-◌, ◌<◌, true, false, ltb, pos, ◌+ℤ◌, neg_ℤ, ap, ◌∙◌, ap₂, arith}
use borrow.Author.Differences.{up, down, same_in, neg_is}
use Rattle.exact.specs.Plane.{Diff, plus, times, above_0, below_0}
use Rattle.std.proofs.lemmas.Bool.{ltb-true, lt-ltb, ltb-false, le-ltb}
use Rattle.exact.proofs.Booleans.{same_test}
use Rattle.exact.proofs.Algebra.Integers.{value, value_is, value_plus, value_times}
use Rattle.exact.proofs.Algebra.Signs.{Sign, ◌⊞◌, ◌by◌, square_sign}

same_order : (a b c d : ℕ) → (a < b → c < d) → (c < d → a < b) → ltb a b ≡ ltb c d
same_order a b c d f g = same_test (ltb a b) (ltb c d) (λ t. lt-ltb c d (f (ltb-true a b t))) (λ t. lt-ltb a b (g (ltb-true c d t)))

-- equal values pass the same test, opposite values opposite tests
pub above_same : (a b : Diff) → value a ≡ value b → above_0 a ≡ above_0 b
above_same a b e = same_order a.down a.up b.down b.up (λ h. omega (arith, value_is a, value_is b, ap up e, ap down e)) (λ h. omega (arith, value_is a, value_is b, ap up e, ap down e))

pub above_opposite : (a b : Diff) → value a ≡ neg_ℤ (value b) → above_0 a ≡ below_0 b
above_opposite a b e = same_order a.down a.up b.up b.down (λ h. omega (arith, value_is a, value_is b, ap up e, ap down e, neg_is (value b))) (λ h. omega (arith, value_is a, value_is b, ap up e, ap down e, neg_is (value b)))

module _ (a : Diff) where
  pub above→ : above_0 a ≡ true → Sign true (value a)
  above→ e = record { bound = omega (arith, value_is a, ltb-true a.down a.up e) }

  pub above← : Sign true (value a) → above_0 a ≡ true
  above← h = lt-ltb a.down a.up (omega (arith, value_is a, h.bound))

  pub not_above→ : above_0 a ≡ false → Sign false (neg_ℤ (value a))
  not_above→ e = record { bound = omega (arith, value_is a, neg_is (value a), ltb-false a.down a.up e) }

  pub not_above← : Sign false (neg_ℤ (value a)) → above_0 a ≡ false
  not_above← h = le-ltb a.down a.up (omega (arith, value_is a, neg_is (value a), h.bound))

  pub below→ : below_0 a ≡ true → Sign true (neg_ℤ (value a))
  below→ e = record { bound = omega (arith, value_is a, neg_is (value a), ltb-true a.up a.down e) }

  pub below← : Sign true (neg_ℤ (value a)) → below_0 a ≡ true
  below← h = lt-ltb a.up a.down (omega (arith, value_is a, neg_is (value a), h.bound))

  pub not_below→ : below_0 a ≡ false → Sign false (value a)
  not_below→ e = record { bound = omega (arith, value_is a, ltb-false a.up a.down e) }

  pub not_below← : Sign false (value a) → below_0 a ≡ false
  not_below← h = le-ltb a.up a.down (omega (arith, value_is a, h.bound))

-- a positive value as a natural number
pub value_natural : (a : Diff) → Sign true (value a) → value a ≡ pos (a.up - a.down)
value_natural a h = same_in (value a) (pos (a.up - a.down)) (omega (arith, h.bound, value_is a))

pub sum_of_squares : (a b : Diff) → Sign false (value (plus (times a a) (times b b)))
sum_of_squares a b = square_sign (value a) ⊞ square_sign (value b) by (value_plus (times a a) (times b b) ∙ ap₂ ◌+ℤ◌ (value_times a a) (value_times b b))
