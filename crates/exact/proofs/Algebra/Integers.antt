-- The ring laws of ℤ that the library lacks, and the integer that a difference stands for.
use Rattle.std.proofs.Common.{◌≡◌, ℕ, ◌+◌, ◌*◌, ℤ, pos, ◌+ℤ◌, ◌-ℤ◌, ◌*ℤ◌, neg_ℤ, ap, ◌∙◌, ap₂, arith}
use Rattle.std.proofs.Math.IntN.{*ℤ_comm}
use borrow.Author.Differences.{up, down, same_in, sum_is_lem, neg_is, product_is}
use Rattle.std.proofs.lemmas.Int.{ints}
use Rattle.exact.specs.Plane.{Diff, plus, minus, times}

up_times : (a b : ℤ) → up (a *ℤ b) ≡ up a * up b + down a * down b
up_times a b = (product_is a b).0

down_times : (a b : ℤ) → down (a *ℤ b) ≡ up a * down b + down a * up b
down_times a b = (product_is a b).1

pub *ℤ_assoc : (a b c : ℤ) → a *ℤ b *ℤ c ≡ a *ℤ (b *ℤ c)
*ℤ_assoc a b c = same_in (a *ℤ b *ℤ c) (a *ℤ (b *ℤ c)) (simp (up_times, down_times) (omega arith))

pub *ℤ-+ℤ : (a b c : ℤ) → a *ℤ (b +ℤ c) ≡ a *ℤ b +ℤ a *ℤ c
*ℤ-+ℤ a b c = same_in (a *ℤ (b +ℤ c)) (a *ℤ b +ℤ a *ℤ c)
    (simp (up_times, down_times) (omega (arith, ap (λ (n : ℕ). up a * n) (sum_is_lem b c), ap (λ (n : ℕ). down a * n) (sum_is_lem b c), sum_is_lem (a *ℤ b) (a *ℤ c), product_is a b, product_is a c)))

pub +ℤ-*ℤ : (a b c : ℤ) → (a +ℤ b) *ℤ c ≡ a *ℤ c +ℤ b *ℤ c
+ℤ-*ℤ a b c = *ℤ_comm (a +ℤ b) c ∙ *ℤ-+ℤ c a b ∙ ap₂ ◌+ℤ◌ (*ℤ_comm c a) (*ℤ_comm c b)

pub +ℤ_exchange : (a b c d : ℤ) → (a +ℤ b) +ℤ (c +ℤ d) ≡ (a +ℤ c) +ℤ (b +ℤ d)
+ℤ_exchange a b c d = omega (arith, ints)

pub neg_ℤ-*ℤ : (a b : ℤ) → neg_ℤ a *ℤ b ≡ neg_ℤ (a *ℤ b)
neg_ℤ-*ℤ a b = same_in (neg_ℤ a *ℤ b) (neg_ℤ (a *ℤ b)) (omega (arith, product_is (neg_ℤ a) b, product_is a b, neg_is (a *ℤ b), ap (λ (n : ℕ). n * up b) (neg_is a).0, ap (λ (n : ℕ). n * down b) (neg_is a).0, ap (λ (n : ℕ). n * up b) (neg_is a).1, ap (λ (n : ℕ). n * down b) (neg_is a).1))

-- the integer that a difference stands for
unfoldable pub value : Diff → ℤ
value d = pos d.up -ℤ pos d.down

pub value_is : (d : Diff) → up (value d) + d.down ≡ down (value d) + d.up
unfolding value
value_is d = omega (arith, sum_is_lem (pos d.up) (neg_ℤ (pos d.down)), neg_is (pos d.down))

pub value_plus : (a b : Diff) → value (plus a b) ≡ value a +ℤ value b
value_plus a b = same_in (value (plus a b)) (value a +ℤ value b) (omega (arith, value_is a, value_is b, value_is (plus a b), sum_is_lem (value a) (value b)))

pub value_minus : (a b : Diff) → value (minus a b) ≡ value a -ℤ value b
value_minus a b = same_in (value (minus a b)) (value a -ℤ value b) (omega (arith, value_is a, value_is b, value_is (minus a b), sum_is_lem (value a) (neg_ℤ (value b)), neg_is (value b)))

pub value_times : (a b : Diff) → value (times a b) ≡ value a *ℤ value b
value_times a b = same_in (value (times a b)) (value a *ℤ value b)
    (omega (arith, value_is (times a b), product_is (value a) (value b), ap (λ (n : ℕ). n * up (value b)) (value_is a), ap (λ (n : ℕ). n * down (value b)) (value_is a), ap (λ (n : ℕ). a.up * n) (value_is b), ap (λ (n : ℕ). a.down * n) (value_is b)))
