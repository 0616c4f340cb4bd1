-- Signs of integers: `Sign true z` is 0 < z, `Sign false z` is 0 ≤ z; what is below 0 is written by neg_ℤ.
use Rattle.std.proofs.Common.{◌≡◌, ℕ, zero, suc, ◌+◌, ◌*◌, ◌≤◌, Bool, true, false, ◌&&◌, ◌⊎◌, ℤ, pos, negsuc, ◌+ℤ◌, ◌*ℤ◌, neg_ℤ, sym, refl, ap, ◌∙◌, subst, inl, inr, mul-le-mul, arith}
use Rattle.std.proofs.Math.IntN.{*ℤ_comm, neg_ℤ-neg_ℤ, zero-*ℤ, *ℤ-zero}
use borrow.Author.Differences.{up, down, same_in, sum_is_lem, neg_is}
use Rattle.std.proofs.lemmas.Int.{ints}
use Rattle.exact.specs.Plane.{or}
use Rattle.exact.proofs.Algebra.Integers.{neg_ℤ-*ℤ}
use Rattle.exact.proofs.Booleans.{bit}

pub record Sign (strict : Bool) (z : ℤ) : Type 0 where
  pub bound : down z + bit strict ≤ up z

infixl 7 ◌⊙◌
pub ◌⊙◌ : {s t : Bool} {a b : ℤ} → Sign s a → Sign t b → Sign (s && t) (a *ℤ b)
◌⊙◌ {s} {t} {a} {b} h l = record { bound = go s t a b h.bound l.bound }
  where
    go : (s t : Bool) (a b : ℤ) → down a + bit s ≤ up a → down b + bit t ≤ up b → down (a *ℤ b) + bit (s && t) ≤ up (a *ℤ b)
    go true true (pos m) (pos n) h l = omega (arith, mul-le-mul h l)
    go true false (pos m) (pos n) h l = omega arith
    go false t (pos m) (pos n) h l = omega arith
    go s t (pos m) (negsuc n) h l = absurd (omega arith)
    go s t (negsuc m) b h l = absurd (omega arith)

infixl 6 ◌⊞◌
pub ◌⊞◌ : {s t : Bool} {a b : ℤ} → Sign s a → Sign t b → Sign (or s t) (a +ℤ b)
◌⊞◌ {s} {t} {a} {b} h l = record { bound = go s t h.bound l.bound }
  where
    go : (s t : Bool) → down a + bit s ≤ up a → down b + bit t ≤ up b → down (a +ℤ b) + bit (or s t) ≤ up (a +ℤ b)
    go true t h l = omega (arith, sum_is_lem a b)
    go false true h l = omega (arith, sum_is_lem a b)
    go false false h l = omega (arith, sum_is_lem a b)

-- the sign of a, as that of b, which it equals
infixr 5 ◌by◌
pub ◌by◌ : {s : Bool} {a b : ℤ} → Sign s b → a ≡ b → Sign s a
◌by◌ {s} h e = subst (Sign s) (sym e) h

pub weak : {s : Bool} {z : ℤ} → Sign s z → Sign false z
weak h = record { bound = omega (arith, h.bound) }

pub square_sign : (a : ℤ) → Sign false (a *ℤ a)
square_sign (pos n) = record { bound = omega arith }
square_sign (negsuc n) = record { bound = omega arith }

pub natural_sign : (n : ℕ) → Sign false (pos n)
natural_sign n = record { bound = omega arith }

-- ---- cases
pub split : (z : ℤ) → Sign true z ⊎ Sign false (neg_ℤ z)
split (pos zero) = inr (record { bound = omega arith })
split (pos (suc n)) = inl (record { bound = omega arith })
split (negsuc n) = inr (record { bound = omega arith })

pub split_below : (z : ℤ) → Sign false z ⊎ Sign true (neg_ℤ z)
split_below (pos n) = inl (record { bound = omega arith })
split_below (negsuc n) = inr (record { bound = omega arith })

pub is_zero : {z : ℤ} → Sign false z → Sign false (neg_ℤ z) → z ≡ pos 0
is_zero {z} h l = same_in z (pos 0) (omega (arith, h.bound, l.bound, neg_is z))

pub strict_or_zero : (z : ℤ) → Sign false z → Sign true z ⊎ (z ≡ pos 0)
strict_or_zero z h = elim (split z) [ inl p ↦ inl p | inr n ↦ inr (is_zero h n) ]

pub clash : {z : ℤ} → Sign true z → Sign false (neg_ℤ z) → ⊥
clash {z} h l = omega (arith, h.bound, l.bound, neg_is z)

pub clash_below : (z : ℤ) → Sign false z → Sign true (neg_ℤ z) → ⊥
clash_below z h l = omega (arith, h.bound, l.bound, neg_is z)

pub clash_zero : {z : ℤ} → Sign true z → z ≡ pos 0 → ⊥
clash_zero {z} h e = omega (arith, h.bound, ap up e, ap down e)

-- ---- 0
pub zero_sign : {z : ℤ} → z ≡ pos 0 → Sign false z
zero_sign {z} e = omega (arith, ints)

pub zero_sign_neg : (z : ℤ) → z ≡ pos 0 → Sign false (neg_ℤ z)
zero_sign_neg z e = omega (arith, ints)

pub left_zero : (a b : ℤ) → a ≡ pos 0 → a *ℤ b ≡ pos 0
left_zero a b e = ap (λ (z : ℤ). z *ℤ b) e ∙ zero-*ℤ b

pub right_zero : (a b : ℤ) → b ≡ pos 0 → a *ℤ b ≡ pos 0
right_zero a b e = ap (λ (z : ℤ). a *ℤ z) e ∙ *ℤ-zero a

-- ---- negatives
pub neg_left : (a b : ℤ) → neg_ℤ (a *ℤ b) ≡ neg_ℤ a *ℤ b
neg_left a b = sym (neg_ℤ-*ℤ a b)

pub neg_right : (a b : ℤ) → neg_ℤ (a *ℤ b) ≡ a *ℤ neg_ℤ b
neg_right a b = ap neg_ℤ (*ℤ_comm a b) ∙ neg_left b a ∙ *ℤ_comm (neg_ℤ b) a

neg_both : (a b : ℤ) → a *ℤ b ≡ neg_ℤ a *ℤ neg_ℤ b
neg_both a b = sym (neg_ℤ-neg_ℤ (a *ℤ b)) ∙ ap neg_ℤ (neg_left a b) ∙ neg_right (neg_ℤ a) b

pub neg_times : {s t : Bool} (a b : ℤ) → Sign s (neg_ℤ a) → Sign t b → Sign (s && t) (neg_ℤ (a *ℤ b))
neg_times a b h l = h ⊙ l by neg_left a b

pub times_neg : {s t : Bool} (a b : ℤ) → Sign s a → Sign t (neg_ℤ b) → Sign (s && t) (neg_ℤ (a *ℤ b))
times_neg a b h l = h ⊙ l by neg_right a b

pub neg_neg : {s t : Bool} (a b : ℤ) → Sign s (neg_ℤ a) → Sign t (neg_ℤ b) → Sign (s && t) (a *ℤ b)
neg_neg a b h l = h ⊙ l by neg_both a b

-- ---- a positive factor goes
pub cancel : {s : Bool} {c z : ℤ} → Sign true c → Sign s (c *ℤ z) → Sign s z
cancel {s} {c} {z} h l = record { bound = go s c z h.bound l.bound }
  where
    go : (s : Bool) (c z : ℤ) → down c + 1 ≤ up c → down (c *ℤ z) + bit s ≤ up (c *ℤ z) → down z + bit s ≤ up z
    go s (negsuc m) z h l = absurd (omega arith)
    go false (pos m) (pos n) h l = omega arith
    go true (pos m) (pos zero) h l = absurd (omega arith)
    go true (pos m) (pos (suc n)) h l = omega arith
    go s (pos m) (negsuc n) h l = absurd (omega (arith, neg_is (pos (m * suc n))))

pub cancel_neg : {s : Bool} {c : ℤ} (z : ℤ) → Sign true c → Sign s (neg_ℤ (c *ℤ z)) → Sign s (neg_ℤ z)
cancel_neg {s} {c} z h l = cancel h (l by sym (neg_right c z))

pub cancel_zero : {c z : ℤ} → Sign true c → c *ℤ z ≡ pos 0 → z ≡ pos 0
cancel_zero {c} {z} h e = is_zero (cancel h (zero_sign e)) (cancel_neg z h (zero_sign_neg (c *ℤ z) e))

-- of a positive product with a factor that is not below 0 the other is positive
pub left_factor : (a b : ℤ) → Sign true (a *ℤ b) → Sign false b → Sign true a
left_factor a (negsuc n) h l = absurd (omega (arith, l.bound))
left_factor (pos zero) (pos n) h l = absurd (omega (arith, h.bound))
left_factor (pos (suc m)) (pos n) h l = record { bound = omega arith }
left_factor (negsuc m) (pos n) h l = absurd (omega (arith, h.bound, neg_is (pos (suc m * n))))

pub square_zero : (z : ℤ) → Sign false (neg_ℤ (z *ℤ z)) → z ≡ pos 0
square_zero z h = elim (split z) [
  | inl p ↦ absurd (clash (p ⊙ p) h)
  | inr p ↦ elim (split (neg_ℤ z)) [
    | inl q ↦ absurd (clash (q ⊙ q by neg_both z z) h)
    | inr q ↦ is_zero (q by sym (neg_ℤ-neg_ℤ z)) p
  ]
]

-- a factor of 0 is 0
pub product_zero : (a b : ℤ) → a *ℤ b ≡ pos 0 → (a ≡ pos 0) ⊎ (b ≡ pos 0)
product_zero a b e = elim (split a) [
  | inl p ↦ inr (cancel_zero p e)
  | inr p ↦ elim (strict_or_zero (neg_ℤ a) p) [
    | inl q ↦ inr (cancel_zero q (sym (neg_left a b) ∙ ap neg_ℤ e))
    | inr q ↦ inl (sym (neg_ℤ-neg_ℤ a) ∙ ap neg_ℤ q)
  ]
]

pub as_natural : (z : ℤ) → Sign true z → (n : ℕ) × (z ≡ pos n) × (1 ≤ n)
as_natural (pos n) h = (n, refl, omega (arith, h.bound))
as_natural (negsuc n) h = absurd (omega (arith, h.bound))
