-- Reading an integer as a polynomial. `search` does it: one rule to an operation, and rules for where an integer stands in the list of variables.
use Rattle.std.proofs.Common.{◌≡◌, ℕ, ◌+◌, ◌*◌, List, ◌∷◌, ℤ, pos, ◌+ℤ◌, ◌-ℤ◌, ◌*ℤ◌, neg_ℤ, sym, ap, ◌∙◌, ap₂}
use Rattle.std.proofs.Math.IntN.{+ℤ_idl}
use Rattle.exact.specs.Plane.{Diff, diff, plus, minus, times}
use Rattle.exact.proofs.Algebra.Integers.{value, value_plus, value_minus, value_times}
use Rattle.exact.proofs.Algebra.Polynomials.{Polynomial, none, eval, as_number, add, subtract, multiply, variable, later, eval_as_number, eval_add, eval_subtract, eval_multiply, eval_variable, eval_later}

-- z is the value of a polynomial at ρ
pub record Known (ρ : List ℤ) (z : ℤ) : Type 0 where
  pub poly : Polynomial
  pub is : eval poly ρ ≡ z

-- ---- operations
abbrev pub known_sum : {ρ : List ℤ} {a b : ℤ} → Known ρ a → Known ρ b → Known ρ (a +ℤ b)
known_sum {ρ} s t = record { poly = add s.poly t.poly; is = eval_add s.poly t.poly ρ ∙ ap₂ ◌+ℤ◌ s.is t.is }

abbrev pub known_difference : {ρ : List ℤ} {a b : ℤ} → Known ρ a → Known ρ b → Known ρ (a -ℤ b)
known_difference {ρ} s t = record { poly = subtract s.poly t.poly; is = eval_subtract s.poly t.poly ρ ∙ ap₂ ◌-ℤ◌ s.is t.is }

abbrev pub known_product : {ρ : List ℤ} {a b : ℤ} → Known ρ a → Known ρ b → Known ρ (a *ℤ b)
known_product {ρ} s t = record { poly = multiply s.poly t.poly; is = eval_multiply s.poly t.poly ρ ∙ ap₂ ◌*ℤ◌ s.is t.is }

abbrev pub known_negative : {ρ : List ℤ} {a : ℤ} → Known ρ a → Known ρ (neg_ℤ a)
known_negative {ρ} {a} s = record { poly = subtract none s.poly; is = eval_subtract none s.poly ρ ∙ ap (λ (z : ℤ). pos 0 -ℤ z) s.is ∙ +ℤ_idl (neg_ℤ a) }

-- ---- numerals: a rule for any natural would take a variable for a numeral
abbrev pub known_numeral : {ρ : List ℤ} (n : ℕ) → Known ρ (pos n)
known_numeral {ρ} n = record { poly = as_number (pos n); is = eval_as_number (pos n) ρ }

abbrev pub known_0 : {ρ : List ℤ} → Known ρ (pos 0)
known_0 = known_numeral 0

abbrev pub known_1 : {ρ : List ℤ} → Known ρ (pos 1)
known_1 = known_numeral 1

abbrev pub known_2 : {ρ : List ℤ} → Known ρ (pos 2)
known_2 = known_numeral 2

-- ---- naturals
abbrev pub known_plus : {ρ : List ℤ} (m n : ℕ) → Known ρ (pos m) → Known ρ (pos n) → Known ρ (pos (m + n))
known_plus m n s t = known_sum s t

abbrev pub known_times : {ρ : List ℤ} (m n : ℕ) → Known ρ (pos m) → Known ρ (pos n) → Known ρ (pos (m * n))
known_times m n s t = known_product s t

-- ---- variables: an integer that stands in ρ. A record of its own, so that `search` tries these rules on integers that no operation made
pub record Listed (ρ : List ℤ) (z : ℤ) : Type 0 where
  pub poly_of : Polynomial
  pub is_this : eval poly_of ρ ≡ z

abbrev pub listed_here : {ρ : List ℤ} {z : ℤ} → Listed (z ∷ ρ) z
listed_here {ρ} {z} = record { poly_of = variable; is_this = eval_variable z (z ∷ ρ) }

abbrev pub listed_later : {v : ℤ} {ρ : List ℤ} {z : ℤ} → Listed ρ z → Listed (v ∷ ρ) z
listed_later {v} {ρ} s = record { poly_of = later s.poly_of; is_this = eval_later s.poly_of v ρ ∙ s.is_this }

abbrev pub known_variable : {ρ : List ℤ} {z : ℤ} → Listed ρ z → Known ρ z
known_variable s = record { poly = s.poly_of; is = s.is_this }

abbrev pub known_later : {ρ : List ℤ} {z : ℤ} (v : ℤ) → Known ρ z → Known (v ∷ ρ) z
known_later {ρ} v s = record { poly = later s.poly; is = eval_later s.poly v ρ ∙ s.is }

abbrev pub known_first : {ρ : List ℤ} (v : ℤ) → Known (v ∷ ρ) v
known_first {ρ} v = record { poly = variable; is = eval_variable v ρ }

-- ---- differences of the definitions, by their values
pub record KnownDiff (ρ : List ℤ) (d : Diff) : Type 0 where
  pub poly_for : Polynomial
  pub is_value : eval poly_for ρ ≡ value d

pub diff_is : {ρ : List ℤ} {m n : ℕ} (s : Known ρ (pos m)) (t : Known ρ (pos n)) → eval (subtract s.poly t.poly) ρ ≡ value (diff m n)
unfolding value
diff_is s t = (known_difference s t).is

abbrev pub known_diff : {ρ : List ℤ} {m n : ℕ} → Known ρ (pos m) → Known ρ (pos n) → KnownDiff ρ (diff m n)
known_diff s t = record { poly_for = subtract s.poly t.poly; is_value = diff_is s t }

abbrev pub known_diff_plus : {ρ : List ℤ} {a b : Diff} → KnownDiff ρ a → KnownDiff ρ b → KnownDiff ρ (plus a b)
known_diff_plus {ρ} {a} {b} s t = record { poly_for = add s.poly_for t.poly_for; is_value = eval_add s.poly_for t.poly_for ρ ∙ ap₂ ◌+ℤ◌ s.is_value t.is_value ∙ sym (value_plus a b) }

abbrev pub known_diff_minus : {ρ : List ℤ} {a b : Diff} → KnownDiff ρ a → KnownDiff ρ b → KnownDiff ρ (minus a b)
known_diff_minus {ρ} {a} {b} s t = record { poly_for = subtract s.poly_for t.poly_for; is_value = eval_subtract s.poly_for t.poly_for ρ ∙ ap₂ ◌-ℤ◌ s.is_value t.is_value ∙ sym (value_minus a b) }

abbrev pub known_diff_times : {ρ : List ℤ} {a b : Diff} → KnownDiff ρ a → KnownDiff ρ b → KnownDiff ρ (times a b)
known_diff_times {ρ} {a} {b} s t = record { poly_for = multiply s.poly_for t.poly_for; is_value = eval_multiply s.poly_for t.poly_for ρ ∙ ap₂ ◌*ℤ◌ s.is_value t.is_value ∙ sym (value_times a b) }
