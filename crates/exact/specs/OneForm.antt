-- Each integer has one form as two words and a sign, which it gives back: zero has no sign, and the low word fits its word.
use Rattle.std.proofs.Common.{◌≡◌, ℕ, ◌+◌, ◌*◌, ◌/◌, ◌%◌, ◌<◌, Bool, true, false, ℤ, pos, refl, arith, unsigned_abs}
use Rattle.std.specs.Prelude.{negsuc, ◌&&◌, ◌==◌, int_lt}
use Rattle.std.specs.Ordering.{int_eq}
use Rattle.std.proofs.lemmas.Bool.Decides.{nat_tests}
use Rattle.std.proofs.Math.Bool.{beq}
use Rattle.std.proofs.lemmas.Int.{ints}
use Rattle.exact.specs.Signed.{integer, signed}
use Rattle.exact.specs.declared.signed.Signed.TheInside.{Inside}

abbrev word : ℕ
word = 18446744073709551616

-- zero is never negative
abbrev pub OneForm : Inside → Type 0
OneForm a = (a.negative ≡ true → 0 < a.high + a.low) × (a.low < word)

abbrev pub words : ℤ → Inside
words z = record { negative = int_lt z (pos 0); high = unsigned_abs z / word; low = unsigned_abs z % word }

unsigned_abs-signed : (b : Bool) (n : ℕ) → unsigned_abs (signed b n) ≡ n
unsigned_abs-signed true n = grind (arith, ints)
unsigned_abs-signed false n = refl

int_lt_signed : (b : Bool) (n : ℕ) → (b ≡ true → 0 < n) → int_lt (signed b n) (pos 0) ≡ b
int_lt_signed true n h = let l : 0 < n = h refl in grind (arith, ints)
int_lt_signed false n h = grind (arith, ints)

quotient : (h l : ℕ) → l < word → (h * word + l) / word ≡ h
quotient h l less = omega arith

remainder : (h l : ℕ) → l < word → (h * word + l) % word ≡ l
remainder h l less = omega arith

pub words_integer : (a : Inside) → OneForm a → words (integer a) ≡ a
words_integer a form =
    let n : ℕ = a.high * word + a.low in
    let s : int_lt (integer a) (pos 0) ≡ a.negative = int_lt_signed a.negative n (λ e. let p : 0 < a.high + a.low = form.0 e in omega arith) in
    let h : unsigned_abs (integer a) / word ≡ a.high = rw (unsigned_abs-signed a.negative n) (quotient a.high a.low form.1) in
    let l : unsigned_abs (integer a) % word ≡ a.low = rw (unsigned_abs-signed a.negative n) (remainder a.high a.low form.1) in
    λ i. record { negative = s i; high = h i; low = l i }

-- integers are equal where their signs and words are
pub same_words : (x y : ℤ) → (beq (int_lt x (pos 0)) (int_lt y (pos 0)) && ((unsigned_abs x / word == unsigned_abs y / word) && (unsigned_abs x % word == unsigned_abs y % word))) ≡ int_eq x y
same_words (pos m) (pos n) = grind (arith, ints, nat_tests)
same_words (pos m) (negsuc n) = grind (arith, ints, nat_tests)
same_words (negsuc m) (pos n) = grind (arith, ints, nat_tests)
same_words (negsuc m) (negsuc n) = grind (arith, ints, nat_tests)
