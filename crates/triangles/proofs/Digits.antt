-- A number read digit by digit.
use Rattle.std.proofs.Common.{◌≡◌, ℕ, ◌+◌, ◌-◌, ◌*◌, ◌<◌, ◌≤◌, Bool, true, false, List, [], ◌∷◌, length, get_or, drop, Some, None, sym, refl, ap, ◌∙◌, arith}
use Rattle.std.proofs.lemmas.List.{drop_all, drop_more}
use Rattle.std.proofs.lemmas.Bool.Decides.{nat_tests}
use Rattle.std.proofs.lemmas.Bool.{le-ltb, lt-ltb}
use Rattle.exact.specs.Plane.{pick}
use Rattle.triangles.specs.Line.{digit, digits, small, number}

digits_at : (n : ℕ) (xs : List ℕ) (i : ℕ) → i < length xs → digits n (drop i xs) ≡ pick (digit (get_or xs i 0)) (digits (n * 10 + (get_or xs i 0 - 48)) (drop (i + 1) xs)) None
unfolding digits
digits_at n xs i h = rw (drop_more xs i 0 h) refl

is_digit : (b : ℕ) → 48 ≤ b → b ≤ 57 → digit b ≡ true
is_digit b l m = grind (arith, nat_tests)

no_digit : (b : ℕ) → (48 ≤ b → b ≤ 57 → ⊥) → digit b ≡ false
no_digit b h = grind (arith, nat_tests)

-- what is too large stays so
digits_large : (n : ℕ) (xs : List ℕ) → 18446744073709551616 ≤ n → small (digits n xs) ≡ None
unfolding digits
digits_large n [] h = rw (le-ltb n 18446744073709551616 h) refl
digits_large n (x ∷ xs) h = at (digit x) (digits_large (n * 10 + (x - 48)) xs (omega arith))
  where
    at : (s : Bool) → small (digits (n * 10 + (x - 48)) xs) ≡ None → small (pick s (digits (n * 10 + (x - 48)) xs) None) ≡ None
    at true e = e
    at false e = refl

number_is : (xs : List ℕ) → 0 < length xs → number xs ≡ small (digits 0 xs)
number_is [] h = absurd (omega arith)
number_is (x ∷ xs) h = refl

-- a loop that has read i digits, the number n so far
module _ (xs : List ℕ) (i n : ℕ) (some : 0 < length xs) (so_far : digits 0 xs ≡ digits n (drop i xs)) where
  read : number xs ≡ small (digits n (drop i xs))
  read = number_is xs some ∙ ap small so_far

  pub number_all : length xs ≤ i → n < 18446744073709551616 → Some n ≡ number xs
  unfolding digits
  number_all h l = sym (read ∙ rw (drop_all i xs h, lt-ltb n 18446744073709551616 l) refl)

  module _ (more : i < length xs) where
    pub number_stop : (48 ≤ get_or xs i 0 → get_or xs i 0 ≤ 57 → ⊥) → None ≡ number xs
    number_stop h = sym (read ∙ ap small (digits_at n xs i more) ∙ rw (no_digit (get_or xs i 0) h) refl)

    pub number_more : 48 ≤ get_or xs i 0 → get_or xs i 0 ≤ 57 → digits 0 xs ≡ digits (n * 10 + (get_or xs i 0 - 48)) (drop (i + 1) xs)
    number_more l m = so_far ∙ digits_at n xs i more ∙ rw (is_digit (get_or xs i 0) l m) refl

    pub number_large : 48 ≤ get_or xs i 0 → get_or xs i 0 ≤ 57 → 18446744073709551616 ≤ n * 10 + (get_or xs i 0 - 48) → None ≡ number xs
    number_large l m h = sym (number_is xs some ∙ ap small (number_more l m) ∙ digits_large (n * 10 + (get_or xs i 0 - 48)) (drop (i + 1) xs) h)
