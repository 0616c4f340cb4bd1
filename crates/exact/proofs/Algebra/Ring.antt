-- Identities of integers by computing: `ring (the variables) (search integers depth 20) refl`.
use Rattle.std.proofs.Common.{◌≡◌, List, ℤ, pos, ◌-ℤ◌, sym, ap, ◌∙◌, arith}
use Rattle.std.proofs.lemmas.Int.{ints}
use Rattle.exact.proofs.Algebra.Polynomials.{none, eval}
use Rattle.exact.proofs.Algebra.Reading.{Known, known_sum, known_product, known_negative, known_0, known_1, known_2, listed_here, listed_later, known_variable}

difference_0 : (a b : ℤ) → a -ℤ b ≡ pos 0 → a ≡ b
difference_0 a b e = omega (arith, ints)

-- Two integers are equal if their difference reads as the polynomial `none`. To compare the difference with a constructor is much cheaper than to compare two normal forms.
pub ring : (ρ : List ℤ) {a b : ℤ} (s : Known ρ (a -ℤ b)) → s.poly ≡ none → a ≡ b
ring ρ {a} {b} s e = difference_0 a b (sym s.is ∙ ap (λ p. eval p ρ) e)

pub ruleset operations = (known_sum, known_product, known_negative, known_0, known_1, known_2)

pub ruleset integers = (operations, listed_here, listed_later, known_variable)
