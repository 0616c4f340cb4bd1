-- A list of different numbers below n is no longer than n.
use Rattle.std.proofs.Common.{◌≡◌, ℕ, ◌+◌, ◌<◌, ◌≤◌, true, false, eqb, ◌⊎◌, List, [], ◌∷◌, length, sym, refl, ap, ◌∙◌, subst, inl, inr, arith}
use Rattle.std.proofs.lemmas.Bool.{cases_Bool, false_from_ne_true, eqb-true}
use Rattle.exact.proofs.Booleans.{bit, bit_≤1}
use Rattle.exact.proofs.Lists.{In, count, count_none}
use Rattle.exact.proofs.Sums.{sum_mono, sum_const, count_by}

abbrev pub Different : List ℕ → Type 0
Different [] = Unit {0}
Different (x ∷ l) = (In x l → ⊥) × Different l

once_at_most : (i : ℕ) (l : List ℕ) → Different l → count (eqb i) l ≤ 1
unfolding count
once_at_most i [] d = omega arith
once_at_most i (x ∷ l) d = go (cases_Bool (eqb i x)) (once_at_most i l d.1)
  where
    go : (eqb i x ≡ true) ⊎ (eqb i x ≡ false) → count (eqb i) l ≤ 1 → bit (eqb i x) + count (eqb i) l ≤ 1
    go (inl e) r =
        let none = count_none (eqb i) l (λ a j. false_from_ne_true (eqb i a) (λ q. d.0 (subst (λ (k : ℕ). In k l) (sym (eqb-true i a q) ∙ eqb-true i x e) j))) in
        omega (arith, bit_≤1 (eqb i x), none)
    go (inr e) r = omega (arith, ap bit e)

all_counted : (l : List ℕ) → count (λ a. true) l ≡ length l
unfolding count
all_counted [] = refl
all_counted (x ∷ l) = omega (arith, all_counted l)

pub different_few : (n : ℕ) (l : List ℕ) → Different l → ((a : ℕ) → In a l → a < n) → length l ≤ n
different_few n l d below =
    omega (arith, all_counted l, count_by (λ a. true) (λ a. a) n l (λ a i e. below a i), sum_mono (λ i. count (eqb i) l) (λ i. 1) n (λ i k. once_at_most i l d), sum_const 1 n)
