-- A strict order on finitely many numbers has no endless ascent: there is a last one of those with P, unless there is none.
use Rattle.std.proofs.Common.{◌≡◌, ℕ, zero, suc, ◌<◌, Bool, true, false, ◌⊎◌, sym, subst, inl, inr, arith}
use Rattle.std.proofs.Math.Decide.{ℕ_discrete}
use Rattle.std.proofs.lemmas.Bool.{cases_Bool, false_from_ne_true}
use Rattle.exact.proofs.Booleans.{true_false}

-- what holds below n and at n holds below suc n
one_more : (Q : ℕ → Type 0) (n : ℕ) → ((l : ℕ) → l < n → Q l) → Q n → (l : ℕ) → l < suc n → Q l
one_more Q n below here l h = elim (ℕ_discrete l n) [ yes e ↦ subst Q (sym e) here | no f ↦ below l (omega (arith, f)) ]

module _ (P : ℕ → Bool) (r : ℕ → ℕ → Bool) (irreflexive : (i : ℕ) → r i i ≡ false) (transitive : (i j l : ℕ) → P i ≡ true → P j ≡ true → P l ≡ true → r i j ≡ true → r j l ≡ true → r i l ≡ true) where
  record Last (n : ℕ) : Type 0 where
    it : ℕ
    below : it < n
    holds : P it ≡ true
    none_after : (l : ℕ) → l < n → P l ≡ true → r it l ≡ false

  abbrev Dead : ℕ → ℕ → Type 0
  Dead i l = P l ≡ true → r i l ≡ false

  none_or_last : (n : ℕ) → ((l : ℕ) → l < n → P l ≡ false) ⊎ Last n
  none_or_last zero = inl (λ l h. absurd (omega arith))
  none_or_last (suc n) = go (none_or_last n) (cases_Bool (P n))
    where
      -- n has P; it is after the last so far, or not
      more : (x : Last n) → P n ≡ true → (r x.it n ≡ true) ⊎ (r x.it n ≡ false) → Last (suc n)
      more x e (inl a) = record {
        it = n;
        below = omega arith;
        holds = e;
        none_after = one_more (Dead n) n (λ l h q. false_from_ne_true (r n l) (λ b. true_false (r x.it l) (transitive x.it n l x.holds e q a b) (x.none_after l h q))) (λ _. irreflexive n);
      }
      more x e (inr a) = record { it = x.it; below = omega (arith, x.below); holds = x.holds; none_after = one_more (Dead x.it) n x.none_after (λ _. a) }

      go : ((l : ℕ) → l < n → P l ≡ false) ⊎ Last n → (P n ≡ true) ⊎ (P n ≡ false) → ((l : ℕ) → l < suc n → P l ≡ false) ⊎ Last (suc n)
      go (inl f) (inl e) = inr (record { it = n; below = omega arith; holds = e; none_after = one_more (Dead n) n (λ l h q. absurd (true_false (P l) q (f l h))) (λ _. irreflexive n) })
      go (inl f) (inr e) = inl (one_more (λ l. P l ≡ false) n f e)
      go (inr x) (inl e) = inr (more x e (cases_Bool (r x.it n)))
      go (inr x) (inr e) = inr (record { it = x.it; below = omega (arith, x.below); holds = x.holds; none_after = one_more (Dead x.it) n x.none_after (λ q. absurd (true_false (P n) q e)) })

  -- none has P, if each that has it is before another
  pub no_ascent : (n : ℕ) (s : ℕ → ℕ) → ((i : ℕ) → i < n → P i ≡ true → (s i < n) × (P (s i) ≡ true) × (r i (s i) ≡ true)) → (l : ℕ) → l < n → P l ≡ false
  no_ascent n s h = elim (none_or_last n) [
    | inl f ↦ f
    | inr x ↦ let y = h x.it x.below x.holds in absurd (true_false (r x.it (s x.it)) y.2 (x.none_after (s x.it) y.0 y.1))
  ]
