-- The turns of a loop with fuel.
use Rattle.std.proofs.Common.{◌≡◌, ℕ, zero, suc, ◌+◌, ◌-◌, ◌<◌, ◌≤◌, ◌⊎◌, Some, None, Option, sym, refl, subst, inl, inr, arith}
use Rattle.std.specs.Option.{option_map}
use Rattle.delaunay.specs.Iterate.{iterate, Iterates}

module _ {A : Type 0} (step : A → Option A) where
  pub iterate_none : (n : ℕ) (s : A) → n ≡ 0 → iterate step n s ≡ s
  unfolding iterate
  iterate_none zero s z = refl
  iterate_none (suc n) s z = absurd (omega arith)

  pub iterate_stop : (n : ℕ) (s : A) → step s ≡ None → iterate step n s ≡ s
  unfolding iterate
  iterate_stop zero s h = refl
  iterate_stop (suc n) s h = rw h refl

  pub iterate_next : (n : ℕ) (s t : A) → step s ≡ Some t → iterate step (suc n) s ≡ iterate step n t
  unfolding iterate
  iterate_next n s t h = rw h refl

  pub iterate_on : (n : ℕ) (s t : A) → 0 < n → step s ≡ Some t → iterate step n s ≡ iterate step (n - 1) t
  iterate_on zero s t p h = absurd (omega arith)
  iterate_on (suc n) s t p h = let k : suc n - 1 ≡ n = omega arith in rw k (iterate_next n s t h)

  -- the same where k turns of n are done
  pub iterate_turn : (n k : ℕ) (s t : A) → k < n → step s ≡ Some t → iterate step (n - k) s ≡ iterate step (n - (k + 1)) t
  iterate_turn n k s t l h = let q : n - k - 1 ≡ n - (k + 1) = omega arith in rw (← q) (iterate_on (n - k) s t (omega arith) h)

  pub iterate_over : (n k : ℕ) (s : A) → n ≤ k → iterate step (n - k) s ≡ s
  iterate_over n k s l = iterate_none (n - k) s (omega arith)

  -- ---- a loop that ends before its fuel does: P k s says, besides what the loop keeps, that from s it goes on for k turns at most
  module _ (P : ℕ → A → Type 0) where
    pub record Rests (s : A) : Type 0 where
      pub turns : ℕ
      pub kept : P turns s
      pub still : step s ≡ None

    pub record Goes (k : ℕ) (s : A) : Type 0 where
      pub turns : ℕ
      pub to : A
      pub fewer : turns < k
      pub on : step s ≡ Some to
      pub kept : P turns to

    pub iterate_rests : ((k : ℕ) (s : A) → P k s → (step s ≡ None) ⊎ Goes k s) → (n k : ℕ) (s : A) → k ≤ n → P k s → Rests (iterate step n s)
    iterate_rests falls zero k s l p = subst Rests (sym (iterate_none zero s refl)) (elim (falls k s p) [
      | inl e ↦ record { turns = k; kept = p; still = e }
      | inr g ↦ absurd (omega (arith, g.fewer))
    ])
    iterate_rests falls (suc n) k s l p = elim (falls k s p) [
      | inl e ↦ subst Rests (sym (iterate_stop (suc n) s e)) (record { turns = k; kept = p; still = e })
      | inr g ↦
          subst Rests (sym (iterate_next n s g.to g.on)) (iterate_rests falls n g.turns g.to (omega (arith, g.fewer)) g.kept)
    ]

-- ---- a loop whose steps are known by a relation
module _ {A : Type 0} (Step : A → Option A → Type 0) where
  pub iterates_none : (n : ℕ) (s : A) → n ≡ 0 → Iterates Step n s s
  unfolding Iterates
  iterates_none zero s z = refl
  iterates_none (suc n) s z = absurd (omega arith)

  pub iterates_stop : (n : ℕ) (s : A) → Step s None → Iterates Step n s s
  unfolding Iterates
  iterates_stop zero s h = refl
  iterates_stop (suc n) s h = inl (h, refl)

  pub iterates_on : (n k : ℕ) (s t r : A) → n ≡ k + 1 → Step s (Some t) → Iterates Step k t r → Iterates Step n s r
  unfolding Iterates
  iterates_on zero k s t r e h i = absurd (omega arith)
  iterates_on (suc n) k s t r e h i = let q : k ≡ n = omega arith in inr (t, h, subst (λ j. Iterates Step j t r) q i)

  -- if the relation is a function seen through a view, so is the loop
  pub iterates_is : {B : Type 0} (view : A → B) (step : B → Option B) → ((s : A) (o : Option A) → Step s o → option_map view o ≡ step (view s)) → (n : ℕ) (s r : A) → Iterates Step n s r → view r ≡ iterate step n (view s)
  unfolding Iterates iterate
  iterates_is view step is zero s r e = rw e refl
  iterates_is view step is (suc n) s r i = elim i [
    | inl e ↦ rw (e.1, ← is s None e.0) refl
    | inr e ↦ rw (← is s (Some e.0) e.1) (iterates_is view step is n e.0 r e.2)
  ]
