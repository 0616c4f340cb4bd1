-- A loop with fuel: steps till one is not taken.
use Rattle.std.specs.Prelude.{◌≡◌, ℕ, zero, suc, ◌⊎◌, Some, None, Option}

abbrev pub or_else : {A B : Type 0} → Option A → B → (A → B) → B
or_else None b f = b
or_else (Some a) b f = f a

unfoldable pub iterate : {A : Type 0} → (A → Option A) → ℕ → A → A
iterate step zero s = s
iterate step (suc n) s = or_else (step s) s (iterate step n)

-- the same for steps that are known by a relation: r is where they may come to from s
unfoldable pub Iterates : {A : Type 0} → (A → Option A → Type 0) → ℕ → A → A → Type 0
Iterates Step zero s r = r ≡ s
Iterates Step (suc n) s r = (Step s None × (r ≡ s)) ⊎ ((t : _) × Step s (Some t) × Iterates Step n t r)
