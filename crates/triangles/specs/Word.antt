-- The first words of a text.
use Rattle.std.specs.Prelude.{ℕ, zero, suc, List, [], ◌∷◌, Some, None, Option}

-- the first n, each if there is one
abbrev pub leading : {A : Type 0} → ℕ → List A → List (Option A)
leading zero xs = []
leading (suc n) [] = None ∷ leading n []
leading (suc n) (x ∷ xs) = Some x ∷ leading n xs

-- those that are there, up to the first that is not
abbrev pub given : {A : Type 0} → List (Option A) → List A
given [] = []
given (None ∷ xs) = []
given (Some x ∷ xs) = x ∷ given xs
