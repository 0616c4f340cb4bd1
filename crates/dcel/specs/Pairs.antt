-- Changes as lists of pairs (place, value), and functions changed at such places.
use Rattle.std.specs.Prelude.{◌≡◌, ℕ, cond, ◌≢◌, ◌⊎◌, List, [], ◌∷◌, ◌==◌}

abbrev pub Pairs : Type 0
Pairs = List (ℕ × ℕ)

-- f, but at each place of the list its value there; the first pair of a place counts
unfoldable pub changed : Pairs → (ℕ → ℕ) → ℕ → ℕ
changed [] f j = f j
changed (p ∷ ps) f j = cond (j == p.0) p.1 (changed ps f j)

-- the pairs turned round
abbrev pub reversed : Pairs → Pairs
reversed [] = []
reversed (p ∷ ps) = (p.1, p.0) ∷ reversed ps

-- P of each pair
abbrev pub All : (ℕ → ℕ → Type 0) → Pairs → Type 0
All P [] = Unit {0}
All P (p ∷ ps) = P p.0 p.1 × All P ps

-- a is a place of the list; a is a value of it
abbrev pub Source : ℕ → Pairs → Type 0
Source a [] = ⊥
Source a (p ∷ ps) = (a ≡ p.0) ⊎ Source a ps

abbrev pub Target : ℕ → Pairs → Type 0
Target a [] = ⊥
Target a (p ∷ ps) = (a ≡ p.1) ⊎ Target a ps

-- a is no place of the list; no two places are the same
abbrev pub Elsewhere : ℕ → Pairs → Type 0
Elsewhere a [] = Unit {0}
Elsewhere a (p ∷ ps) = (a ≢ p.0) × Elsewhere a ps

abbrev pub Apart : Pairs → Type 0
Apart [] = Unit {0}
Apart (p ∷ ps) = Elsewhere p.0 ps × Apart ps
