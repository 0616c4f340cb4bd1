-- Booleans, and the tests of the definitions: what a test says of its parts, and when it passes.
-- f→ reads the test f, f← shows it; std's `lemmas.Bool` has the tests of numbers.
use Rattle.std.proofs.Common.{◌≡◌, ℕ, ◌≤◌, Bool, true, false, ◌&&◌, eqb, ◌⊎◌, sym, refl, ◌∙◌, subst, inl, inr, true≢false, arith}
use Rattle.std.proofs.lemmas.Bool.{false≢true, false_from_ne_true, eq-eqb}
use Rattle.exact.specs.Plane.{or}

-- a Boolean as a number, for counting
abbrev pub bit : Bool → ℕ
bit true = 1
bit false = 0

pub bit_≤1 : (b : Bool) → bit b ≤ 1
bit_≤1 true = omega arith
bit_≤1 false = omega arith

pub bit_mono : (p q : Bool) → (p ≡ true → q ≡ true) → bit p ≤ bit q
bit_mono true q h = subst (λ (b : Bool). 1 ≤ bit b) (sym (h refl)) (omega arith)
bit_mono false q h = omega arith

pub true_false : (b : Bool) → b ≡ true → b ≡ false → ⊥
true_false b p q = true≢false (sym p ∙ q)

pub same_test : (b c : Bool) → (b ≡ true → c ≡ true) → (c ≡ true → b ≡ true) → b ≡ c
same_test true c f g = sym (f refl)
same_test false c f g = sym (false_from_ne_true c (λ e. false≢true (g e)))

-- ---- and, or, not
pub and_left : (a b : Bool) → (a && b) ≡ true → a ≡ true
and_left true b e = refl
and_left false b e = e

pub and_right : (a b : Bool) → (a && b) ≡ true → b ≡ true
and_right true b e = e
and_right false b e = absurd (false≢true e)

pub and3→ : (a b c : Bool) → a && (b && c) ≡ true → (a ≡ true) × (b ≡ true) × (c ≡ true)
and3→ a b c e = (and_left a (b && c) e, and_left b c (and_right a (b && c) e), and_right b c (and_right a (b && c) e))

pub and3← : (a b c : Bool) → a ≡ true → b ≡ true → c ≡ true → a && (b && c) ≡ true
and3← a b c e f g = rw (e, f, g)

pub or→ : (a b : Bool) → or a b ≡ true → (a ≡ true) ⊎ (b ≡ true)
or→ true b e = inl refl
or→ false b e = inr e

pub or_left : (a b : Bool) → a ≡ true → or a b ≡ true
or_left a b e = rw e

pub or_right : (a b : Bool) → b ≡ true → or a b ≡ true
or_right true b e = refl
or_right false b e = e

pub or_false→ : (a b : Bool) → or a b ≡ false → (a ≡ false) × (b ≡ false)
or_false→ true b e = absurd (true≢false e)
or_false→ false b e = (refl, e)

pub or_false← : (a b : Bool) → a ≡ false → b ≡ false → or a b ≡ false
or_false← a b e f = rw (e, f)

-- ---- tests of numbers
pub eqb_same : (n : ℕ) → eqb n n ≡ true
eqb_same n = eq-eqb n n refl
