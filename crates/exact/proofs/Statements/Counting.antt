-- Counting: parts that exclude each other, a number below n, triangles by a number that each has, and several counts at once.
use Rattle.std.proofs.Common.{◌≡◌, ℕ, zero, suc, ◌+◌, ◌*◌, ◌<◌, Bool, true, false, not, ◌&&◌, eqb, List, [], ◌∷◌, length, sym, refl, ap, ◌∙◌, subst, ap₂, inl, inr, arith}
use Rattle.exact.specs.Plane.{or, any, Tri, up_to, no_twice, same_tri}
use Rattle.std.proofs.lemmas.Bool.{cases_Bool, false_from_ne_true, not-true, eqb-true, eqb-false, ne_eqb}
use Rattle.exact.proofs.Booleans.{bit, true_false, and_left, and_right}
use Rattle.exact.proofs.Lists.{In, up_to→, count, count_none}
use Rattle.exact.proofs.Sums.{sum_same, count_end, count_up_to, count_by}
use Rattle.exact.proofs.Vertices.{one_of←}

pub count_same : {A : Type 0} (f g : A → Bool) (l : List A) → ((a : A) → In a l → f a ≡ g a) → count f l ≡ count g l
unfolding count
count_same f g [] h = refl
count_same f g (x ∷ l) h = ap₂ (λ (b : Bool) (n : ℕ). bit b + n) (h x (inl refl)) (count_same f g l (λ a i. h a (inr i)))

bit_or : (p q : Bool) → (p ≡ true → q ≡ true → ⊥) → bit (or p q) ≡ bit p + bit q
bit_or true true h = absurd (h refl refl)
bit_or true false h = refl
bit_or false q h = omega arith

pub count_or : {A : Type 0} (f g : A → Bool) (l : List A) → ((a : A) → In a l → f a ≡ true → g a ≡ true → ⊥) → count (λ a. or (f a) (g a)) l ≡ count f l + count g l
unfolding count
count_or f g [] h = refl
count_or f g (x ∷ l) h = omega (arith, bit_or (f x) (g x) (h x (inl refl)), count_or f g l (λ a i. h a (inr i)))

-- a number is below n once
pub count_number : (n k : ℕ) → k < n → count (eqb k) (up_to n) ≡ 1
unfolding up_to count
count_number zero k l = absurd (omega arith)
count_number (suc n) k l = count_end (eqb k) (up_to n) n ∙ elim (cases_Bool (eqb k n)) [
  | inl e ↦ omega (arith, ap bit e, count_none (eqb k) (up_to n) (λ i m. ne_eqb k i (λ p. omega (arith, up_to→ n i m, eqb-true k n e))))
  | inr e ↦ omega (arith, ap bit e, count_number n k (omega (arith, eqb-false k n e)))
]

-- at most one triangle of a list without repeats
count_any : (f : Tri → Bool) (ts : List Tri) → no_twice ts ≡ true → ((t u : Tri) → In t ts → In u ts → f t ≡ true → f u ≡ true → t ≡ u) → count f ts ≡ bit (any f ts)
unfolding count any no_twice
count_any f [] nt once = refl
count_any f (t ∷ ts) nt once = elim (cases_Bool (f t)) [
  | inl e ↦ ap₂ (λ (b : Bool) (n : ℕ). bit b + n) e (count_none f ts (other e)) ∙ sym (ap (λ (b : Bool). bit (or b (any f ts))) e)
  | inr e ↦ omega (arith, ap bit e, ap (λ (b : Bool). bit (or b (any f ts))) e, count_any f ts (and_right (not (any (same_tri t) ts)) (no_twice ts) nt) (λ u s i j. once u s (inr i) (inr j)))
]
  where
    other : f t ≡ true → (u : Tri) → In u ts → f u ≡ false
    other e u i = false_from_ne_true (f u) (λ p. true_false (any (same_tri t) ts)
        (one_of← ts t (subst (λ (s : Tri). In s ts) (sym (once t u (inl refl) (inr i) e p)) i)) (not-true (any (same_tri t) ts) (and_left (not (any (same_tri t) ts)) (no_twice ts) nt)))

-- triangles that have different numbers below n: as many as numbers that one of them has
pub count_numbers : (f : Tri → Bool) (number : Tri → ℕ) (n : ℕ) (ts : List Tri) → no_twice ts ≡ true → ((t : Tri) → In t ts → f t ≡ true → number t < n) →
    ((t u : Tri) → In t ts → In u ts → f t ≡ true → f u ≡ true → number t ≡ number u → t ≡ u) → count f ts ≡ count (λ i. any (λ t. f t && eqb i (number t)) ts) (up_to n)
count_numbers f number n ts nt below once =
    count_by f number n ts below ∙ sum_same (λ i. count (has i) ts) (λ i. bit (any (has i) ts)) n (λ i l. count_any (has i) ts nt (same i)) ∙ sym (count_up_to (λ i. any (has i) ts) n)
  where
    has : ℕ → Tri → Bool
    has i t = f t && eqb i (number t)

    same : (i : ℕ) (t u : Tri) → In t ts → In u ts → f t && eqb i (number t) ≡ true → f u && eqb i (number u) ≡ true → t ≡ u
    same i t u it iu p q =
        once t u it iu (and_left (f t) (eqb i (number t)) p) (and_left (f u) (eqb i (number u)) q)
        (sym (eqb-true i (number t) (and_right (f t) (eqb i (number t)) p)) ∙ eqb-true i (number u) (and_right (f u) (eqb i (number u)) q))

-- ---- each is of one kind; each is of two of four kinds
pub count_kinds : {A : Type 0} (f g : A → Bool) (l : List A) → ((a : A) → In a l → bit (f a) + bit (g a) ≡ 1) → count f l + count g l ≡ length l
unfolding count
count_kinds f g [] h = refl
count_kinds f g (x ∷ l) h = omega (arith, h x (inl refl), count_kinds f g l (λ a i. h a (inr i)))

pub count_two_of : {A : Type 0} (f g h k : A → Bool) (l : List A) → ((a : A) → In a l → bit (f a) + bit (g a) + (bit (h a) + bit (k a)) ≡ 2) → count f l + count g l + (count h l + count k l) ≡ 2 * length l
unfolding count
count_two_of f g h k [] e = refl
count_two_of f g h k (x ∷ l) e = omega (arith, e x (inl refl), count_two_of f g h k l (λ a i. e a (inr i)))
