-- Sums over the numbers below n, and counting by them: a sum with one place that is not 0, two sums exchanged, and a list counted by the number that each element has.
use Rattle.std.proofs.Common.{◌≡◌, ℕ, zero, suc, ◌+◌, ◌*◌, ◌<◌, ◌≤◌, Bool, true, false, ◌&&◌, eqb, ◌⊎◌, List, [], ◌∷◌, ◌++◌, sym, refl, ap, ◌∙◌, ap₂, inl, inr, arith}
use Rattle.exact.specs.Plane.{up_to}
use Rattle.exact.specs.Sums.{sum}
use Rattle.std.proofs.lemmas.Bool.{cases_Bool, eqb-true, eq-eqb, eqb-false, ne_eqb}
use Rattle.exact.proofs.Booleans.{bit}
use Rattle.exact.proofs.Lists.{In, count}

pub sum_same : (f g : ℕ → ℕ) (n : ℕ) → ((i : ℕ) → i < n → f i ≡ g i) → sum f n ≡ sum g n
unfolding sum
sum_same f g zero h = refl
sum_same f g (suc n) h = ap₂ ◌+◌ (h n (omega arith)) (sum_same f g n (λ i l. h i (omega arith)))

pub sum_plus : (f g : ℕ → ℕ) (n : ℕ) → sum (λ i. f i + g i) n ≡ sum f n + sum g n
unfolding sum
sum_plus f g zero = refl
sum_plus f g (suc n) = omega (arith, sum_plus f g n)

pub sum_mono : (f g : ℕ → ℕ) (n : ℕ) → ((i : ℕ) → i < n → f i ≤ g i) → sum f n ≤ sum g n
unfolding sum
sum_mono f g zero h = omega arith
sum_mono f g (suc n) h = omega (arith, h n (omega arith), sum_mono f g n (λ i l. h i (omega arith)))

pub sum_const : (c n : ℕ) → sum (λ i. c) n ≡ n * c
unfolding sum
sum_const c zero = omega arith
sum_const c (suc n) = omega (arith, sum_const c n)

pub sum_zero : (f : ℕ → ℕ) (n : ℕ) → ((i : ℕ) → i < n → f i ≡ 0) → sum f n ≡ 0
unfolding sum
sum_zero f zero h = refl
sum_zero f (suc n) h = omega (arith, h n (omega arith), sum_zero f n (λ i l. h i (omega arith)))

pub sum_swap : (f : ℕ → ℕ → ℕ) (m n : ℕ) → sum (λ i. sum (λ j. f i j) n) m ≡ sum (λ j. sum (λ i. f i j) m) n
unfolding sum
sum_swap f zero n = sym (sum_zero (λ j. 0) n (λ i l. refl))
sum_swap f (suc m) n = ap (λ (z : ℕ). sum (λ j. f m j) n + z) (sum_swap f m n) ∙ sym (sum_plus (λ j. f m j) (λ j. sum (λ i. f i j) m) n)

-- ---- c where i is j, and 0 elsewhere
unfoldable pub only : ℕ → ℕ → ℕ → ℕ
only i j c = bit (eqb i j) * c

pub only_same : (i j c : ℕ) → i ≡ j → only i j c ≡ c
unfolding only
only_same i j c e = ap (λ (b : Bool). bit b * c) (eq-eqb i j e) ∙ omega arith

pub only_other : (i j c : ℕ) → ¬ (i ≡ j) → only i j c ≡ 0
unfolding only
only_other i j c f = ap (λ (b : Bool). bit b * c) (ne_eqb i j f) ∙ omega arith

only_one : (i j : ℕ) → only i j 1 ≡ bit (eqb i j)
unfolding only
only_one i j = omega arith

pub sum_only : (j c n : ℕ) → j < n → sum (λ i. only i j c) n ≡ c
unfolding sum
sum_only j c zero l = absurd (omega arith)
sum_only j c (suc n) l = go (λ m. sum_only j c n m) (cases_Bool (eqb n j))
  where
    go : (j < n → sum (λ i. only i j c) n ≡ c) → (eqb n j ≡ true) ⊎ (eqb n j ≡ false) → only n j c + sum (λ i. only i j c) n ≡ c
    go rest (inl e) = let p = eqb-true n j e in omega (arith, only_same n j c p, sum_zero (λ i. only i j c) n (λ i m. only_other i j c (λ q. omega arith)))
    go rest (inr e) = let p = eqb-false n j e in omega (arith, only_other n j c p, rest (omega arith))

-- ---- one place, two places
pub sum_one : (f : ℕ → ℕ) (n i : ℕ) → i < n → f i ≤ sum f n
sum_one f n i l = omega (arith, sum_only i (f i) n l, sum_mono (λ k. only k i (f i)) f n (λ k m. below k (cases_Bool (eqb k i))))
  where
    below : (k : ℕ) → (eqb k i ≡ true) ⊎ (eqb k i ≡ false) → only k i (f i) ≤ f k
    below k (inl e) = let p = eqb-true k i e in omega (arith, only_same k i (f i) p, ap f p)
    below k (inr e) = omega (arith, only_other k i (f i) (eqb-false k i e))

-- two sums that differ at two places
pub sum_two_less : (f g : ℕ → ℕ) (n i j : ℕ) → i < n → j < n → ¬ (i ≡ j) → ((k : ℕ) → k < n → ¬ (k ≡ i) → ¬ (k ≡ j) → g k ≡ f k) → g i + g j < f i + f j → sum g n < sum f n
sum_two_less f g n i j li lj ne same less =
    omega (
      arith,
      sum_same (λ k. g k + only k i (f i) + only k j (f j)) (λ k. f k + only k i (g i) + only k j (g j)) n (λ k l. at k l (cases_Bool (eqb k i)) (cases_Bool (eqb k j))),
      sum_plus (λ k. g k + only k i (f i)) (λ k. only k j (f j)) n,
      sum_plus g (λ k. only k i (f i)) n,
      sum_plus (λ k. f k + only k i (g i)) (λ k. only k j (g j)) n,
      sum_plus f (λ k. only k i (g i)) n,
      sum_only i (f i) n li,
      sum_only j (f j) n lj,
      sum_only i (g i) n li,
      sum_only j (g j) n lj,
    )
  where
    at : (k : ℕ) → k < n → (eqb k i ≡ true) ⊎ (eqb k i ≡ false) → (eqb k j ≡ true) ⊎ (eqb k j ≡ false) → g k + only k i (f i) + only k j (f j) ≡ f k + only k i (g i) + only k j (g j)
    at k l (inl e) (inl d) = absurd (ne (sym (eqb-true k i e) ∙ eqb-true k j d))
    at k l (inl e) (inr d) = let p = eqb-true k i e in let q = eqb-false k j d in omega (arith, ap f p, ap g p, only_same k i (f i) p, only_same k i (g i) p, only_other k j (f j) q, only_other k j (g j) q)
    at k l (inr e) (inl d) = let p = eqb-false k i e in let q = eqb-true k j d in omega (arith, ap f q, ap g q, only_same k j (f j) q, only_same k j (g j) q, only_other k i (f i) p, only_other k i (g i) p)
    at k l (inr e) (inr d) = let p = eqb-false k i e in let q = eqb-false k j d in omega (arith, same k l p q, only_other k i (f i) p, only_other k i (g i) p, only_other k j (f j) q, only_other k j (g j) q)

-- ---- counting a list
pub count_end : {A : Type 0} (f : A → Bool) (l : List A) (x : A) → count f (l ++ x ∷ []) ≡ bit (f x) + count f l
unfolding count
count_end f [] x = refl
count_end f (y ∷ l) x = omega (arith, count_end f l x)

pub count_up_to : (f : ℕ → Bool) (n : ℕ) → count f (up_to n) ≡ sum (λ i. bit (f i)) n
unfolding up_to sum count
count_up_to f zero = refl
count_up_to f (suc n) = count_end f (up_to n) n ∙ ap (λ (k : ℕ). bit (f n) + k) (count_up_to f n)

-- by the number that each has
pub count_by : {A : Type 0} (p : A → Bool) (f : A → ℕ) (n : ℕ) (l : List A) → ((a : A) → In a l → p a ≡ true → f a < n) → count p l ≡ sum (λ i. count (λ a. p a && eqb i (f a)) l) n
unfolding count
count_by p f n [] h = sym (sum_zero (λ i. 0) n (λ i l. refl))
count_by {A} p f n (x ∷ l) h =
    ap₂ ◌+◌ (sym (one (p x) (h x (inl refl)))) (count_by p f n l (λ a i. h a (inr i)))
    ∙ sym (sum_plus (λ i. bit (p x && eqb i (f x))) (λ i. count (λ a. p a && eqb i (f a)) l) n)
  where
    one : (b : Bool) → (b ≡ true → f x < n) → sum (λ i. bit (b && eqb i (f x))) n ≡ bit b
    one true h = sum_same (λ i. bit (eqb i (f x))) (λ i. only i (f x) 1) n (λ i l. sym (only_one i (f x))) ∙ sum_only (f x) 1 n (h refl)
    one false h = sum_zero (λ i. 0) n (λ i l. refl)
