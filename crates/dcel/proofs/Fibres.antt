-- Sums over the numbers below n regrouped: the first and the rest, two by two, by the fibres of a function; and sums of at most one.
use Rattle.std.proofs.Common.{◌≡◌, ℕ, zero, suc, ◌+◌, ◌<◌, ◌≤◌, ◌≢◌, ◌⊎◌, sym, refl, ap, ◌∙◌, ap₂, inl, inr, arith}
use Rattle.std.proofs.lemmas.Bool.{cases_eq, cases_lt}
use Rattle.exact.specs.Sums.{sum}
use Rattle.exact.proofs.Sums.{sum_same, sum_plus, sum_zero, sum_swap, sum_one, only, only_same, only_other, sum_only}
use Rattle.dcel.specs.Mesh.{Among}

pub sum_first : (f : ℕ → ℕ) (n : ℕ) → sum f (suc n) ≡ f 0 + sum (λ i. f (suc i)) n
unfolding sum
sum_first f zero = refl
sum_first f (suc n) = omega (arith, sum_first f n)

-- two by two
pub sum_pairs : (f : ℕ → ℕ) (k : ℕ) → sum f (k + k) ≡ sum (λ i. f (i + i) + f (suc (i + i))) k
unfolding sum
sum_pairs f zero = refl
sum_pairs f (suc k) =
    let two : suc k + suc k ≡ suc (suc (k + k)) = omega arith in
    ap (sum f) two ∙ omega (arith, sum_pairs f k)

pub only_some : (i j c : ℕ) → 1 ≤ only i j c → (i ≡ j) × (1 ≤ c)
only_some i j c l = elim (cases_eq i j) [ inl e ↦ (e, omega (arith, only_same i j c e)) | inr f ↦ absurd (omega (arith, only_other i j c f)) ]

pub only_≤ : (i j c : ℕ) → only i j c ≤ c
only_≤ i j c = elim (cases_eq i j) [ inl e ↦ omega (arith, only_same i j c e) | inr f ↦ omega (arith, only_other i j c f) ]

-- ---- g over those below n that f puts at i
unfoldable pub fibre : (ℕ → ℕ) → ℕ → (ℕ → ℕ) → ℕ → ℕ
fibre f n g i = sum (λ e. only i (f e) (g e)) n

pub sum_fibres : (f : ℕ → ℕ) (m n : ℕ) (g : ℕ → ℕ) → ((e : ℕ) → e < n → f e < m) → sum g n ≡ sum (fibre f n g) m
unfolding fibre
sum_fibres f m n g h = sym (sum_swap (λ i e. only i (f e) (g e)) m n ∙ sum_same (λ e. sum (λ i. only i (f e) (g e)) m) g n (λ e l. sum_only (f e) (g e) m (h e l)))

-- a fibre of three
pub fibre_three : (f : ℕ → ℕ) (n : ℕ) (g : ℕ → ℕ) (i a b c : ℕ) → a < n → b < n → c < n → f a ≡ i → f b ≡ i → f c ≡ i → a ≢ b → b ≢ c → c ≢ a →
    ((e : ℕ) → e < n → f e ≡ i → Among e a b c) → fibre f n g i ≡ g a + g b + g c
unfolding fibre
fibre_three f n g i a b c la lb lc fa fb fc ab bc ca all =
    sum_same (λ e. only i (f e) (g e)) (λ e. only e a (g a) + only e b (g b) + only e c (g c)) n (λ e l. point e l (cases_eq e a) (cases_eq e b) (cases_eq e c))
    ∙ sum_plus (λ e. only e a (g a) + only e b (g b)) (λ e. only e c (g c)) n
    ∙ ap₂ ◌+◌ (sum_plus (λ e. only e a (g a)) (λ e. only e b (g b)) n ∙ ap₂ ◌+◌ (sum_only a (g a) n la) (sum_only b (g b) n lb)) (sum_only c (g c) n lc)
  where
    is : (e d : ℕ) → e ≡ d → f d ≡ i → only i (f e) (g e) ≡ g d
    is e d q fd = only_same i (f e) (g e) (sym (ap f q ∙ fd)) ∙ ap g q

    none : (e : ℕ) → e ≢ a → e ≢ b → e ≢ c → Among e a b c → ⊥
    none e x y z (inl q) = x q
    none e x y z (inr (inl q)) = y q
    none e x y z (inr (inr q)) = z q

    point : (e : ℕ) → e < n → (e ≡ a) ⊎ (e ≢ a) → (e ≡ b) ⊎ (e ≢ b) → (e ≡ c) ⊎ (e ≢ c) → only i (f e) (g e) ≡ only e a (g a) + only e b (g b) + only e c (g c)
    point e l (inl q) y z = omega (arith, is e a q fa, only_same e a (g a) q, only_other e b (g b) (λ r. ab (sym q ∙ r)), only_other e c (g c) (λ r. ca (sym r ∙ q)))
    point e l (inr x) (inl q) z = omega (arith, is e b q fb, only_other e a (g a) x, only_same e b (g b) q, only_other e c (g c) (λ r. bc (sym q ∙ r)))
    point e l (inr x) (inr y) (inl q) = omega (arith, is e c q fc, only_other e a (g a) x, only_other e b (g b) y, only_same e c (g c) q)
    point e l (inr x) (inr y) (inr z) = omega (arith, only_other i (f e) (g e) (λ q. none e x y z (all e l (sym q))), only_other e a (g a) x, only_other e b (g b) y, only_other e c (g c) z)

-- ---- one term, and two
pub some_term : (c : ℕ → ℕ) (n : ℕ) → 1 ≤ sum c n → (i : ℕ) × (i < n) × (1 ≤ c i)
unfolding sum
some_term c zero l = absurd (omega arith)
some_term c (suc n) l = elim (cases_lt 0 (c n)) [
  | inl k ↦ (n, omega arith, omega (arith, k))
  | inr f ↦ (let r = some_term c n (omega (arith, f)) in (r.0, omega (arith, r.1), r.2))
]

two_terms_≤ : (c : ℕ → ℕ) (n i j : ℕ) → i < j → j < n → c i + c j ≤ sum c n
unfolding sum
two_terms_≤ c zero i j l m = absurd (omega arith)
two_terms_≤ c (suc n) i j l m = elim (cases_eq j n) [ inl e ↦ omega (arith, ap c e, sum_one c n i (omega arith)) | inr f ↦ omega (arith, two_terms_≤ c n i j l (omega (arith, f))) ]

-- a sum of at most 1 has one term at most that is not 0, and the other way round
pub one_term : (c : ℕ → ℕ) (n i j : ℕ) → sum c n ≤ 1 → i < n → j < n → 1 ≤ c i → 1 ≤ c j → i ≡ j
one_term c n i j h li lj ci cj = elim (cases_eq i j) [
  | inl e ↦ e
  | inr f ↦ elim (cases_lt i j) [
    | inl l ↦ absurd (omega (arith, two_terms_≤ c n i j l lj))
    | inr g ↦ absurd (omega (arith, two_terms_≤ c n j i (omega (arith, f, g)) li))
  ]
]

pub sum_≤1 : (c : ℕ → ℕ) (n : ℕ) → ((i : ℕ) → i < n → c i ≤ 1) → ((i j : ℕ) → i < n → j < n → 1 ≤ c i → 1 ≤ c j → i ≡ j) → sum c n ≤ 1
unfolding sum
sum_≤1 c zero h s = omega arith
sum_≤1 c (suc n) h s = elim (cases_lt 0 (c n)) [
  | inl k ↦ omega (arith, h n (omega arith), sum_zero c n (λ i l. none k i l))
  | inr f ↦ omega (arith, f, sum_≤1 c n (λ i l. h i (omega arith)) (λ i j l m. s i j (omega arith) (omega arith)))
]
  where
    none : 0 < c n → (i : ℕ) → i < n → c i ≡ 0
    none k i l = elim (cases_lt 0 (c i)) [ inl z ↦ absurd (omega (arith, s i n (omega arith) (omega arith) z k)) | inr f ↦ omega (arith, f) ]
