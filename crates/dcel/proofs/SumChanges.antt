-- Sums of which one or two terms are changed, and sums of small terms.
use Rattle.std.proofs.Common.{◌≡◌, ℕ, zero, suc, ◌+◌, ◌*◌, ◌<◌, ◌≤◌, ◌≢◌, [], ◌∷◌, sym, ap, ◌∙◌, inl, inr, arith}
use Rattle.std.proofs.lemmas.Bool.{cases_eq}
use Rattle.exact.specs.Sums.{sum}
use Rattle.exact.proofs.Sums.{sum_same, sum_mono, sum_const}
use Rattle.dcel.specs.Pairs.{changed}
use Rattle.dcel.proofs.Changes.{changed_at, changed_off, elsewhere}

pub one_change : (f g : ℕ → ℕ) (n k : ℕ) → k < n → ((i : ℕ) → i < n → i ≢ k → g i ≡ f i) → sum g n + f k ≡ sum f n + g k
unfolding sum
one_change f g zero k l h = absurd (omega arith)
one_change f g (suc n) k l h = elim (cases_eq n k) [
  | inl q ↦ omega (arith, ap f q, ap g q, sum_same g f n (λ i j. h i (omega arith) (omega arith)))
  | inr q ↦ omega (arith, h n (omega arith) q, one_change f g n k (omega arith) (λ i j. h i (omega arith)))
]

pub two_changes : (f g : ℕ → ℕ) (n j k : ℕ) → j < n → k < n → j ≢ k → ((i : ℕ) → i < n → i ≢ j → i ≢ k → g i ≡ f i) → sum g n + f j + f k ≡ sum f n + g j + g k
two_changes f g n j k lj lk ne same =
    omega (arith, one_change f middle n j lj (λ i l q. off i q), one_change middle g n k lk last, at_j, off k (λ q. ne (sym q)))
  where
    middle : ℕ → ℕ
    middle = changed ((j, g j) ∷ []) f

    at_j : middle j ≡ g j
    at_j = (changed_at ((j, g j) ∷ []) f (tt, tt)).0

    off : (i : ℕ) → i ≢ j → middle i ≡ f i
    off i q = changed_off ((j, g j) ∷ []) f i (elsewhere ((j, g j) ∷ []) i (q, tt))

    last : (i : ℕ) → i < n → i ≢ k → g i ≡ middle i
    last i l q = elim (cases_eq i j) [ inl r ↦ ap g r ∙ sym at_j ∙ ap middle (sym r) | inr r ↦ same i l r q ∙ sym (off i r) ]

pub sum_small : (f : ℕ → ℕ) (c n : ℕ) → ((i : ℕ) → i < n → f i ≤ c) → sum f n ≤ n * c
sum_small f c n h = omega (arith, sum_mono f (λ i. c) n h, sum_const c n)
