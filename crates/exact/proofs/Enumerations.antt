-- Lists by number, t 0 to t (n - 1): what is true of one number at most is counted once at most, and triangles that differ by number are not listed twice.
use Rattle.std.proofs.Common.{◌≡◌, ℕ, zero, suc, ◌+◌, ◌<◌, ◌≤◌, Bool, true, false, not, ◌⊎◌, List, [], ◌∷◌, ◌++◌, sym, refl, ap, ◌∙◌, ap₂, inl, inr, arith}
use Rattle.exact.specs.Plane.{any, each, up_to, Vertex, vertex_at, Tri, same_tri, no_twice}
use Rattle.std.proofs.lemmas.Bool.{cases_Bool, false_from_ne_true, and_from, not-true, not_from_false}
use Rattle.exact.proofs.Booleans.{bit, bit_≤1, and_left, and_right}
use Rattle.exact.proofs.Sums.{count_end}
use Rattle.exact.proofs.Lists.{In, any_false→, any_false←, in_append, each_in, up_to→, count, count_none}

pub each_append : {A B : Type 0} (t : A → B) (l m : List A) → each t (l ++ m) ≡ each t l ++ each t m
unfolding each
each_append t [] m = refl
each_append {A} {B} t (x ∷ l) m = ap {B = List B} (λ (k : List B). t x ∷ k) (each_append t l m)

pub each_more : {A : Type 0} (t : ℕ → A) (n : ℕ) → each t (up_to (suc n)) ≡ each t (up_to n) ++ t n ∷ []
unfolding up_to each
each_more t n = each_append t (up_to n) (n ∷ [])

-- from the first on
pub each_first : {A : Type 0} (t : ℕ → A) (n : ℕ) → each t (up_to (suc n)) ≡ t 0 ∷ each (λ i. t (suc i)) (up_to n)
unfolding up_to each
each_first t zero = refl
each_first {A} t (suc n) =
    each_more t (suc n) ∙ ap (λ (k : List A). k ++ t (suc n) ∷ []) (each_first t n) ∙ ap (λ (k : List A). t 0 ∷ k) (sym (each_more (λ i. t (suc i)) n))

pub each_same : {A : Type 0} (t u : ℕ → A) (n : ℕ) → ((j : ℕ) → j < n → t j ≡ u j) → each t (up_to n) ≡ each u (up_to n)
unfolding up_to each
each_same t u zero h = refl
each_same {A} t u (suc n) h =
    each_first t n ∙ ap₂ (λ (a : A) (l : List A). a ∷ l) (h 0 (omega arith)) (each_same (λ i. t (suc i)) (λ i. u (suc i)) n (λ j l. h (suc j) (omega arith))) ∙ sym (each_first u n)

-- one of them by its number
pub each_at : (t : ℕ → Vertex) (n j : ℕ) → j < n → vertex_at (each t (up_to n)) j ≡ t j
unfolding vertex_at
each_at t zero j h = absurd (omega arith)
each_at t (suc n) zero h = ap (λ (l : List Vertex). vertex_at l 0) (each_first t n)
each_at t (suc n) (suc j) h = ap (λ (l : List Vertex). vertex_at l (suc j)) (each_first t n) ∙ each_at (λ i. t (suc i)) n j (omega arith)

-- ---- counting
module _ {A : Type 0} (f : A → Bool) (t : ℕ → A) where
  count_more : (n : ℕ) → count f (each t (up_to (suc n))) ≡ bit (f (t n)) + count f (each t (up_to n))
  count_more n = ap (count f) (each_more t n) ∙ count_end f (each t (up_to n)) (t n)

  pub count_≤1 : (n : ℕ) → ((i j : ℕ) → i < n → j < n → f (t i) ≡ true → f (t j) ≡ true → i ≡ j) → count f (each t (up_to n)) ≤ 1
  unfolding count each up_to
  count_≤1 zero h = omega arith
  count_≤1 (suc n) h = go (count_≤1 n (λ i j k l. h i j (omega arith) (omega arith))) (cases_Bool (f (t n)))
    where
      none : f (t n) ≡ true → (a : A) → In a (each t (up_to n)) → f a ≡ false
      none e a m =
          let r = each_in t (up_to n) a m in let l = up_to→ n r.0 r.1 in
          false_from_ne_true (f a) (λ q. omega (arith, l, h r.0 n (omega (arith, l)) (omega arith) (sym (ap f r.2) ∙ q) e))

      go : count f (each t (up_to n)) ≤ 1 → (f (t n) ≡ true) ⊎ (f (t n) ≡ false) → count f (each t (up_to (suc n))) ≤ 1
      go ih (inl e) = omega (arith, count_more n, count_none f (each t (up_to n)) (none e), bit_≤1 (f (t n)))
      go ih (inr e) = omega (arith, count_more n, ap bit e)

-- ---- not twice
no_twice_more : (l : List Tri) (t : Tri) → no_twice l ≡ true → ((u : Tri) → In u l → same_tri u t ≡ false) → no_twice (l ++ t ∷ []) ≡ true
unfolding no_twice any
no_twice_more [] t h k = refl
no_twice_more (u ∷ l) t h k =
    let none = any (same_tri u) l in
    and_from (not (any (same_tri u) (l ++ t ∷ []))) (no_twice (l ++ t ∷ [])) (not_from_false (any (same_tri u) (l ++ t ∷ [])) (any_false← (same_tri u) (l ++ t ∷ []) (λ v i.
    elim (in_append v l (t ∷ []) i) [
      | inl j ↦ any_false→ (same_tri u) l (not-true none (and_left (not none) (no_twice l) h)) v j
      | inr j ↦ elim j [ inl q ↦ ap (same_tri u) q ∙ k u (inl refl) | inr q ↦ absurd q ]
    ]))) (no_twice_more l t (and_right (not none) (no_twice l) h) (λ v i. k v (inr i)))

pub no_twice_each : (t : ℕ → Tri) (n : ℕ) → ((i j : ℕ) → i < n → j < n → same_tri (t i) (t j) ≡ true → i ≡ j) → no_twice (each t (up_to n)) ≡ true
unfolding no_twice each up_to
no_twice_each t zero h = refl
no_twice_each t (suc n) h =
    ap no_twice (each_more t n) ∙ no_twice_more (each t (up_to n)) (t n) (no_twice_each t n (λ i j k l. h i j (omega arith) (omega arith))) (λ u i.
    let r = each_in t (up_to n) u i in let l = up_to→ n r.0 r.1 in
    false_from_ne_true (same_tri u (t n)) (λ q. omega (arith, l, h r.0 n (omega (arith, l)) (omega arith) (sym (ap (λ (v : Tri). same_tri v (t n)) r.2) ∙ q))))
