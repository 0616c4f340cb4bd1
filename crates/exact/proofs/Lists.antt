-- Lists: being in one, and what `every`, `any`, `those`, `each`, `up_to`, `◌++◌` and counting say of the elements.
use Rattle.std.proofs.Common.{◌≡◌, ℕ, zero, suc, ◌+◌, ◌<◌, ◌≤◌, Bool, true, false, ◌&&◌, eqb, ◌⊎◌, List, [], ◌∷◌, ◌++◌, length, length-append, sym, refl, ap, ◌∙◌, ap₂, inl, inr, true≢false, arith}
use Rattle.std.proofs.lemmas.Bool.{false≢true, cases_Bool, false_from_ne_true, and_from, eqb-true, eqb-false}
use Rattle.exact.specs.Plane.{pick, every, any, those, each, none_of, up_to}
use Rattle.exact.proofs.Booleans.{bit, bit_≤1, bit_mono, true_false, and_left, and_right, or→, or_left, or_right}

abbrev pub In : {A : Type 0} → A → List A → Type 0
In a [] = ⊥
In a (x ∷ l) = (a ≡ x) ⊎ In a l

-- ---- every, any
pub every→ : {A : Type 0} (f : A → Bool) (l : List A) → every f l ≡ true → (a : A) → In a l → f a ≡ true
unfolding every
every→ f [] e a i = absurd i
every→ f (x ∷ l) e a (inl p) = ap f p ∙ and_left (f x) (every f l) e
every→ f (x ∷ l) e a (inr i) = every→ f l (and_right (f x) (every f l) e) a i

pub every← : {A : Type 0} (f : A → Bool) (l : List A) → ((a : A) → In a l → f a ≡ true) → every f l ≡ true
unfolding every
every← f [] h = refl
every← f (x ∷ l) h = and_from (f x) (every f l) (h x (inl refl)) (every← f l (λ a i. h a (inr i)))

pub any→ : {A : Type 0} (f : A → Bool) (l : List A) → any f l ≡ true → (a : A) × In a l × (f a ≡ true)
unfolding any
any→ f [] e = absurd (false≢true e)
any→ {A} f (x ∷ l) e = go (or→ (f x) (any f l) e) (λ p. any→ f l p)
  where
    go : (f x ≡ true) ⊎ (any f l ≡ true) → (any f l ≡ true → (a : A) × In a l × (f a ≡ true)) → (a : A) × In a (x ∷ l) × (f a ≡ true)
    go (inl p) r = (x, inl refl, p)
    go (inr p) r = ((r p).0, inr (r p).1, (r p).2)

pub any← : {A : Type 0} (f : A → Bool) (l : List A) (a : A) → In a l → f a ≡ true → any f l ≡ true
unfolding any
any← f [] a i e = absurd i
any← f (x ∷ l) a (inl p) e = or_left (f x) (any f l) (sym (ap f p) ∙ e)
any← f (x ∷ l) a (inr i) e = or_right (f x) (any f l) (any← f l a i e)

pub any_false→ : {A : Type 0} (f : A → Bool) (l : List A) → any f l ≡ false → (a : A) → In a l → f a ≡ false
any_false→ f l e a i = false_from_ne_true (f a) (λ p. true_false (any f l) (any← f l a i p) e)

pub any_false← : {A : Type 0} (f : A → Bool) (l : List A) → ((a : A) → In a l → f a ≡ false) → any f l ≡ false
any_false← f l h = false_from_ne_true (any f l) (λ e. let r = any→ f l e in true_false (f r.0) r.2 (h r.0 r.1))

pub every_false→ : {A : Type 0} (f : A → Bool) (l : List A) → every f l ≡ false → (a : A) × In a l × (f a ≡ false)
unfolding every
every_false→ f [] e = absurd (true≢false e)
every_false→ {A} f (x ∷ l) e = go (f x) refl e (λ p. every_false→ f l p)
  where
    go : (b : Bool) → f x ≡ b → b && every f l ≡ false → (every f l ≡ false → (a : A) × In a l × (f a ≡ false)) → (a : A) × In a (x ∷ l) × (f a ≡ false)
    go true p e r = ((r e).0, inr (r e).1, (r e).2)
    go false p e r = (x, inl refl, p)

-- ---- append, each, up_to
pub in_left : {A : Type 0} (a : A) (l m : List A) → In a l → In a (l ++ m)
in_left a [] m i = absurd i
in_left a (x ∷ l) m (inl p) = inl p
in_left a (x ∷ l) m (inr i) = inr (in_left a l m i)

pub in_right : {A : Type 0} (a : A) (l m : List A) → In a m → In a (l ++ m)
in_right a [] m i = i
in_right a (x ∷ l) m i = inr (in_right a l m i)

pub in_append : {A : Type 0} (a : A) (l m : List A) → In a (l ++ m) → In a l ⊎ In a m
in_append a [] m i = inr i
in_append a (x ∷ l) m (inl p) = inl (inl p)
in_append a (x ∷ l) m (inr i) = go (in_append a l m i)
  where
    go : In a l ⊎ In a m → In a (x ∷ l) ⊎ In a m
    go (inl i) = inl (inr i)
    go (inr i) = inr i

pub in_each : {A B : Type 0} (f : A → B) (l : List A) (a : A) → In a l → In (f a) (each f l)
unfolding each
in_each f [] a i = absurd i
in_each f (x ∷ l) a (inl p) = inl (ap f p)
in_each f (x ∷ l) a (inr i) = inr (in_each f l a i)

pub each_in : {A B : Type 0} (f : A → B) (l : List A) (b : B) → In b (each f l) → (a : A) × In a l × (b ≡ f a)
unfolding each
each_in f [] b i = absurd i
each_in f (x ∷ l) b (inl p) = (x, inl refl, p)
each_in f (x ∷ l) b (inr i) = let r = each_in f l b i in (r.0, inr r.1, r.2)

pub up_to← : (n i : ℕ) → i < n → In i (up_to n)
unfolding up_to
up_to← zero i h = absurd (omega arith)
up_to← (suc n) i h = go (cases_Bool (eqb i n)) (λ l. up_to← n i l)
  where
    go : (eqb i n ≡ true) ⊎ (eqb i n ≡ false) → (i < n → In i (up_to n)) → In i (up_to n ++ n ∷ [])
    go (inl e) r = in_right i (up_to n) (n ∷ []) (inl (eqb-true i n e))
    go (inr e) r = in_left i (up_to n) (n ∷ []) (r (omega (arith, eqb-false i n e)))

pub up_to→ : (n i : ℕ) → In i (up_to n) → i < n
unfolding up_to
up_to→ zero i h = absurd h
up_to→ (suc n) i h = go (in_append i (up_to n) (n ∷ []) h) (λ k. up_to→ n i k)
  where
    go : In i (up_to n) ⊎ In i (n ∷ []) → (In i (up_to n) → i < n) → i < suc n
    go (inl k) r = omega (arith, r k)
    go (inr (inl e)) r = omega arith
    go (inr (inr k)) r = absurd k

-- ---- counting: as a sum of bits, which `omega` adds up case by case
unfoldable pub count : {A : Type 0} → (A → Bool) → List A → ℕ
count f [] = 0
count f (x ∷ l) = bit (f x) + count f l

pub count_≤length : {A : Type 0} (f : A → Bool) (l : List A) → count f l ≤ length l
unfolding count
count_≤length f [] = omega arith
count_≤length f (x ∷ l) = omega (arith, bit_≤1 (f x), count_≤length f l)

pub count_mono : {A : Type 0} (f g : A → Bool) (l : List A) → ((a : A) → In a l → f a ≡ true → g a ≡ true) → count f l ≤ count g l
unfolding count
count_mono f g [] h = omega arith
count_mono f g (x ∷ l) h = omega (arith, bit_mono (f x) (g x) (h x (inl refl)), count_mono f g l (λ a i. h a (inr i)))

pub count_strict : {A : Type 0} (f g : A → Bool) (l : List A) → ((a : A) → In a l → f a ≡ true → g a ≡ true) → (z : A) → In z l → f z ≡ false → g z ≡ true → count f l < count g l
unfolding count
count_strict f g [] h z i p q = absurd i
count_strict f g (x ∷ l) h z (inl e) p q =
    omega (arith, ap bit (sym (ap f e) ∙ p), ap bit (sym (ap g e) ∙ q), count_mono f g l (λ a i. h a (inr i)))
count_strict f g (x ∷ l) h z (inr i) p q =
    omega (arith, bit_mono (f x) (g x) (h x (inl refl)), count_strict f g l (λ a j. h a (inr j)) z i p q)

pub count_some : {A : Type 0} (f : A → Bool) (l : List A) (a : A) → In a l → f a ≡ true → 1 ≤ count f l
unfolding count
count_some f [] a i e = absurd i
count_some f (x ∷ l) a (inl p) e = omega (arith, ap bit (sym (ap f p) ∙ e))
count_some f (x ∷ l) a (inr i) e = omega (arith, count_some f l a i e)

pub count_none : {A : Type 0} (f : A → Bool) (l : List A) → ((a : A) → In a l → f a ≡ false) → count f l ≡ 0
unfolding count
count_none f [] h = refl
count_none f (x ∷ l) h = ap₂ ◌+◌ (ap bit (h x (inl refl))) (count_none f l (λ a i. h a (inr i)))

-- at most one: any two are the same
pub count_once : {A : Type 0} (f : A → Bool) (l : List A) → count f l ≤ 1 → (a b : A) → In a l → In b l → f a ≡ true → f b ≡ true → a ≡ b
unfolding count
count_once f [] h a b i j p q = absurd i
count_once f (x ∷ l) h a b (inl i) (inl j) p q = i ∙ sym j
count_once f (x ∷ l) h a b (inl i) (inr j) p q = absurd (omega (arith, ap bit (sym (ap f i) ∙ p), count_some f l b j q))
count_once f (x ∷ l) h a b (inr i) (inl j) p q = absurd (omega (arith, ap bit (sym (ap f j) ∙ q), count_some f l a i p))
count_once f (x ∷ l) h a b (inr i) (inr j) p q = count_once f l (omega arith) a b i j p q

-- ---- those, by counting
pick_length : {A : Type 0} (b : Bool) (x : A) (l : List A) → length (pick b (x ∷ l) l) ≡ bit b + length l
pick_length true x l = omega arith
pick_length false x l = omega arith

pub those_count : {A : Type 0} (f : A → Bool) (l : List A) → length (those f l) ≡ count f l
unfolding count those
those_count f [] = refl
those_count f (x ∷ l) = omega (arith, pick_length (f x) x (those f l), those_count f l)

pub those_once : {A : Type 0} (f : A → Bool) (l : List A) → length (those f l) ≤ 1 → (a b : A) → In a l → In b l → f a ≡ true → f b ≡ true → a ≡ b
those_once f l h = count_once f l (omega (arith, those_count f l))

pub none_of→ : {A : Type 0} (l : List A) → none_of l ≡ true → l ≡ []
unfolding none_of
none_of→ [] e = refl
none_of→ (x ∷ l) e = absurd (false≢true e)

-- ---- lengths
pub each_length : {A B : Type 0} (f : A → B) (l : List A) → length (each f l) ≡ length l
unfolding each
each_length f [] = refl
each_length f (x ∷ l) = ap suc (each_length f l)

pub up_to_length : (n : ℕ) → length (up_to n) ≡ n
unfolding up_to
up_to_length zero = refl
up_to_length (suc n) = omega (arith, length-append (up_to n) (n ∷ []), up_to_length n)
