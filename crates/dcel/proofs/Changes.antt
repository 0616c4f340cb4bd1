-- Functions changed at a list of places: what they are there, and elsewhere.
use Rattle.std.proofs.Common.{◌≡◌, ℕ, ◌⊎◌, [], ◌∷◌, sym, refl, subst, inl, inr, ⊎_elim}
use Rattle.std.proofs.lemmas.Bool.{eq-eqb, ne_eqb, cases_eq}
use Rattle.dcel.specs.Pairs.{Pairs, changed, reversed, All, Source, Target, Elsewhere, Apart}

-- a fact of each pair, at a place or at a value of the list
pub at_source : (P : ℕ → ℕ → Type 0) (ps : Pairs) → All P ps → (a : ℕ) → Source a ps → (b : ℕ) × P a b
at_source P [] h a k = absurd k
at_source P (p ∷ ps) h a (inl e) = (p.1, subst (λ x. P x p.1) (sym e) h.0)
at_source P (p ∷ ps) h a (inr k) = at_source P ps h.1 a k

pub at_target : (P : ℕ → ℕ → Type 0) (ps : Pairs) → All P ps → (b : ℕ) → Target b ps → (a : ℕ) × P a b
at_target P [] h b k = absurd k
at_target P (p ∷ ps) h b (inl e) = (p.0, subst (λ x. P p.0 x) (sym e) h.0)
at_target P (p ∷ ps) h b (inr k) = at_target P ps h.1 b k

-- two facts of each pair at once; a fact from another
pub both : (P Q : ℕ → ℕ → Type 0) (ps : Pairs) → All P ps → All Q ps → All (λ a b. P a b × Q a b) ps
both P Q [] g h = tt
both P Q (p ∷ ps) g h = ((g.0, h.0), both P Q ps g.1 h.1)

pub each : (P Q : ℕ → ℕ → Type 0) (ps : Pairs) → ((a b : ℕ) → P a b → Q a b) → All P ps → All Q ps
each P Q [] f h = tt
each P Q (p ∷ ps) f h = (f p.0 p.1 h.0, each P Q ps f h.1)

-- whether a is a place, or a value, is decided
pub source? : (a : ℕ) (ps : Pairs) → Source a ps ⊎ (Source a ps → ⊥)
source? a [] = inr (λ k. k)
source? a (p ∷ ps) = elim (cases_eq a p.0) [
  | inl e ↦ inl (inl e)
  | inr n ↦ elim (source? a ps) [ inl k ↦ inl (inr k) | inr f ↦ inr (⊎_elim n f) ]
]

pub target? : (a : ℕ) (ps : Pairs) → Target a ps ⊎ (Target a ps → ⊥)
target? a [] = inr (λ k. k)
target? a (p ∷ ps) = elim (cases_eq a p.1) [
  | inl e ↦ inl (inl e)
  | inr n ↦ elim (target? a ps) [ inl k ↦ inl (inr k) | inr f ↦ inr (⊎_elim n f) ]
]

pub elsewhere : (ps : Pairs) (x : ℕ) → Elsewhere x ps → Source x ps → ⊥
elsewhere [] x o k = k
elsewhere (p ∷ ps) x o (inl q) = o.0 q
elsewhere (p ∷ ps) x o (inr k) = elsewhere ps x o.1 k

-- one of three places
pub among_source : (x a b c : ℕ) (ps : Pairs) → (x ≡ a) ⊎ ((x ≡ b) ⊎ (x ≡ c)) → Source a ps → Source b ps → Source c ps → Source x ps
among_source x a b c ps (inl q) f g h = subst (λ y. Source y ps) (sym q) f
among_source x a b c ps (inr (inl q)) f g h = subst (λ y. Source y ps) (sym q) g
among_source x a b c ps (inr (inr q)) f g h = subst (λ y. Source y ps) (sym q) h

-- off the places nothing is changed; at the places, if these are apart, the values stand
pub changed_off : (ps : Pairs) (f : ℕ → ℕ) (j : ℕ) → (Source j ps → ⊥) → changed ps f j ≡ f j
unfolding changed
changed_off [] f j h = refl
changed_off (p ∷ ps) f j h = rw (ne_eqb j p.0 (λ e. h (inl e))) (changed_off ps f j (λ k. h (inr k)))

changed_more : (p : ℕ × ℕ) (ps qs : Pairs) (f : ℕ → ℕ) → Elsewhere p.0 qs → All (λ k v. changed ps f k ≡ v) qs → All (λ k v. changed (p ∷ ps) f k ≡ v) qs
unfolding changed
changed_more p ps [] f o h = tt
changed_more p ps (q ∷ qs) f o h = (rw (ne_eqb q.0 p.0 (λ e. o.0 (sym e))) h.0, changed_more p ps qs f o.1 h.1)

pub changed_at : (ps : Pairs) (f : ℕ → ℕ) → Apart ps → All (λ k v. changed ps f k ≡ v) ps
unfolding changed
changed_at [] f d = tt
changed_at (p ∷ ps) f d = (first, changed_more p ps ps f d.0 (changed_at ps f d.1))
  where
    first : changed (p ∷ ps) f p.0 ≡ p.1
    first = rw (eq-eqb p.0 p.0 refl)

-- a reversed list has the values for places
pub source_reversed : (a : ℕ) (ps : Pairs) → Source a (reversed ps) → Target a ps
source_reversed a [] k = k
source_reversed a (p ∷ ps) (inl e) = inl e
source_reversed a (p ∷ ps) (inr k) = inr (source_reversed a ps k)

pub all_reversed : (P : ℕ → ℕ → Type 0) (ps : Pairs) → All P (reversed ps) → All (λ a b. P b a) ps
all_reversed P [] h = tt
all_reversed P (p ∷ ps) h = (h.0, all_reversed P ps h.1)
