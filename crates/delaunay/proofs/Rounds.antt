-- Going round a vertex, over the half edges that leave it: those met since the first one are listed.
-- None is met twice, so they are no more than all half edges; and when the first comes again, all that leave the vertex were met.
use Rattle.std.proofs.Common.{◌≡◌, ℕ, zero, suc, ◌<◌, ◌≤◌, ◌≢◌, ◌⊎◌, List, [], ◌∷◌, length, sym, refl, ap, ◌∙◌, subst, inl, inr}
use Rattle.exact.proofs.Lists.{In}
use Rattle.exact.proofs.Pigeonhole.{Different, different_few}
use Rattle.dcel.specs.Map.{Map, twin}
use Rattle.dcel.specs.Mesh.{Sound, turns, Round}
use Rattle.dcel.proofs.Twins.{twin_twin}

-- the next half edge that leaves the vertex
abbrev pub turn : Map → ℕ → ℕ
turn m e = twin (m.prev e)

-- e is come to from g by turning; before it those of the list, the latest first, and g but once
abbrev pub Turned : Map → ℕ → ℕ → List ℕ → Type 0
Turned m g e [] = e ≡ g
Turned m g e (d ∷ l) = (e ≡ turn m d) × (e ≢ g) × Turned m g d l

module _ (m : Map) (S : Sound m) where
  pub turn_in : (e : ℕ) → e < m.half_edges → turn m e < m.half_edges
  turn_in e h = S.twin_in (m.prev e) (S.prev_in e h)

  pub turn_origin : (e : ℕ) → e < m.half_edges → m.origin (turn m e) ≡ m.origin e
  turn_origin e h = sym (S.origin_next (m.prev e) (S.prev_in e h)) ∙ ap m.origin (S.next_prev e h)

  pub turn_injective : (d e : ℕ) → d < m.half_edges → e < m.half_edges → turn m d ≡ turn m e → d ≡ e
  turn_injective d e h l q =
      let back : m.prev d ≡ m.prev e = sym (twin_twin (m.prev d)) ∙ ap twin q ∙ twin_twin (m.prev e) in
      sym (S.next_prev d h) ∙ ap m.next back ∙ S.next_prev e l

  -- ---- since g
  module _ (g : ℕ) (first : g < m.half_edges) where
    pub turned_in : (l : List ℕ) (e : ℕ) → Turned m g e l → (a : ℕ) → In a (e ∷ l) → a < m.half_edges
    turned_in [] e t a (inl q) = subst (λ (k : ℕ). k < m.half_edges) (sym (q ∙ t)) first
    turned_in [] e t a (inr i) = absurd i
    turned_in (d ∷ l) e t a (inl q) = subst (λ (k : ℕ). k < m.half_edges) (sym (q ∙ t.0)) (turn_in d (turned_in l d t.2 d (inl refl)))
    turned_in (d ∷ l) e t a (inr i) = turned_in l d t.2 a i

    pub turned_origin : (l : List ℕ) (e : ℕ) → Turned m g e l → m.origin e ≡ m.origin g
    turned_origin [] e t = ap m.origin t
    turned_origin (d ∷ l) e t = ap m.origin t.0 ∙ turn_origin d (turned_in l d t.2 d (inl refl)) ∙ turned_origin l d t.2

    -- each but the first comes from one before it
    comes_from : (l : List ℕ) (e : ℕ) → Turned m g e l → (a : ℕ) → In a (e ∷ l) → (a ≡ g) ⊎ ((b : ℕ) × In b l × (a ≡ turn m b))
    comes_from [] e t a (inl q) = inl (q ∙ t)
    comes_from [] e t a (inr i) = absurd i
    comes_from (d ∷ l) e t a (inl q) = inr (d, inl refl, q ∙ t.0)
    comes_from (d ∷ l) e t a (inr i) = elim (comes_from l d t.2 a i) [ inl q ↦ inl q | inr r ↦ inr (r.0, inr r.1, r.2) ]

    -- so none comes again
    pub turned_new : (l : List ℕ) (e : ℕ) → Turned m g e l → In e l → ⊥
    turned_new [] e t i = i
    turned_new (d ∷ l) e t i = go (comes_from l d t.2 e i) (turned_new l d t.2)
      where
        go : (e ≡ g) ⊎ ((b : ℕ) × In b l × (e ≡ turn m b)) → (In d l → ⊥) → ⊥
        go (inl q) new = t.1 q
        go (inr r) new =
            let here = turned_in l d t.2 in
            new (subst (λ (k : ℕ). In k l) (turn_injective r.0 d (here r.0 (inr r.1)) (here d (inl refl)) (sym r.2 ∙ t.0)) r.1)

    pub turned_different : (l : List ℕ) (e : ℕ) → Turned m g e l → Different (e ∷ l)
    turned_different [] e t = (turned_new [] e t, tt)
    turned_different (d ∷ l) e t = (turned_new (d ∷ l) e t, turned_different l d t.2)

    pub turned_few : (l : List ℕ) (e : ℕ) → Turned m g e l → suc (length l) ≤ m.half_edges
    turned_few l e t = different_few m.half_edges (e ∷ l) (turned_different l e t) (turned_in l e t)

    -- ---- when the first comes again
    first_in : (l : List ℕ) (e : ℕ) → Turned m g e l → In g (e ∷ l)
    first_in [] e t = inl (sym t)
    first_in (d ∷ l) e t = inr (first_in l d t.2)

    goes_on : (l : List ℕ) (e : ℕ) → Turned m g e l → (a : ℕ) → In a l → In (turn m a) (e ∷ l)
    goes_on [] e t a i = absurd i
    goes_on (d ∷ l) e t a (inl q) = inl (ap (turn m) q ∙ sym t.0)
    goes_on (d ∷ l) e t a (inr i) = inr (goes_on l d t.2 a i)

    module _ (l : List ℕ) (e : ℕ) (t : Turned m g e l) (again : turn m e ≡ g) where
      closed : (a : ℕ) → In a (e ∷ l) → In (turn m a) (e ∷ l)
      closed a (inl q) = subst (λ (k : ℕ). In k (e ∷ l)) (sym (ap (turn m) q ∙ again)) (first_in l e t)
      closed a (inr i) = goes_on l e t a i

      turns_in : (k a : ℕ) → In a (e ∷ l) → In (turns m k a) (e ∷ l)
      turns_in zero a i = i
      turns_in (suc k) a i = turns_in k (turn m a) (closed a i)

      pub all_turned : Round m → (h : ℕ) → h < m.half_edges → m.origin h ≡ m.origin g → In h (e ∷ l)
      all_turned R h below q =
          let r = R.round g h first below (sym q) in
          subst (λ (k : ℕ). In k (e ∷ l)) r.1 (turns_in r.0 g (first_in l e t))
