-- Vertices by their numbers, and triangles of three numbers: reading `vertex_at`, `all_apart`, `same_tri` and `goes`, and a triangle from each of its corners.
use Rattle.std.proofs.Common.{◌≡◌, ℕ, zero, suc, ◌<◌, Bool, true, not, ◌&&◌, eqb, ◌⊎◌, List, [], ◌∷◌, length, sym, refl, ap, ◌∙◌, subst, inl, inr, arith}
use Rattle.exact.specs.Plane.{or, every, any, Point, Vertex, vertex_at, spot, all_apart, same_spot, Tri, same_tri, goes}
use Rattle.std.proofs.lemmas.Bool.{false_from_ne_true, and_from, not-true, not_from_false, eqb-true, eq-eqb}
use Rattle.exact.proofs.Booleans.{true_false, and_left, and_right, and3→, and3←, or→, or_left, or_right, eqb_same}
use Rattle.exact.proofs.Lists.{In, any→, any←, any_false→, any_false←}
use Rattle.exact.proofs.Geometry.Words.{Site}

-- ---- vertices
pub vertex_in : (vs : List Vertex) (i : ℕ) → i < length vs → In (vertex_at vs i) vs
unfolding vertex_at
vertex_in [] i h = absurd (omega arith)
vertex_in (v ∷ vs) zero h = inl refl
vertex_in (v ∷ vs) (suc i) h = inr (vertex_in vs i (omega arith))

pub vertex_number : (vs : List Vertex) (v : Vertex) → In v vs → (i : ℕ) × (i < length vs) × (vertex_at vs i ≡ v)
unfolding vertex_at
vertex_number [] v i = absurd i
vertex_number (u ∷ vs) v (inl p) = (0, omega arith, sym p)
vertex_number (u ∷ vs) v (inr i) = let r = vertex_number vs v i in (suc r.0, omega (arith, r.1), r.2)

-- w = 1 for all numbers, also past the end
pub spot_whole : (vs : List Vertex) → every (λ v. eqb v.at.w 1) vs ≡ true → (i : ℕ) → (spot vs i).w ≡ 1
unfolding vertex_at every
spot_whole [] e i = refl
spot_whole (v ∷ vs) e zero = eqb-true v.at.w 1 (and_left (eqb v.at.w 1) (every (λ v. eqb v.at.w 1) vs) e)
spot_whole (v ∷ vs) e (suc i) = spot_whole vs (and_right (eqb v.at.w 1) (every (λ v. eqb v.at.w 1) vs) e) i

abbrev pub site : (vs : List Vertex) → ((i : ℕ) → (spot vs i).w ≡ 1) → ℕ → Site
site vs h i = record { at = spot vs i; whole = h i }

pub same_spot_swap : (p q : Point) → same_spot p q ≡ true → same_spot q p ≡ true
same_spot_swap p q e =
    let x? = eqb p.x q.x in let y? = eqb p.y q.y in
    and_from (eqb q.x p.x) (eqb q.y p.y) (eq-eqb q.x p.x (sym (eqb-true p.x q.x (and_left x? y? e)))) (eq-eqb q.y p.y (sym (eqb-true p.y q.y (and_right x? y? e))))

-- vertices at the same spot have the same number
no_other : (v : Vertex) (vs : List Vertex) → not (any (λ u. same_spot v.at u.at) vs) && all_apart vs ≡ true → (j : ℕ) → j < length vs → same_spot v.at (spot vs j) ≡ true → ⊥
no_other v vs h j l e =
    let others = any (λ u. same_spot v.at u.at) vs in
    true_false (same_spot v.at (spot vs j)) e (any_false→ (λ u. same_spot v.at u.at) vs (not-true others (and_left (not others) (all_apart vs) h)) (vertex_at vs j) (vertex_in vs j l))

pub same_number : (vs : List Vertex) → all_apart vs ≡ true → (i j : ℕ) → i < length vs → j < length vs → same_spot (spot vs i) (spot vs j) ≡ true → i ≡ j
unfolding all_apart vertex_at
same_number [] h i j l m e = absurd (omega arith)
same_number (v ∷ vs) h zero zero l m e = refl
same_number (v ∷ vs) h zero (suc j) l m e = absurd (no_other v vs h j (omega arith) e)
same_number (v ∷ vs) h (suc i) zero l m e = absurd (no_other v vs h i (omega arith) (same_spot_swap (spot vs i) v.at e))
same_number (v ∷ vs) h (suc i) (suc j) l m e = ap suc (same_number vs (and_right (not (any (λ u. same_spot v.at u.at) vs)) (all_apart vs) h) i j (omega arith) (omega arith) e)

-- and if no two numbers share a spot, they are apart
pub all_apart← : (vs : List Vertex) → ((i j : ℕ) → i < length vs → j < length vs → same_spot (spot vs i) (spot vs j) ≡ true → i ≡ j) → all_apart vs ≡ true
unfolding all_apart vertex_at
all_apart← [] h = refl
all_apart← (v ∷ vs) h =
    and_from (not (any (λ u. same_spot v.at u.at) vs)) (all_apart vs)
    (not_from_false (any (λ u. same_spot v.at u.at) vs) (any_false← (λ u. same_spot v.at u.at) vs (λ u i. false_from_ne_true (same_spot v.at u.at) (λ e.
    let r = vertex_number vs u i in
    let z : 0 ≡ suc r.0 = h 0 (suc r.0) (omega arith) (omega (arith, r.1)) (ap (λ (w : Vertex). same_spot v.at w.at) r.2 ∙ e) in
    omega arith))))
    (all_apart← vs (λ i j l m e. let z : suc i ≡ suc j = h (suc i) (suc j) (omega arith) (omega arith) e in omega arith))

-- ---- triangles that are the same
pub same_tri→ : (t u : Tri) → same_tri t u ≡ true → t ≡ u
same_tri→ t u e =
    let r = and3→ (eqb t.one u.one) (eqb t.two u.two) (eqb t.three u.three) e in
    λ i. record { one = eqb-true t.one u.one r.0 i; two = eqb-true t.two u.two r.1 i; three = eqb-true t.three u.three r.2 i }

pub same_tri← : (t : Tri) → same_tri t t ≡ true
same_tri← t = and3← (eqb t.one t.one) (eqb t.two t.two) (eqb t.three t.three) (eqb_same t.one) (eqb_same t.two) (eqb_same t.three)

pub one_of→ : (ts : List Tri) (t : Tri) → any (same_tri t) ts ≡ true → In t ts
one_of→ ts t e = let r = any→ (same_tri t) ts e in subst (λ (u : Tri). In u ts) (sym (same_tri→ t r.0 r.2)) r.1

pub one_of← : (ts : List Tri) (t : Tri) → In t ts → any (same_tri t) ts ≡ true
one_of← ts t i = any← (same_tri t) ts t i (same_tri← t)

-- ---- the corners of a triangle in turn: the edge k goes from the corner k to the corner next k
pub data Turn : Type 0 where
  at_one : Turn
  at_two : Turn
  at_three : Turn

abbrev pub next : Turn → Turn
next at_one = at_two
next at_two = at_three
next at_three = at_one

abbrev pub corner : Turn → Tri → ℕ
corner at_one t = t.one
corner at_two t = t.two
corner at_three t = t.three

pub next_round : (k : Turn) → next (next (next k)) ≡ k
next_round at_one = refl
next_round at_two = refl
next_round at_three = refl

pub which : (j i : Turn) → (i ≡ j) ⊎ ((i ≡ next j) ⊎ (i ≡ next (next j)))
which at_one at_one = inl refl
which at_one at_two = inr (inl refl)
which at_one at_three = inr (inr refl)
which at_two at_one = inr (inr refl)
which at_two at_two = inl refl
which at_two at_three = inr (inl refl)
which at_three at_one = inr (inl refl)
which at_three at_two = inr (inr refl)
which at_three at_three = inl refl

-- a, b, c are the corners of t, from a on
pub data Rot (t : Tri) : ℕ → ℕ → ℕ → Type 0 where
  rot₁ : Rot t t.one t.two t.three
  rot₂ : Rot t t.two t.three t.one
  rot₃ : Rot t t.three t.one t.two

pub rot : (t : Tri) (k : Turn) → Rot t (corner k t) (corner (next k) t) (corner (next (next k)) t)
rot t at_one = rot₁
rot t at_two = rot₂
rot t at_three = rot₃

pub rot_next : (t : Tri) (a b c : ℕ) → Rot t a b c → Rot t b c a
rot_next t a b c rot₁ = rot₂
rot_next t a b c rot₂ = rot₃
rot_next t a b c rot₃ = rot₁

-- each corner is one of three that the triangle has
pub rot_cases : (t : Tri) (a b c : ℕ) → Rot t a b c → (s d e : ℕ) → Rot t s d e → (s ≡ a) ⊎ ((s ≡ b) ⊎ (s ≡ c))
rot_cases t a b c rot₁ s d e rot₁ = inl refl
rot_cases t a b c rot₁ s d e rot₂ = inr (inl refl)
rot_cases t a b c rot₁ s d e rot₃ = inr (inr refl)
rot_cases t a b c rot₂ s d e rot₁ = inr (inr refl)
rot_cases t a b c rot₂ s d e rot₂ = inl refl
rot_cases t a b c rot₂ s d e rot₃ = inr (inl refl)
rot_cases t a b c rot₃ s d e rot₁ = inr (inl refl)
rot_cases t a b c rot₃ s d e rot₂ = inr (inr refl)
rot_cases t a b c rot₃ s d e rot₃ = inl refl

-- ---- the edge from a to b of t
pub record Edge (t : Tri) (a b : ℕ) : Type 0 where
  pub turn_at : Turn
  pub from : corner turn_at t ≡ a
  pub to : corner (next turn_at) t ≡ b

two_are : (m n a b : ℕ) → (eqb m a && eqb n b) ≡ true → (m ≡ a) × (n ≡ b)
two_are m n a b e = (eqb-true m a (and_left (eqb m a) (eqb n b) e), eqb-true n b (and_right (eqb m a) (eqb n b) e))

are_two : (m n : ℕ) → (eqb m m && eqb n n) ≡ true
are_two m n = and_from (eqb m m) (eqb n n) (eqb_same m) (eqb_same n)

pub goes→ : (t : Tri) (a b : ℕ) → goes t a b ≡ true → Edge t a b
goes→ t a b e = elim (or→ first? (or second? third?) e) [
  | inl h ↦ let z = two_are t.one t.two a b h in record { turn_at = at_one; from = z.0; to = z.1 }
  | inr r ↦ elim (or→ second? third? r) [
    | inl h ↦ let z = two_are t.two t.three a b h in record { turn_at = at_two; from = z.0; to = z.1 }
    | inr h ↦ let z = two_are t.three t.one a b h in record { turn_at = at_three; from = z.0; to = z.1 }
  ]
]
  where
    first? : Bool
    first? = eqb t.one a && eqb t.two b

    second? : Bool
    second? = eqb t.two a && eqb t.three b

    third? : Bool
    third? = eqb t.three a && eqb t.one b

pub goes← : (t : Tri) (k : Turn) → goes t (corner k t) (corner (next k) t) ≡ true
goes← t at_one = or_left (eqb t.one t.one && eqb t.two t.two) _ (are_two t.one t.two)
goes← t at_two = or_right (eqb t.one t.two && eqb t.two t.three) _ (or_left (eqb t.two t.two && eqb t.three t.three) _ (are_two t.two t.three))
goes← t at_three = or_right (eqb t.one t.three && eqb t.two t.one) _ (or_right (eqb t.two t.three && eqb t.three t.one) _ (are_two t.three t.one))

pub goes_rot : (t : Tri) (a b : ℕ) → goes t a b ≡ true → (c : ℕ) × Rot t a b c
goes_rot t a b e =
    let z = goes→ t a b e in
    (corner (next (next z.turn_at)) t, subst (λ (n : ℕ). Rot t a n (corner (next (next z.turn_at)) t)) z.to (subst (λ (n : ℕ). Rot t n (corner (next z.turn_at) t) (corner (next (next z.turn_at)) t)) z.from (rot t z.turn_at)))

pub rot_goes : (t : Tri) (a b c : ℕ) → Rot t a b c → goes t a b ≡ true
rot_goes t a b c rot₁ = goes← t at_one
rot_goes t a b c rot₂ = goes← t at_two
rot_goes t a b c rot₃ = goes← t at_three
