-- Sites in the order of a linear function, u · x + v · y: its three terms with `orient`, places at the level of a site, and K · x + y, which tells different sites apart.
use Rattle.std.proofs.Common.{◌≡◌, ℕ, zero, suc, ◌+◌, ◌*◌, ◌<◌, ◌≤◌, true, false, eqb, ltb, List, [], ◌∷◌, length, ℤ, pos, ◌+ℤ◌, ◌-ℤ◌, ◌*ℤ◌, neg_ℤ, sym, refl, ap, ◌∙◌, ap₂, inl, inr, mul-le-mul_left, arith}
use Rattle.std.proofs.lemmas.Int.{ints}
use Rattle.exact.specs.Plane.{Point, Vertex, vertex_at, spot, all_apart}
use Rattle.std.proofs.lemmas.Bool.{cases_Bool, and_from, eq-eqb, ltb-true, ltb-false}
use Rattle.exact.proofs.Vertices.{same_number}
use Rattle.exact.proofs.Algebra.Integers.{neg_ℤ-*ℤ}
use Rattle.exact.proofs.Algebra.Ring.{ring}
use Rattle.exact.proofs.Algebra.Signs.{Sign, ◌⊙◌, ◌by◌, cancel_neg}
use Rattle.exact.proofs.Geometry.Words.{X, Y, W, orient, Within, Site, Orient, Left, RightOn, signs}
use Rattle.exact.proofs.Geometry.Reading.{sites, place, made_points}
use Rattle.exact.proofs.Geometry.Identities.Sides.{turn, start_on, end_on}
use Rattle.exact.proofs.Geometry.Moves.{toward, mix, orient_mix, on_moves, left_stays, reach, reach_bc}

abbrev pub level : ℤ → ℤ → Point → ℤ
level u v p = u *ℤ X p +ℤ v *ℤ Y p

module _ (u v : ℤ) where
  -- how much higher b is than a
  abbrev pub Rise : Site → Site → ℤ
  Rise a b = level u v b.at -ℤ level u v a.at

  abbrev pub Higher : Site → Site → Type 0
  Higher b a = Sign true (Rise a b)

  -- ---- three terms, seen from m: for a place x, and in the shapes in which signs are read
  pub level_place : (m g h : Site) (x : Point) → (level u v x -ℤ W x *ℤ level u v m.at) *ℤ Orient m g h ≡ Rise m g *ℤ orient m.at x h.at +ℤ Rise m h *ℤ orient m.at g.at x
  level_place m g h x = ring (u ∷ v ∷ place x (sites (m ∷ g ∷ h ∷ []))) (search made_points depth 30 fits 20000) refl

  pub level_out : (m g h z : Site) → Rise h m *ℤ Orient m z g +ℤ Rise m g *ℤ Orient m z h ≡ Orient m g h *ℤ Rise m z
  level_out m g h z = ring (u ∷ v ∷ sites (m ∷ g ∷ h ∷ z ∷ [])) (search made_points depth 30 fits 20000) refl

  pub level_in : (m g h z : Site) → Rise h m *ℤ Orient z m g +ℤ Rise m g *ℤ Orient z m h ≡ Orient m g h *ℤ Rise z m
  level_in m g h z = ring (u ∷ v ∷ sites (m ∷ g ∷ h ∷ z ∷ [])) (search made_points depth 30 fits 20000) refl

  pub level_turn : (m j g h : Site) → Rise m j *ℤ Orient m g h +ℤ Rise m g *ℤ Orient j m h +ℤ Rise h m *ℤ Orient j m g ≡ pos 0
  level_turn m j g h = ring (u ∷ v ∷ sites (m ∷ j ∷ g ∷ h ∷ [])) (search made_points depth 30 fits 20000) refl

  pub level_flat : (m g h z : Site) → Rise h m *ℤ Orient m g z ≡ Rise m g *ℤ Orient m z h +ℤ Rise z m *ℤ Orient m g h
  level_flat m g h z = ring (u ∷ v ∷ sites (m ∷ g ∷ h ∷ z ∷ [])) (search made_points depth 30 fits 20000) refl

  pub level_line : (m g a b c : Site) → Rise m g *ℤ Orient a b c ≡ Rise a b *ℤ (Orient m g c -ℤ Orient m g a) -ℤ Rise a c *ℤ (Orient m g b -ℤ Orient m g a)
  level_line m g a b c = ring (u ∷ v ∷ sites (m ∷ g ∷ a ∷ b ∷ c ∷ [])) (search made_points depth 30 fits 20000) refl

  pub level_most : (m a b z : Site) → Rise m a *ℤ Orient m b z ≡ Rise m b *ℤ Orient m a z -ℤ Rise m z *ℤ Orient m a b
  level_most m a b z = ring (u ∷ v ∷ sites (m ∷ a ∷ b ∷ z ∷ [])) (search made_points depth 30 fits 20000) refl

  -- all higher than m: to be not left of is passed on
  pub higher_right : (m a b z : Site) → Higher a m → Higher b m → Higher z m → RightOn m a z → Sign false (Orient m a b) → RightOn m b z
  higher_right m a b z ha hb hz maz mab = cancel_neg (Orient m b z) ha (search signs by ap neg_ℤ (level_most m a b z))

  -- ---- the place of m's level between g, which is higher, and h, which is lower; β and γ are the two rises
  module _ (m g h : Site) (β γ : ℕ) (e : Rise h m ≡ pos β) (f : Rise m g ≡ pos γ) where
    abbrev pub at_level : Point
    at_level = mix β g.at γ h.at

    pub at_level_out : (z : Site) → orient m.at z.at at_level ≡ Orient m g h *ℤ Rise m z
    at_level_out z = orient_mix m.at z.at g.at h.at β γ ∙ ap₂ (λ (p q : ℤ). p *ℤ Orient m z g +ℤ q *ℤ Orient m z h) (sym e) (sym f) ∙ level_out m g h z

    pub at_level_in : (z : Site) → orient z.at m.at at_level ≡ Orient m g h *ℤ Rise z m
    at_level_in z = orient_mix z.at m.at g.at h.at β γ ∙ ap₂ (λ (p q : ℤ). p *ℤ Orient z m g +ℤ q *ℤ Orient z m h) (sym e) (sym f) ∙ level_in m g h z

    -- from m a little towards it is strictly inside each triangle at m with its other corners above and below
    pub inside_level : Left m g h → (c d : Site) (n : ℕ) → Left m c d → Higher c m → Higher m d → reach m.at c.at d.at at_level ≤ n →
        Within true m.at c.at d.at (toward n m.at at_level)
    inside_level t c d n mcd hc hd r = record {
      ab = t ⊙ hc by (on_moves m.at c.at m.at at_level n (start_on m c) ∙ at_level_out c);
      bc = left_stays c.at d.at m.at at_level n (mcd by sym (turn m c d)) (omega (arith, reach_bc m.at c.at d.at at_level));
      ca = t ⊙ hd by (on_moves d.at m.at m.at at_level n (end_on d m) ∙ at_level_in d);
    }

-- ---- the other way up
pub level_neg : (u v : ℤ) (p : Point) → level (neg_ℤ u) (neg_ℤ v) p ≡ neg_ℤ (level u v p)
level_neg u v p = ap₂ ◌+ℤ◌ (neg_ℤ-*ℤ u (X p)) (neg_ℤ-*ℤ v (Y p)) ∙ sum (u *ℤ X p) (v *ℤ Y p)
  where
    sum : (a b : ℤ) → neg_ℤ a +ℤ neg_ℤ b ≡ neg_ℤ (a +ℤ b)
    sum a b = omega (arith, ints)

pub higher_neg : (u v : ℤ) (a b : Site) → Higher u v a b → Higher (neg_ℤ u) (neg_ℤ v) b a
higher_neg u v a b h = omega (arith, ints, level_neg u v a.at, level_neg u v b.at)

pub neg_higher : (u v : ℤ) (a b : Site) → Higher (neg_ℤ u) (neg_ℤ v) a b → Higher u v b a
neg_higher u v a b h = omega (arith, ints, level_neg u v a.at, level_neg u v b.at)

-- ---- K · x + y, for K above both y: the same level is the same place
same_digits : (K a b c d : ℕ) → b < K → d < K → K * a + b ≡ K * c + d → (a ≡ c) × (b ≡ d)
same_digits K a b c d lb ld e = elim (cases_Bool (ltb a c)) [
  | inl x ↦ absurd (omega (arith, mul-le-mul_left K (ltb-true a c x)))
  | inr x ↦ elim (cases_Bool (ltb c a)) [
    | inl y ↦ absurd (omega (arith, mul-le-mul_left K (ltb-true c a y)))
    | inr y ↦ same (omega (arith, ltb-false a c x, ltb-false c a y))
  ]
]
  where
    same : a ≡ c → (a ≡ c) × (b ≡ d)
    same p = (p, omega (arith, ap (λ (n : ℕ). K * n) p))

pub level_same : (K : ℕ) (p q : Point) → p.y < K → q.y < K → level (pos K) (pos 1) p ≡ level (pos K) (pos 1) q → (p.x ≡ q.x) × (p.y ≡ q.y)
unfolding X Y
level_same K p q lp lq e = same_digits K p.x p.y q.x q.y lp lq (omega (arith, ints))

-- ---- so with K above all y of a list, different vertices have different levels
pub bound_y : (vs : List Vertex) → (K : ℕ) × ((i : ℕ) → i < length vs → (spot vs i).y < K)
unfolding vertex_at
bound_y [] = (0, λ i l. absurd (omega arith))
bound_y (v ∷ vs) = (suc v.at.y + (bound_y vs).0, more (bound_y vs).0 (bound_y vs).1)
  where
    more : (K : ℕ) → ((i : ℕ) → i < length vs → (spot vs i).y < K) → (i : ℕ) → i < suc (length vs) → (vertex_at (v ∷ vs) i).at.y < suc v.at.y + K
    more K h zero l = omega arith
    more K h (suc i) l = omega (arith, h i (omega arith))

pub levels_apart : (vs : List Vertex) → all_apart vs ≡ true → (K : ℕ) → ((i : ℕ) → i < length vs → (spot vs i).y < K) →
    (i j : ℕ) → i < length vs → j < length vs → level (pos K) (pos 1) (spot vs i) ≡ level (pos K) (pos 1) (spot vs j) → i ≡ j
levels_apart vs apart K h i j li lj e =
    let r = level_same K (spot vs i) (spot vs j) (h i li) (h j lj) e in
    same_number vs apart i j li lj (and_from (eqb (spot vs i).x (spot vs j).x) (eqb (spot vs i).y (spot vs j).y) (eq-eqb (spot vs i).x (spot vs j).x r.0) (eq-eqb (spot vs i).y (spot vs j).y r.1))
