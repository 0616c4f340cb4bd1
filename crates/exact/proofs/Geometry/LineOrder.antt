-- Sites on one line in their order: how far each is along a → b, as an integer. What is between what is then plain order, for `omega`.
use Rattle.std.proofs.Common.{◌≡◌, true, false, ◌⊎◌, [], ◌∷◌, ℤ, pos, ◌+ℤ◌, ◌-ℤ◌, ◌*ℤ◌, neg_ℤ, sym, refl, ap, ◌∙◌, inl, inr, arith}
use Rattle.std.proofs.lemmas.Int.{ints}
use Rattle.exact.proofs.Algebra.Ring.{ring}
use Rattle.exact.proofs.Algebra.Signs.{Sign, ◌⊙◌, ◌by◌, split, split_below, clash_below, clash_zero, zero_sign, left_zero, right_zero, is_zero, cancel_neg, cancel_zero, times_neg, neg_neg}
use Rattle.exact.proofs.Geometry.Words.{Site, Orient, Dot, Dist², Right, RightOn, On, Apart, Same, Between, signs}
use Rattle.exact.proofs.Geometry.Reading.{sites, geometry}
use Rattle.exact.proofs.Geometry.Identities.Sides.{start_on, end_on}
use Rattle.exact.proofs.Geometry.Identities.Dots.{dot_same, weigh_ends}
use Rattle.exact.proofs.Geometry.Betweenness.{between_swap, between_forward, between_start_apart}
use Rattle.exact.proofs.Geometry.Spots.{same_of}
use Rattle.exact.proofs.Geometry.Line.{on_three}

abbrev pub Along : Site → Site → Site → ℤ
Along a b x = Dot a b x

-- z comes after u along a → b
abbrev pub Before : Site → Site → Site → Site → Type 0
Before a b u z = Sign true (Along a b z -ℤ Along a b u)

along_dot : (a b z u v : Site) →
    Dist² a b *ℤ Dot z u v ≡ (Along a b u -ℤ Along a b z) *ℤ (Along a b v -ℤ Along a b z) +ℤ (Orient a b u -ℤ Orient a b z) *ℤ (Orient a b v -ℤ Orient a b z)
along_dot a b z u v = ring (sites (a ∷ b ∷ z ∷ u ∷ v ∷ [])) (search geometry depth 20 fits 5000) refl

pub along_start : (a b : Site) → Along a b a ≡ pos 0
along_start a b = ring (sites (a ∷ b ∷ [])) (search geometry depth 20) refl

pub along_end : (a b : Site) → Along a b b ≡ Dist² a b
along_end a b = dot_same a.at b.at

opposite_signs : (x y : ℤ) → Sign true (neg_ℤ (x *ℤ y)) → (Sign true (neg_ℤ x) × Sign true y) ⊎ (Sign true (neg_ℤ y) × Sign true x)
opposite_signs x y h = elim (split x) [
  | inl p ↦ elim (split_below y) [ inl q ↦ absurd (clash_below (x *ℤ y) (p ⊙ q) h) | inr q ↦ inr (q, p) ]
  | inr p ↦ elim (split (neg_ℤ x)) [
    | inl q ↦ elim (split y) [ inl r ↦ inl (q, r) | inr r ↦ absurd (clash_below (x *ℤ y) (neg_neg x y p r) h) ]
    | inr q ↦ absurd (clash_below (x *ℤ y) (zero_sign (left_zero x y (omega (arith, ints)))) h)
  ]
]

module _ (a b : Site) (ab : Apart a b) where
  -- sites on the line: the second product is 0
  product : (z u v : Site) → On a b z → On a b u → Dist² a b *ℤ Dot z u v ≡ (Along a b u -ℤ Along a b z) *ℤ (Along a b v -ℤ Along a b z)
  product z u v oz ou =
      let flat : Orient a b u -ℤ Orient a b z ≡ pos 0 = omega (arith, ints) in
      let none = left_zero (Orient a b u -ℤ Orient a b z) (Orient a b v -ℤ Orient a b z) flat in
      omega (arith, ints, along_dot a b z u v)

  pub between_order : (u v z : Site) → On a b u → On a b z → Between u v z → (Before a b u z × Before a b z v) ⊎ (Before a b v z × Before a b z u)
  between_order u v z ou oz h = elim (opposite_signs (Along a b u -ℤ Along a b z) (Along a b v -ℤ Along a b z) (times_neg (Dist² a b) (Dot z u v) ab h.opposite by ap neg_ℤ (sym (product z u v oz ou)))) [
    | inl k ↦ (let p = k.0 in let q = k.1 in inl (omega (arith, ints), q))
    | inr k ↦ (let p = k.0 in let q = k.1 in inr (omega (arith, ints), q))
  ]

  pub order_between : (u v z : Site) → On a b u → On a b v → On a b z → Before a b u z → Before a b z v → Between u v z
  order_between u v z ou ov oz p q =
      let p' : Sign true (neg_ℤ (Along a b u -ℤ Along a b z)) = omega (arith, ints) in
      record { on = on_three a b u v z ab ou ov oz; opposite = cancel_neg (Dot z u v) ab (search signs by ap neg_ℤ (product z u v oz ou)) }

  pub order_same : (u v : Site) → On a b u → On a b v → Along a b u ≡ Along a b v → Same u v
  order_same u v ou ov q =
      let flat : Along a b v -ℤ Along a b u ≡ pos 0 = omega (arith, ints) in
      cancel_zero ab (ap (λ x. Dist² a b *ℤ x) (sym (dot_same u.at v.at)) ∙ product u v v ou ov ∙ left_zero _ _ flat)

  pub not_before : (u z : Site) → (Before a b u z → ⊥) → Sign false (Along a b u -ℤ Along a b z)
  not_before u z n = elim (split (Along a b z -ℤ Along a b u)) [ inl h ↦ absurd (n h) | inr h ↦ omega (arith, ints) ]

-- an end is not between
pub not_start : (a b : Site) → Between a b a → ⊥
not_start a b h = clash_zero (between_start_apart a b a h) (same_of a a refl refl)

pub not_end : (a b : Site) → Between a b b → ⊥
not_end a b h = not_start b a (between_swap a b b h)

-- ---- two edges with an inner place in common and no end inside the other have the same ends
module _ (u v : Site) (uv : Apart u v) (a b p : Site) (oa : On u v a) (ob : On u v b) (in_ab : Between a b p) (in_uv : Between u v p)
    (not_a : Between u v a → ⊥) (not_b : Between u v b → ⊥) (not_u : Between a b u → ⊥) (not_v : Between a b v → ⊥) where
  op : On u v p
  op = in_uv.on

  ou : On u v u
  ou = start_on u v

  ov : On u v v
  ov = end_on u v

  -- u comes first
  inner : Before u v u p × Before u v p v
  inner = elim (between_order u v uv u v p ou op in_uv) [
    | inl h ↦ h
    | inr h ↦ (let h₀ = h.0 in let h₁ = h.1 in absurd (omega (arith, ints, uv, along_start u v, along_end u v)))
  ]

  same_way : Before u v a p → Before u v p b → Same a u × Same b v
  same_way ap pb =
      let up = inner.0 in
      let pv = inner.1 in
      let a≤u = not_before u v uv u a (λ h. not_a (order_between u v uv u v a ou ov oa h (omega (arith, ints)))) in
      let u≤a = not_before u v uv a u (λ h. not_u (order_between u v uv a b u oa ob ou h (omega (arith, ints)))) in
      let v≤b = not_before u v uv b v (λ h. not_b (order_between u v uv u v b ou ov ob (omega (arith, ints)) h)) in
      let b≤v = not_before u v uv v b (λ h. not_v (order_between u v uv a b v oa ob ov (omega (arith, ints)) h)) in
      (order_same u v uv a u oa ou (omega (arith, ints)), order_same u v uv b v ob ov (omega (arith, ints)))

  other_way : Before u v b p → Before u v p a → Same a v × Same b u
  other_way bp pa =
      let up = inner.0 in
      let pv = inner.1 in
      let b≤u = not_before u v uv u b (λ h. not_b (order_between u v uv u v b ou ov ob h (omega (arith, ints)))) in
      let u≤b = not_before u v uv b u (λ h. not_u (between_swap b a u (order_between u v uv b a u ob oa ou h (omega (arith, ints))))) in
      let v≤a = not_before u v uv a v (λ h. not_a (order_between u v uv u v a ou ov oa (omega (arith, ints)) h)) in
      let a≤v = not_before u v uv v a (λ h. not_v (between_swap b a v (order_between u v uv b a v ob oa ov (omega (arith, ints)) h))) in
      (order_same u v uv a v oa ov (omega (arith, ints)), order_same u v uv b u ob ou (omega (arith, ints)))

  pub overlap : (Same a u × Same b v) ⊎ (Same a v × Same b u)
  overlap = elim (between_order u v uv a b p oa op in_ab) [ inl h ↦ inl (same_way h.0 h.1) | inr h ↦ inr (other_way h.0 h.1) ]

-- an edge with both ends right of a line or on it, and an inner place on it, is on it
pub ends_on : (a b p u v : Site) → Between a b p → On u v p → RightOn u v a → RightOn u v b → On u v a × On u v b
ends_on a b p u v h op ha hb =
    (is_zero (omega (arith, ints, not_strict (neg_ℤ (Orient u v a)) first)) ha, is_zero (omega (arith, ints, not_strict (neg_ℤ (Orient u v b)) second)) hb)
  where
    not_strict : (z : ℤ) → (Sign true z → ⊥) → Sign false (neg_ℤ z)
    not_strict z f = elim (split z) [ inl k ↦ absurd (f k) | inr k ↦ k ]

    weights : Dist² a b *ℤ Orient u v p ≡ Dot b p a *ℤ Orient u v a +ℤ Dot a p b *ℤ Orient u v b
    weights = let none = left_zero (Orient a b p) (Dot u v b -ℤ Dot u v a) h.on in omega (arith, ints, weigh_ends a b p u v)

    at_a : Sign true (Dot b p a)
    at_a = between_forward b a p (between_swap a b p h)

    at_b : Sign true (Dot a p b)
    at_b = between_forward a b p h

    flat : Dist² a b *ℤ Orient u v p ≡ pos 0
    flat = right_zero (Dist² a b) (Orient u v p) op

    first : Right u v a → ⊥
    first k = let x = at_a in let y = at_b in let r : Sign true (neg_ℤ (Dot b p a *ℤ Orient u v a +ℤ Dot a p b *ℤ Orient u v b)) = search signs in omega (arith, ints, r, weights, flat)

    second : Right u v b → ⊥
    second k = let x = at_a in let y = at_b in let r : Sign true (neg_ℤ (Dot b p a *ℤ Orient u v a +ℤ Dot a p b *ℤ Orient u v b)) = search signs in omega (arith, ints, r, weights, flat)
