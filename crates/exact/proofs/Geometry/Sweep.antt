-- Places swept from left to right: Δx u p is at least 0 if u is not right of p by its x. Edges that pass the level of p, the triangle over them, and two hull edges at one level.
use Rattle.std.proofs.Common.{◌≡◌, true, false, ◌⊎◌, [], ◌∷◌, ℤ, pos, ◌+ℤ◌, ◌-ℤ◌, ◌*ℤ◌, neg_ℤ, refl, ap, ◌∙◌, ap₂, inl, inr, arith}
use Rattle.std.proofs.lemmas.Int.{ints}
use Rattle.exact.specs.Plane.{Point}
use Rattle.exact.proofs.Algebra.Ring.{ring}
use Rattle.exact.proofs.Algebra.Signs.{Sign, ◌⊙◌, ◌⊞◌, ◌by◌, weak, split, is_zero, clash_zero, square_sign, left_zero, right_zero, cancel, cancel_zero}
use Rattle.exact.proofs.Geometry.Words.{W, Δx, Δy, orient, Within, Site, Orient, Dot, Dist², Left, LeftOn, On, Same, Between, signs}
use Rattle.exact.proofs.Geometry.Identities.Dots.{dist²_Δ}
use Rattle.exact.proofs.Geometry.Reading.{sites, place, geometry}

-- ---- identities: a, b, c are sites, x is a place
module _ (a b c : Site) (x : Point) where
  sweep_up : (Δx a.at x -ℤ Δx c.at x) *ℤ orient a.at b.at x ≡ W x *ℤ Δx a.at x *ℤ Orient a b c +ℤ (Δx a.at x -ℤ Δx b.at x) *ℤ orient a.at c.at x
  sweep_up = ring (place x (sites (a ∷ b ∷ c ∷ []))) (search geometry depth 20 fits 5000) refl

  sweep_down : (Δx b.at x -ℤ Δx a.at x) *ℤ orient c.at a.at x ≡ neg_ℤ (W x *ℤ Δx a.at x *ℤ Orient a b c) +ℤ (Δx c.at x -ℤ Δx a.at x) *ℤ orient b.at a.at x
  sweep_down = ring (place x (sites (a ∷ b ∷ c ∷ []))) (search geometry depth 20 fits 5000) refl

  pub sweep_weights : orient b.at c.at x *ℤ Δx a.at x +ℤ orient c.at a.at x *ℤ Δx b.at x +ℤ orient a.at b.at x *ℤ Δx c.at x ≡ pos 0
  sweep_weights = ring (place x (sites (a ∷ b ∷ c ∷ []))) (search geometry depth 20 fits 5000) refl

pub sweep_orient : (a b : Site) (x : Point) → W x *ℤ orient a.at b.at x ≡ Δx a.at x *ℤ (Δy a.at x -ℤ W x *ℤ Δy a.at b.at) -ℤ Δx b.at x *ℤ Δy a.at x
sweep_orient a b x = ring (place x (sites (a ∷ b ∷ []))) (search geometry depth 20 fits 5000) refl

sweep_step : (a b : Site) (x : Point) → W x *ℤ Δx a.at b.at ≡ Δx a.at x -ℤ Δx b.at x
sweep_step a b x = ring (place x (sites (a ∷ b ∷ []))) (search geometry depth 20) refl

sweep_dot : (a b c : Site) → Δx c.at b.at *ℤ neg_ℤ (Dot c a b) ≡ Δx a.at c.at *ℤ Dist² c b +ℤ Δy c.at b.at *ℤ Orient a b c
sweep_dot a b c = ring (sites (a ∷ b ∷ c ∷ [])) (search geometry depth 20 fits 5000) refl

sweep_along : (a b c : Site) → Δx a.at b.at *ℤ Δy a.at c.at ≡ Orient a b c +ℤ Δy a.at b.at *ℤ Δx a.at c.at
sweep_along a b c = ring (sites (a ∷ b ∷ c ∷ [])) (search geometry depth 20 fits 5000) refl

sweep_two : (a b c d : Site) → Δx c.at d.at *ℤ neg_ℤ (Orient a b c) ≡ Δx a.at c.at *ℤ Orient c d b +ℤ Δx c.at b.at *ℤ Orient c d a
sweep_two a b c d = ring (sites (a ∷ b ∷ c ∷ d ∷ [])) (search geometry depth 20 fits 5000) refl

-- ---- before and after a place
abbrev pub Before : Site → Point → Type 0
Before a x = Sign false (Δx a.at x)

abbrev pub After : Site → Point → Type 0
After a x = Sign true (neg_ℤ (Δx a.at x))

pub before_after : (a b : Site) (x : Point) → Sign true (W x) → Before a x → After b x → Sign true (Δx a.at b.at)
before_after a b x w la lb = cancel w (search signs by sweep_step a b x)

-- of the edges of a left-turning triangle from its one corner before x (after it): what has x on its left
pub left_from_before : (a b c : Site) (x : Point) → Sign true (W x) → Left a b c → Before a x → After b x → After c x → Sign false (orient a.at c.at x) → Sign false (orient a.at b.at x)
left_from_before a b c x w t la lb lc h = cancel {c = Δx a.at x -ℤ Δx c.at x} (search signs) (search signs by sweep_up a b c x)

pub left_from_after : (a b c : Site) (x : Point) → Sign true (W x) → Left a b c → After a x → Before b x → Before c x → Sign false (orient b.at a.at x) → Sign false (orient c.at a.at x)
left_from_after a b c x w t la lb lc h = cancel {c = Δx b.at x -ℤ Δx a.at x} (search signs) (search signs by sweep_down a b c x)

-- a place strictly inside is neither before all corners nor after them
module _ (a b c : Site) (x : Point) (i : Within true a.at b.at c.at x) where
  pub not_all_after : After a x → After b x → After c x → ⊥
  not_all_after l m n =
      let p = i.ab in let q = i.bc in let r = i.ca in
      let s : Sign true (neg_ℤ (orient b.at c.at x *ℤ Δx a.at x +ℤ orient c.at a.at x *ℤ Δx b.at x +ℤ orient a.at b.at x *ℤ Δx c.at x)) = search signs in
      clash_zero s (ap neg_ℤ (sweep_weights a b c x))

  pub not_all_before : Sign true (W x) → Before a x → Before b x → Before c x → ⊥
  not_all_before w l m n =
      clash_zero (w ⊙ i.ab) (sweep_orient a b x ∙ both (Δx a.at x) (Δx b.at x) (Δy a.at x -ℤ W x *ℤ Δy a.at b.at) (Δy a.at x) a_zero b_zero)
    where
      both : (p q r s : ℤ) → p ≡ pos 0 → q ≡ pos 0 → p *ℤ r -ℤ q *ℤ s ≡ pos 0
      both p q r s e f = ap₂ ◌-ℤ◌ (left_zero p r e) (left_zero q s f)

      -- of three that are not below 0 and whose sum is 0
      first : (p q r : ℤ) → p +ℤ q +ℤ r ≡ pos 0 → Sign false p → Sign false q → Sign false r → p ≡ pos 0
      first p q r e h k l = omega (arith, ints)

      second : (p q r : ℤ) → p +ℤ q +ℤ r ≡ pos 0 → Sign false p → Sign false q → Sign false r → q ≡ pos 0
      second p q r e h k l = omega (arith, ints)

      a_zero : Δx a.at x ≡ pos 0
      a_zero = cancel_zero i.bc (first (orient b.at c.at x *ℤ Δx a.at x) (orient c.at a.at x *ℤ Δx b.at x) (orient a.at b.at x *ℤ Δx c.at x) (sweep_weights a b c x) (weak i.bc ⊙ l) (weak i.ca ⊙ m) (weak i.ab ⊙ n))

      b_zero : Δx b.at x ≡ pos 0
      b_zero = cancel_zero i.ca (second (orient b.at c.at x *ℤ Δx a.at x) (orient c.at a.at x *ℤ Δx b.at x) (orient a.at b.at x *ℤ Δx c.at x) (sweep_weights a b c x) (weak i.bc ⊙ l) (weak i.ca ⊙ m) (weak i.ab ⊙ n))

-- ---- two edges a → b and c → d that pass the level of x, each with the other's ends on its left or on it: they begin at one place, or one begins strictly between the other's ends
-- c is on the line a → b, from a on and before b
pub on_rising : (a b c : Site) → Sign true (Δx a.at b.at) → Sign true (Δx c.at b.at) → Sign false (Δx a.at c.at) → On a b c → Same a c ⊎ Between a b c
on_rising a b c ab cb ac z = elim (split (Δx a.at c.at)) [
  | inl h ↦
      let cb² : Sign true (Dist² c b) = cb ⊙ cb ⊞ square_sign (Δy c.at b.at) by dist²_Δ c.at b.at in
      inr (record { on = z; opposite = cancel cb (search signs by sweep_dot a b c) })
  | inr h ↦
      let e = is_zero ac h in
      let f : Δy a.at c.at ≡ pos 0 = cancel_zero ab (sweep_along a b c ∙ ap₂ ◌+ℤ◌ z (right_zero (Δy a.at b.at) (Δx a.at c.at) e)) in
      inl (dist²_Δ a.at c.at ∙ ap₂ ◌+ℤ◌ (left_zero (Δx a.at c.at) (Δx a.at c.at) e) (left_zero (Δy a.at c.at) (Δy a.at c.at) f))
]

pub same_start : (a b c d : Site) (x : Point) → Sign true (W x) → Before a x → After b x → Before c x → After d x → Sign false (Δx a.at c.at) → LeftOn a b c → LeftOn c d a → LeftOn c d b → Same a c ⊎ Between a b c
same_start a b c d x w la lb lc ld ac abc cda cdb =
    on_rising a b c (before_after a b x w la lb) (before_after c b x w lc lb) ac
    (is_zero abc (cancel (before_after c d x w lc ld) (ac ⊙ cdb ⊞ weak (before_after c b x w lc lb) ⊙ cda by sweep_two a b c d)))
