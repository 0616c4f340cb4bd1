-- Circles and what is in a triangle, on the line of an edge, beyond an edge, or on two circles.
use Rattle.std.proofs.Common.{◌≡◌, true, false, ◌⊎◌, ℤ, pos, ◌+ℤ◌, ◌*ℤ◌, neg_ℤ, sym, ap, ◌∙◌, inl, inr, arith}
use Rattle.std.proofs.lemmas.Int.{ints}
use Rattle.exact.specs.Plane.{Point}
use Rattle.exact.proofs.Algebra.Signs.{Sign, ◌⊙◌, ◌by◌, weak, split, is_zero, strict_or_zero, clash, right_zero, cancel, cancel_zero, times_neg}
use Rattle.exact.proofs.Geometry.Words.{W, orient, incircle, dist², Within, Site, Orient, Incircle, Dist², Left, RightOn, On, Apart, Same, InTriangle, Between, dist²_sign, signs, W_site}
use Rattle.exact.proofs.Geometry.Identities.Sides.{weights_place}
use Rattle.exact.proofs.Geometry.Identities.Circles.{circle_weights_place, circle_line, pencil, cross, corner_on, two_circles, circle_by_corners_site}
use Rattle.exact.proofs.Geometry.Betweenness.{beyond_dot}

-- ---- a place in the closed triangle and no corner is strictly inside the circle
pub in_circle_place : (a b c : Site) (x : Point) → Sign true (W x) → Left a b c → Within false a.at b.at c.at x →
    Sign true (dist² a.at x) → Sign true (dist² b.at x) → Sign true (dist² c.at x) → Sign true (incircle a.at b.at c.at x)
in_circle_place a b c x w t i ax bx cx =
    let i₁ = i.ab in let i₂ = i.bc in let i₃ = i.ca in
    elim (split (orient a.at b.at x)) [
      | inl h ↦ search signs by circle_weights_place a b c x
      | inr h ↦ elim (split (orient b.at c.at x)) [
        | inl l ↦ search signs by circle_weights_place a b c x
        | inr l ↦
            let k : Sign true (W x *ℤ Orient a b c) = w ⊙ t in
            let m : Sign true (orient c.at a.at x) = omega (arith, ints, weights_place a b c x) in
            search signs by circle_weights_place a b c x
      ]
    ]

pub in_circle : (a b c z : Site) → Left a b c → InTriangle a b c z → Apart a z → Apart b z → Apart c z → Sign true (Incircle a b c z)
in_circle a b c z = in_circle_place a b c z.at (W_site z)

-- so what is in the closed triangle and not inside the circle is a corner
pub in_circle_corner : (a b c z : Site) → Left a b c → InTriangle a b c z → Sign false (neg_ℤ (Incircle a b c z)) → Same a z ⊎ Same b z ⊎ Same c z
in_circle_corner a b c z t i o = elim (strict_or_zero (Dist² a z) (dist²_sign a.at z.at)) [
  | inr e ↦ inl e
  | inl az ↦ elim (strict_or_zero (Dist² b z) (dist²_sign b.at z.at)) [
    | inr e ↦ inr (inl e)
    | inl bz ↦ elim (strict_or_zero (Dist² c z) (dist²_sign c.at z.at)) [
      | inr e ↦ inr (inr e)
      | inl cz ↦ absurd (clash (in_circle a b c z t i az bz cz) o)
    ]
  ]
]

-- ---- on the line of the edge a b: between its ends inside every circle through them, beyond them outside
pub between_circle : (a b c z : Site) → Left a b c → Between a b z → Sign true (Incircle a b c z)
between_circle a b c z t h = let o = h.on in let d = h.opposite in search signs by circle_line a b c z

pub beyond_circle : (a b c z : Site) → Left a b c → On a b z → Apart a z → Apart b z → (Between a b z → ⊥) → Sign true (neg_ℤ (Incircle a b c z))
beyond_circle a b c z t o az bz n = let d = beyond_dot a b z o az bz n in search signs by ap neg_ℤ (circle_line a b c z)

-- ---- circles through a and b
-- z is inside that of a b c, beyond a b, and p is inside it or on it: z is inside that of a b p
pub pencil_inside : (a b c p z : Site) → Left a b c → Left a b p → Sign true (Incircle a b c z) → RightOn a b z → Sign false (Incircle a b c p) → Sign true (Incircle a b p z)
pencil_inside a b c p z abc abp iz abz ip = cancel abc (search signs by pencil a b c p z)

-- z is inside that of a b c, beyond a b, and d, across a b, is not: z is inside that of b a d
pub cross_inside : (a b c d z : Site) → Left a b c → Left b a d → Sign true (Incircle a b c z) → RightOn a b z → Sign false (neg_ℤ (Incircle a b c d)) → Sign true (Incircle b a d z)
cross_inside a b c d z abc bad iz abz od = cancel abc (search signs by cross a b c d z)

-- ---- two circles, neither with a corner of the other triangle inside, and a place strictly inside the one triangle and in the other: they are one circle
module _ (a b c e f g : Site) where
  pub one_circle : (x : Point) → Within true a.at b.at c.at x → Within false e.at f.at g.at x →
      Sign false (neg_ℤ (Incircle e f g a)) → Sign false (neg_ℤ (Incircle e f g b)) → Sign false (neg_ℤ (Incircle e f g c)) →
      Sign false (neg_ℤ (Incircle a b c e)) → Sign false (neg_ℤ (Incircle a b c f)) → Sign false (neg_ℤ (Incircle a b c g)) →
      (Incircle e f g a ≡ pos 0) × (Incircle e f g b ≡ pos 0) × (Incircle e f g c ≡ pos 0)
  one_circle x i j p q r u v w =
      let s = six (orient b.at c.at x *ℤ Incircle e f g a) (orient c.at a.at x *ℤ Incircle e f g b) (orient a.at b.at x *ℤ Incircle e f g c)
      (orient f.at g.at x *ℤ Incircle a b c e) (orient g.at e.at x *ℤ Incircle a b c f) (orient e.at f.at x *ℤ Incircle a b c g)
      (two_circles a b c e f g x)
      (times_neg (orient b.at c.at x) (Incircle e f g a) (weak i.bc) p) (times_neg (orient c.at a.at x) (Incircle e f g b) (weak i.ca) q) (times_neg (orient a.at b.at x) (Incircle e f g c) (weak i.ab) r)
      (times_neg (orient f.at g.at x) (Incircle a b c e) j.bc u) (times_neg (orient g.at e.at x) (Incircle a b c f) j.ca v) (times_neg (orient e.at f.at x) (Incircle a b c g) j.ab w) in
      (is_zero (cancel i.bc s.0) p, is_zero (cancel i.ca s.1) q, is_zero (cancel i.ab s.2) r)
    where
      -- six that are not above 0 and whose sum is 0
      six : (a b c d e f : ℤ) → a +ℤ b +ℤ c +ℤ (d +ℤ e +ℤ f) ≡ pos 0 → Sign false (neg_ℤ a) → Sign false (neg_ℤ b) → Sign false (neg_ℤ c) → Sign false (neg_ℤ d) → Sign false (neg_ℤ e) → Sign false (neg_ℤ f) → Sign false a × Sign false b × Sign false c
      six a b c d e f h k l m n o p = (record { bound = omega (arith, ints) }, record { bound = omega (arith, ints) }, record { bound = omega (arith, ints) })

  -- a, b, c are on the circle of e f g, so e is on theirs
  pub one_circle_back : Left e f g → Incircle e f g a ≡ pos 0 → Incircle e f g b ≡ pos 0 → Incircle e f g c ≡ pos 0 → Incircle a b c e ≡ pos 0
  one_circle_back h p q r =
      cancel_zero h (last (Orient b c e *ℤ Incircle e f g a) (Orient c a e *ℤ Incircle e f g b) (Orient a b e *ℤ Incircle e f g c) (Orient e f g *ℤ Incircle a b c e)
      (sym (circle_by_corners_site a b c e f g e) ∙ right_zero (Orient a b c) (Incircle e f g e) (corner_on e f g))
      (right_zero (Orient b c e) (Incircle e f g a) p) (right_zero (Orient c a e) (Incircle e f g b) q) (right_zero (Orient a b e) (Incircle e f g c) r))
    where
      last : (a b c d : ℤ) → a +ℤ b +ℤ c +ℤ d ≡ pos 0 → a ≡ pos 0 → b ≡ pos 0 → c ≡ pos 0 → d ≡ pos 0
      last a b c d h k l m = omega (arith, ints)
