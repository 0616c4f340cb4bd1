-- Sites that turn clockwise round a place, all on one side of the vertical line through it: a strict order.
use Rattle.std.proofs.Common.{◌≡◌, true, false, [], ◌∷◌, pos, ◌+ℤ◌, ◌-ℤ◌, ◌*ℤ◌, neg_ℤ, refl, ap, ◌∙◌, ap₂}
use Rattle.exact.specs.Plane.{Point, right_of}
use Rattle.exact.proofs.Algebra.Ring.{ring}
use Rattle.exact.proofs.Algebra.Signs.{Sign, ◌⊙◌, ◌⊞◌, ◌by◌, clash_zero, zero_sign, left_zero, cancel, cancel_zero}
use Rattle.exact.proofs.Geometry.Words.{W, Δx, Δy, orient, Site}
use Rattle.exact.proofs.Geometry.Reading.{sites, place, places, geometry}
use Rattle.exact.proofs.Geometry.Tests.{not_right←}
use Rattle.exact.proofs.Geometry.Sweep.{Before, After, sweep_orient}

-- the place is strictly right of a → b
abbrev pub Clockwise : Site → Site → Point → Type 0
Clockwise a b x = Sign true (neg_ℤ (orient a.at b.at x))

pub not_right_self : (p x : Point) → right_of p p x ≡ false
not_right_self p x = not_right← p p x (zero_sign (ring (places (p ∷ x ∷ [])) (search geometry depth 20) refl))

module _ (a b c : Site) (x : Point) where
  three_round : Δx b.at x *ℤ neg_ℤ (orient a.at c.at x) ≡ Δx a.at x *ℤ neg_ℤ (orient b.at c.at x) +ℤ Δx c.at x *ℤ neg_ℤ (orient a.at b.at x)
  three_round = ring (place x (sites (a ∷ b ∷ c ∷ []))) (search geometry depth 20 fits 5000) refl

  three_round_neg : neg_ℤ (Δx b.at x) *ℤ neg_ℤ (orient a.at c.at x) ≡ neg_ℤ (Δx a.at x) *ℤ neg_ℤ (orient b.at c.at x) +ℤ neg_ℤ (Δx c.at x) *ℤ neg_ℤ (orient a.at b.at x)
  three_round_neg = ring (place x (sites (a ∷ b ∷ c ∷ []))) (search geometry depth 20 fits 5000) refl

  pub clockwise_before : Sign true (Δx a.at x) → Sign true (Δx b.at x) → Sign true (Δx c.at x) → Clockwise a b x → Clockwise b c x → Clockwise a c x
  clockwise_before la lb lc ab bc = cancel lb (la ⊙ bc ⊞ lc ⊙ ab by three_round)

  pub clockwise_after : After a x → After b x → After c x → Clockwise a b x → Clockwise b c x → Clockwise a c x
  clockwise_after la lb lc ab bc = cancel lb (la ⊙ bc ⊞ lc ⊙ ab by three_round_neg)

  -- so on the line itself there is none between two that are not after it, the first strictly before
  pub clockwise_strict : Sign true (Δx a.at x) → Before c x → Clockwise a b x → Clockwise b c x → Δx b.at x ≡ pos 0 → ⊥
  clockwise_strict la lc ab bc e = clash_zero (la ⊙ bc ⊞ lc ⊙ ab by three_round) (left_zero (Δx b.at x) (neg_ℤ (orient a.at c.at x)) e)

-- two on the line are in one line with the place
pub clockwise_off_line : (a b : Site) (x : Point) → Sign true (W x) → Clockwise a b x → Δx a.at x ≡ pos 0 → Δx b.at x ≡ pos 0 → ⊥
clockwise_off_line a b x w h e f = clash_zero h (ap neg_ℤ (cancel_zero w (sweep_orient a b x ∙ ap₂ ◌-ℤ◌ (left_zero (Δx a.at x) (Δy a.at x -ℤ W x *ℤ Δy a.at b.at) e) (left_zero (Δx b.at x) (Δy a.at x) f))))
