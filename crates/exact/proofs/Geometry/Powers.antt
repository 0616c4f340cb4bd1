-- The power of a place x to a left-turning triangle, incircle / orient: it grows where an edge is crossed, and where it does not, the two circles are one.
use Rattle.std.proofs.Common.{◌≡◌, Bool, true, false, [], ◌∷◌, ℤ, pos, ◌+ℤ◌, ◌-ℤ◌, ◌*ℤ◌, neg_ℤ, refl, ◌∙◌, ap₂, arith}
use Rattle.std.proofs.Math.IntN.{*ℤ_comm}
use Rattle.std.proofs.lemmas.Int.{ints}
use Rattle.exact.specs.Plane.{Point}
use Rattle.exact.proofs.Algebra.Signs.{Sign, ◌⊙◌, ◌⊞◌, ◌by◌, right_zero, cancel, cancel_zero, neg_neg}
use Rattle.exact.proofs.Geometry.Words.{W, orient, incircle, Site, Orient, Incircle, Left}
use Rattle.exact.proofs.Algebra.Ring.{ring, integers}
use Rattle.exact.proofs.Geometry.Identities.Circles.{cross_place, cross}

-- x is strictly right of a → b, and d, across it, is not inside the circle of a b c (strictly outside it): the power does not fall (it grows)
pub power_grows : {s : Bool} (a b c d : Site) (x : Point) → Sign true (W x) → Sign true (neg_ℤ (orient a.at b.at x)) → Sign s (neg_ℤ (Incircle a b c d)) →
    Sign s (incircle b.at a.at d.at x *ℤ Orient a b c -ℤ incircle a.at b.at c.at x *ℤ Orient b a d)
power_grows a b c d x w r o =
    w ⊙ w ⊙ w ⊙ neg_neg (orient a.at b.at x) (Incircle a b c d) r o
    by less (Orient a b c) (Orient b a d) (incircle b.at a.at d.at x) (incircle a.at b.at c.at x) (W x *ℤ W x *ℤ W x *ℤ (orient a.at b.at x *ℤ Incircle a b c d)) (cross_place a b c d x)
  where
    less : (p q i j m : ℤ) → p *ℤ i ≡ q *ℤ j +ℤ m → i *ℤ p -ℤ j *ℤ q ≡ m
    less p q i j m e = ap₂ ◌-ℤ◌ (*ℤ_comm i p ∙ e) (*ℤ_comm j q) ∙ gone (q *ℤ j) m
      where
        gone : (u v : ℤ) → u +ℤ v -ℤ u ≡ v
        gone u v = omega (arith, ints)

-- fractions i₁ / o₁ > i₂ / o₂ ≥ i₃ / o₃
pub power_trans : (i₁ i₂ i₃ o₁ o₂ o₃ : ℤ) → Sign true o₁ → Sign true o₂ → Sign true o₃ → Sign true (i₁ *ℤ o₂ -ℤ i₂ *ℤ o₁) → Sign false (i₂ *ℤ o₃ -ℤ i₃ *ℤ o₂) → Sign true (i₁ *ℤ o₃ -ℤ i₃ *ℤ o₁)
power_trans i₁ i₂ i₃ o₁ o₂ o₃ h₁ h₂ h₃ p q = cancel h₂ (h₃ ⊙ p ⊞ h₁ ⊙ q by middle)
  where
    middle : o₂ *ℤ (i₁ *ℤ o₃ -ℤ i₃ *ℤ o₁) ≡ o₃ *ℤ (i₁ *ℤ o₂ -ℤ i₂ *ℤ o₁) +ℤ o₁ *ℤ (i₂ *ℤ o₃ -ℤ i₃ *ℤ o₂)
    middle = ring (i₁ ∷ i₂ ∷ i₃ ∷ o₁ ∷ o₂ ∷ o₃ ∷ []) (search integers depth 20 fits 5000) refl

-- d is on the circle of a b c: that of b a d is the same
module _ (a b c d z : Site) (e : Incircle a b c d ≡ pos 0) where
  pub same_circle : Left a b c → Incircle a b c z ≡ pos 0 → Incircle b a d z ≡ pos 0
  same_circle abc f = cancel_zero abc (cross a b c d z ∙ ap₂ ◌+ℤ◌ (right_zero (Orient b a d) (Incircle a b c z) f) (right_zero (Orient a b z) (Incircle a b c d) e))

  pub same_circle_back : Left b a d → Incircle b a d z ≡ pos 0 → Incircle a b c z ≡ pos 0
  same_circle_back bad f =
      cancel_zero bad (first (Orient b a d *ℤ Incircle a b c z) (Orient a b z *ℤ Incircle a b c d) (Orient a b c *ℤ Incircle b a d z) (cross a b c d z)
      (right_zero (Orient a b z) (Incircle a b c d) e) (right_zero (Orient a b c) (Incircle b a d z) f))
    where
      first : (p q r : ℤ) → r ≡ p +ℤ q → q ≡ pos 0 → r ≡ pos 0 → p ≡ pos 0
      first p q r h k l = omega (arith, ints)
