-- The same place: two sites at distance 0 have the same coordinates, and the test `same_spot` says so.
use Rattle.std.proofs.Common.{◌≡◌, true, false, eqb, ◌⊎◌, ℤ, pos, ◌+ℤ◌, ◌*ℤ◌, sym, ◌∙◌, inl, inr, arith}
use Rattle.std.proofs.lemmas.Int.{ints}
use Rattle.exact.specs.Plane.{same_spot}
use Rattle.std.proofs.lemmas.Bool.{and_from, eqb-true, eq-eqb, false_from_ne_true}
use Rattle.exact.proofs.Booleans.{and_left, and_right, true_false}
use Rattle.exact.proofs.Algebra.Signs.{strict_or_zero, clash_zero, square_sign, square_zero}
use Rattle.exact.proofs.Geometry.Words.{X, Y, Δx, Δy, Site, Dist², Apart, Same, dist²_sign}
use Rattle.exact.proofs.Geometry.Identities.Dots.{dist²_Δ, Δx_site, Δy_site}

-- the same coordinate, of sites
module _ (a b : Site) where
  Δx→ : Δx a.at b.at ≡ pos 0 → a.at.x ≡ b.at.x
  unfolding X
  Δx→ e = omega (arith, ints, Δx_site a b)

  Δx← : a.at.x ≡ b.at.x → Δx a.at b.at ≡ pos 0
  unfolding X
  Δx← e = omega (arith, ints, Δx_site a b)

  Δy→ : Δy a.at b.at ≡ pos 0 → a.at.y ≡ b.at.y
  unfolding Y
  Δy→ e = omega (arith, ints, Δy_site a b)

  Δy← : a.at.y ≡ b.at.y → Δy a.at b.at ≡ pos 0
  unfolding Y
  Δy← e = omega (arith, ints, Δy_site a b)

zero_squares : {u v : ℤ} → u ≡ pos 0 → v ≡ pos 0 → u *ℤ u +ℤ v *ℤ v ≡ pos 0
zero_squares p q = λ i. p i *ℤ p i +ℤ q i *ℤ q i

module _ (a b : Site) where
  pub same_x : Same a b → a.at.x ≡ b.at.x
  same_x e = Δx→ a b (square_zero (Δx a.at b.at) (omega (arith, ints, dist²_Δ a.at b.at, square_sign (Δy a.at b.at))))

  pub same_y : Same a b → a.at.y ≡ b.at.y
  same_y e = Δy→ a b (square_zero (Δy a.at b.at) (omega (arith, ints, dist²_Δ a.at b.at, square_sign (Δx a.at b.at))))

  pub same_at : Same a b → a.at ≡ b.at
  same_at e = λ i. record { x = same_x e i; y = same_y e i; w = (a.whole ∙ sym b.whole) i }

  pub same_or_apart : Same a b ⊎ Apart a b
  same_or_apart = elim (strict_or_zero (Dist² a b) (dist²_sign a.at b.at)) [ inl h ↦ inr h | inr e ↦ inl e ]

  pub same_of : a.at.x ≡ b.at.x → a.at.y ≡ b.at.y → Same a b
  same_of p q = dist²_Δ a.at b.at ∙ zero_squares (Δx← a b p) (Δy← a b q)

  -- ---- the test
  pub same_spot→ : same_spot a.at b.at ≡ true → Same a b
  same_spot→ e =
      let x? = eqb a.at.x b.at.x in let y? = eqb a.at.y b.at.y in
      same_of (eqb-true a.at.x b.at.x (and_left x? y? e)) (eqb-true a.at.y b.at.y (and_right x? y? e))

  pub same_spot← : Same a b → same_spot a.at b.at ≡ true
  same_spot← e = and_from (eqb a.at.x b.at.x) (eqb a.at.y b.at.y) (eq-eqb a.at.x b.at.x (same_x e)) (eq-eqb a.at.y b.at.y (same_y e))

  pub not_same_spot→ : same_spot a.at b.at ≡ false → Apart a b
  not_same_spot→ e = elim same_or_apart [ inl s ↦ absurd (true_false (same_spot a.at b.at) (same_spot← s) e) | inr h ↦ h ]

  pub not_same_spot← : Apart a b → same_spot a.at b.at ≡ false
  not_same_spot← h = false_from_ne_true (same_spot a.at b.at) (λ e. clash_zero h (same_spot→ e))
