-- What a sign tells of a difference.
use Rattle.std.proofs.Common.{◌≡◌, Bool, true, false, not, ◌&&◌, sym, ℤ, pos, ◌-ℤ◌, ◌*ℤ◌, refl, ◌∙◌, arith, w64, SFits}
use Rattle.std.specs.Int.Signed.{lt_z}
use Rattle.std.proofs.lemmas.Int.{ints, to_z-of_z}
use Rattle.std.proofs.lemmas.Bool.Decides.{nat_tests}
use Rattle.exact.specs.Plane.{Diff, above_0, below_0, pick}
use Rattle.exact.specs.Signed.{sign_of}
use Rattle.exact.specs.Verdicts.{by_sign, side_told, circle_told, right?, left?, on?, inside?}
use Rattle.exact.specs.declared.signed.Sign.TheVariants.{Negative, Zero, Positive}
use Rattle.exact.specs.declared.verdict.Side.TheVariants as s
use Rattle.exact.specs.declared.verdict.Circle.TheVariants as o
use Rattle.exact.proofs.Algebra.Integers.{value, value_is}
use Rattle.exact.proofs.Vectors.{passed}

pub below_is : (d : Diff) → lt_z (value d) (pos 0) ≡ below_0 d
below_is d = let e = value_is d in grind (arith, ints, nat_tests)

above_is : (d : Diff) → lt_z (pos 0) (value d) ≡ above_0 d
above_is d = let e = value_is d in grind (arith, ints, nat_tests)

picked : {A : Type 0} (x y z : A) (b c : Bool) → by_sign x y z (pick b Negative (pick c Positive Zero)) ≡ pick b x (pick c z y)
picked x y z true c = refl
picked x y z false true = refl
picked x y z false false = refl

-- the sign of the integer tells what the difference tells
pub told : {A : Type 0} (x y z : A) (d : Diff) (v : ℤ) → v ≡ value d → by_sign x y z (sign_of v) ≡ pick (below_0 d) x (pick (above_0 d) z y)
told x y z d v e = simp (e, below_is d, above_is d) (picked x y z (below_0 d) (above_0 d))

-- words with a sign as they are passed on
pub passed_is : (v : ℤ) → SFits w64 v → passed v ≡ v
passed_is v f = to_z-of_z w64 v f

pub determinant_passed : (r a b c d : ℤ) → SFits w64 a → SFits w64 b → SFits w64 c → SFits w64 d → r ≡ passed a *ℤ passed d -ℤ passed b *ℤ passed c → r ≡ a *ℤ d -ℤ b *ℤ c
determinant_passed r a b c d f g h i e = e ∙ simp (to_z-of_z w64 a f, to_z-of_z w64 b g, to_z-of_z w64 c h, to_z-of_z w64 d i)

-- ---- a verdict and the tests that it stands for
not_both : (d : Diff) → below_0 d ≡ true → above_0 d ≡ false
not_both d e = grind (arith, nat_tests)

module _ (d : Diff) where
  pub right_told : right? (side_told d) ≡ below_0 d
  right_told = at (below_0 d) (above_0 d)
    where
      at : (b a : Bool) → right? (pick b s.Right (pick a s.Left s.On)) ≡ b
      at true a = refl
      at false true = refl
      at false false = refl

  pub left_told : left? (side_told d) ≡ above_0 d
  left_told = at (below_0 d) (above_0 d) (not_both d)
    where
      at : (b a : Bool) → (b ≡ true → a ≡ false) → left? (pick b s.Right (pick a s.Left s.On)) ≡ a
      at true a k = sym (k refl)
      at false true k = refl
      at false false k = refl

  pub on_told : on? (side_told d) ≡ (not (above_0 d) && not (below_0 d))
  on_told = at (below_0 d) (above_0 d)
    where
      at : (b a : Bool) → on? (pick b s.Right (pick a s.Left s.On)) ≡ (not a && not b)
      at true true = refl
      at true false = refl
      at false true = refl
      at false false = refl

  pub inside_told : inside? (circle_told d) ≡ above_0 d
  inside_told = at (below_0 d) (above_0 d) (not_both d)
    where
      at : (b a : Bool) → (b ≡ true → a ≡ false) → inside? (pick b o.Outside (pick a o.Inside o.On)) ≡ a
      at true a k = sym (k refl)
      at false true k = refl
      at false false k = refl
