-- The tests of the walk, by signs, and a choice by a test.
use Rattle.std.proofs.Common.{◌≡◌, ℕ, Bool, true, false, List, pos, neg_ℤ, refl}
use Rattle.exact.specs.Plane.{pick, Point}
use Rattle.exact.specs.Verdicts.{scalar}
use Rattle.exact.proofs.Booleans.{true_false}
use Rattle.exact.proofs.Algebra.Signs.{Sign}
use Rattle.exact.proofs.Algebra.Tests.{below→, not_below→}
use Rattle.exact.proofs.Geometry.Words.{orient, dot}
use Rattle.exact.proofs.Geometry.Tests.{left→, not_left→, right→, not_right→, in_line→, in_line←}
use Rattle.dcel.specs.Layout.{Size}
use Rattle.delaunay.specs.Places.{from_of, to_of}
use Rattle.delaunay.specs.Walk.{right_at, on_at, left_at, passed}

-- what holds of both choices, each where its test leads to it, holds of the choice
pub picked : {A : Type 0} (P : A → Type 0) (b : Bool) (x y : A) → (b ≡ true → P x) → (b ≡ false → P y) → P (pick b x y)
picked P true x y f g = f refl
picked P false x y f g = g refl

module _ (s : Size) (m : List ℕ) (e : ℕ) (p : Point) where
  pub right_at→ : right_at s m e p ≡ true → Sign true (neg_ℤ (orient (from_of s m e) (to_of s m e) p))
  unfolding right_at
  right_at→ = right→ (from_of s m e) (to_of s m e) p

  pub not_right_at→ : right_at s m e p ≡ false → Sign false (orient (from_of s m e) (to_of s m e) p)
  unfolding right_at
  not_right_at→ = not_right→ (from_of s m e) (to_of s m e) p

  pub left_at→ : left_at s m e p ≡ true → Sign true (orient (from_of s m e) (to_of s m e) p)
  unfolding left_at
  left_at→ = left→ (from_of s m e) (to_of s m e) p

  pub not_left_at→ : left_at s m e p ≡ false → Sign false (neg_ℤ (orient (from_of s m e) (to_of s m e) p))
  unfolding left_at
  not_left_at→ = not_left→ (from_of s m e) (to_of s m e) p

  pub on_at→ : on_at s m e p ≡ true → orient (from_of s m e) (to_of s m e) p ≡ pos 0
  unfolding on_at
  on_at→ = in_line→ (from_of s m e) (to_of s m e) p

  pub not_on_at→ : on_at s m e p ≡ false → orient (from_of s m e) (to_of s m e) p ≡ pos 0 → ⊥
  unfolding on_at
  not_on_at→ f o = true_false (on_at s m e p) (in_line← (from_of s m e) (to_of s m e) p o) f

  pub passed→ : passed s m p e ≡ true → Sign true (neg_ℤ (dot (to_of s m e) (from_of s m e) p))
  unfolding passed dot
  passed→ = below→ (scalar (to_of s m e) (from_of s m e) p)

  pub not_passed→ : passed s m p e ≡ false → Sign false (dot (to_of s m e) (from_of s m e) p)
  unfolding passed dot
  not_passed→ = not_below→ (scalar (to_of s m e) (from_of s m e) p)
