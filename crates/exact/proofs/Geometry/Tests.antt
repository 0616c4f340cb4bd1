-- The tests of the definitions and the signs of the words, both ways, for points with any w. f→ reads a test, f← shows it.
use Rattle.std.proofs.Common.{◌≡◌, Bool, true, false, not, ◌&&◌, pos, neg_ℤ}
use Rattle.exact.specs.Plane.{Point, side, circle, left_of, right_of, in_line, inside_circle}
use Rattle.std.proofs.lemmas.Bool.{and_from, not-true, not_from_false}
use Rattle.exact.proofs.Booleans.{and_left, and_right, and3→, and3←}
use Rattle.exact.proofs.Algebra.Signs.{Sign, is_zero, zero_sign, zero_sign_neg}
use Rattle.exact.proofs.Algebra.Tests.{above→, above←, not_above→, not_above←, below→, below←, not_below→, not_below←}
use Rattle.exact.proofs.Geometry.Words.{orient, incircle, Within}

module _ (p q r : Point) where
  pub left→ : left_of p q r ≡ true → Sign true (orient p q r)
  unfolding orient
  left→ = above→ (side p q r)

  pub left← : Sign true (orient p q r) → left_of p q r ≡ true
  unfolding orient
  left← = above← (side p q r)

  pub not_left→ : left_of p q r ≡ false → Sign false (neg_ℤ (orient p q r))
  unfolding orient
  not_left→ = not_above→ (side p q r)

  pub not_left← : Sign false (neg_ℤ (orient p q r)) → left_of p q r ≡ false
  unfolding orient
  not_left← = not_above← (side p q r)

  pub right→ : right_of p q r ≡ true → Sign true (neg_ℤ (orient p q r))
  unfolding orient
  right→ = below→ (side p q r)

  pub right← : Sign true (neg_ℤ (orient p q r)) → right_of p q r ≡ true
  unfolding orient
  right← = below← (side p q r)

  pub not_right→ : right_of p q r ≡ false → Sign false (orient p q r)
  unfolding orient
  not_right→ = not_below→ (side p q r)

  pub not_right← : Sign false (orient p q r) → right_of p q r ≡ false
  unfolding orient
  not_right← = not_below← (side p q r)

  pub in_line→ : in_line p q r ≡ true → orient p q r ≡ pos 0
  in_line→ e =
      let l = left_of p q r in let m = right_of p q r in
      is_zero (not_right→ (not-true m (and_right (not l) (not m) e))) (not_left→ (not-true l (and_left (not l) (not m) e)))

  pub in_line← : orient p q r ≡ pos 0 → in_line p q r ≡ true
  in_line← e = and_from (not (left_of p q r)) (not (right_of p q r)) (not_from_false (left_of p q r) (not_left← (zero_sign_neg (orient p q r) e))) (not_from_false (right_of p q r) (not_right← (zero_sign e)))

module _ (p q r s : Point) where
  pub inside_circle→ : inside_circle p q r s ≡ true → Sign true (incircle p q r s)
  unfolding incircle
  inside_circle→ = above→ (circle p q r s)

  pub inside_circle← : Sign true (incircle p q r s) → inside_circle p q r s ≡ true
  unfolding incircle
  inside_circle← = above← (circle p q r s)

  pub not_inside_circle→ : inside_circle p q r s ≡ false → Sign false (neg_ℤ (incircle p q r s))
  unfolding incircle
  not_inside_circle→ = not_above→ (circle p q r s)

  pub not_inside_circle← : Sign false (neg_ℤ (incircle p q r s)) → inside_circle p q r s ≡ false
  unfolding incircle
  not_inside_circle← = not_above← (circle p q r s)

-- ---- a triangle by its three tests: in it or on its border, and strictly inside
module _ (a b c x : Point) where
  abbrev pub closed? : Bool
  closed? = not (right_of a b x) && (not (right_of b c x) && not (right_of c a x))

  abbrev pub inner? : Bool
  inner? = left_of a b x && (left_of b c x && left_of c a x)

  pub closed→ : closed? ≡ true → Within false a b c x
  closed→ e =
      let t = and3→ (not (right_of a b x)) (not (right_of b c x)) (not (right_of c a x)) e in
      record {
        ab = not_right→ a b x (not-true (right_of a b x) t.0);
        bc = not_right→ b c x (not-true (right_of b c x) t.1);
        ca = not_right→ c a x (not-true (right_of c a x) t.2);
      }

  pub closed← : Within false a b c x → closed? ≡ true
  closed← i =
      and3← (not (right_of a b x)) (not (right_of b c x)) (not (right_of c a x))
      (not_from_false (right_of a b x) (not_right← a b x i.ab)) (not_from_false (right_of b c x) (not_right← b c x i.bc)) (not_from_false (right_of c a x) (not_right← c a x i.ca))

  pub inner→ : inner? ≡ true → Within true a b c x
  inner→ e =
      let t = and3→ (left_of a b x) (left_of b c x) (left_of c a x) e in
      record { ab = left→ a b x t.0; bc = left→ b c x t.1; ca = left→ c a x t.2 }

  pub inner← : Within true a b c x → inner? ≡ true
  inner← i = and3← (left_of a b x) (left_of b c x) (left_of c a x) (left← a b x i.ab) (left← b c x i.bc) (left← c a x i.ca)
