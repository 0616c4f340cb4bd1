-- The words of the geometry: integers of points that stay shut, points with w = 1, and what is said of them by signs.
-- orient p q r is above 0 if r is left of p → q; incircle p q r s if s is inside the circle of the left-turning p, q, r; dist² is the squared distance; dot o p q is the product (p − o) · (q − o).
use Rattle.std.proofs.Common.{◌≡◌, ◌≤◌, Bool, true, false, ℤ, pos, ◌+ℤ◌, ◌*ℤ◌, neg_ℤ, ap, ◌∙◌, arith}
use Rattle.std.proofs.lemmas.Int.{ints}
use Rattle.exact.specs.Plane.{Point, plus, times, across, along, side, circle, square}
use Rattle.exact.proofs.Algebra.Integers.{value}
use Rattle.exact.proofs.Algebra.Signs.{Sign}
use Rattle.exact.proofs.Algebra.SignRules.{integer_signs}
use Rattle.exact.proofs.Algebra.Tests.{sum_of_squares}

-- ---- of points with any w
unfoldable pub X : Point → ℤ
X p = pos p.x

unfoldable pub Y : Point → ℤ
Y p = pos p.y

unfoldable pub W : Point → ℤ
W p = pos p.w

unfoldable pub Δx : Point → Point → ℤ
Δx p q = value (across p q)

unfoldable pub Δy : Point → Point → ℤ
Δy p q = value (along p q)

unfoldable pub orient : Point → Point → Point → ℤ
orient p q r = value (side p q r)

unfoldable pub incircle : Point → Point → Point → Point → ℤ
incircle p q r s = value (circle p q r s)

unfoldable pub dist² : Point → Point → ℤ
dist² p q = value (square p q)

unfoldable pub dot : Point → Point → Point → ℤ
dot o p q = value (plus (times (across o p) (across o q)) (times (along o p) (along o q)))

-- strict: strictly inside the triangle a b c; not strict: in it or on its border
pub record Within (strict : Bool) (a b c x : Point) : Type 0 where
  pub ab : Sign strict (orient a b x)
  pub bc : Sign strict (orient b c x)
  pub ca : Sign strict (orient c a x)

-- strictly between a and b
pub record InSegment (a b x : Point) : Type 0 where
  pub on : orient a b x ≡ pos 0
  pub opposite : Sign true (neg_ℤ (dot x a b))

-- ---- a point with w = 1, as every vertex is
pub record Site : Type 0 where
  pub at : Point
  pub whole : at.w ≡ 1

abbrev pub Orient : Site → Site → Site → ℤ
Orient a b c = orient a.at b.at c.at

abbrev pub Incircle : Site → Site → Site → Site → ℤ
Incircle a b c d = incircle a.at b.at c.at d.at

abbrev pub Dist² : Site → Site → ℤ
Dist² a b = dist² a.at b.at

abbrev pub Dot : Site → Site → Site → ℤ
Dot o a b = dot o.at a.at b.at

-- how high a is lifted on the paraboloid
abbrev pub Height : Site → ℤ
Height a = X a.at *ℤ X a.at +ℤ Y a.at *ℤ Y a.at

-- the prism below the lifted triangle, times six
abbrev pub Volume : Site → Site → Site → ℤ
Volume a b c = Orient a b c *ℤ (Height a +ℤ Height b +ℤ Height c)

abbrev pub Left : Site → Site → Site → Type 0
Left a b c = Sign true (Orient a b c)

abbrev pub Right : Site → Site → Site → Type 0
Right a b c = Sign true (neg_ℤ (Orient a b c))

abbrev pub LeftOn : Site → Site → Site → Type 0
LeftOn a b c = Sign false (Orient a b c)

abbrev pub RightOn : Site → Site → Site → Type 0
RightOn a b c = Sign false (neg_ℤ (Orient a b c))

abbrev pub On : Site → Site → Site → Type 0
On a b c = Orient a b c ≡ pos 0

abbrev pub Apart : Site → Site → Type 0
Apart a b = Sign true (Dist² a b)

abbrev pub Same : Site → Site → Type 0
Same a b = Dist² a b ≡ pos 0

abbrev pub InTriangle : Site → Site → Site → Site → Type 0
InTriangle a b c z = Within false a.at b.at c.at z.at

abbrev pub Inside : Site → Site → Site → Site → Type 0
Inside a b c z = Within true a.at b.at c.at z.at

abbrev pub Between : Site → Site → Site → Type 0
Between a b z = InSegment a.at b.at z.at

-- ---- signs that always hold
pub dist²_sign : (p q : Point) → Sign false (dist² p q)
unfolding dist²
dist²_sign p q = sum_of_squares (across p q) (along p q)

pub W_sign : (x : Point) → 1 ≤ x.w → Sign true (W x)
unfolding W
W_sign x h = record { bound = omega arith }

pub ruleset signs = (integer_signs, dist²_sign)

-- ---- w = 1
pub W_one : (a : Site) → W a.at ≡ pos 1
unfolding W
W_one a = ap pos a.whole

one_times : (z : ℤ) → pos 1 *ℤ z ≡ z
one_times z = omega (arith, ints)

-- a factor w of a site may be left out
pub W_times : (a : Site) (z : ℤ) → W a.at *ℤ z ≡ z
W_times a z = ap (λ (v : ℤ). v *ℤ z) (W_one a) ∙ one_times z

pub W³_times : (a : Site) (z : ℤ) → W a.at *ℤ W a.at *ℤ W a.at *ℤ z ≡ z
W³_times a z = ap (λ (v : ℤ). v *ℤ v *ℤ v *ℤ z) (W_one a) ∙ one_times z

pub W_site : (a : Site) → Sign true (W a.at)
unfolding W
W_site a = record { bound = omega (arith, a.whole) }
