-- The two tests of the plane, from what their parts give.
use Rattle.std.proofs.Common.{◌≡◌, ◌^◌, ◌<◌, ℤ, pos, ◌+ℤ◌, ◌-ℤ◌, ◌*ℤ◌, sym, ap, ◌∙◌, ap₂}
use lib.Signed.{mag, lt_z}
use Rattle.exact.specs.Plane.{side, circle, below_0}
use Rattle.exact.specs.Signed.{sign_of}
use Rattle.exact.specs.Verdicts.{at, scalar, by_sign, side_told, circle_told}
use Rattle.exact.specs.declared.position.Position.{Position}
use Rattle.exact.specs.declared.signed.Sign.{Sign}
use Rattle.exact.specs.declared.vector.Vector.{Vector}
use Rattle.exact.specs.declared.verdict.Side.{Side}
use Rattle.exact.specs.declared.verdict.Side.TheVariants as s
use Rattle.exact.specs.declared.verdict.Circle.{Circle}
use Rattle.exact.specs.declared.verdict.Circle.TheVariants as o
use Rattle.exact.proofs.Determinants.{gap, crossed, dotted, side_is, circle_is, scalar_is}
use Rattle.exact.proofs.Vectors.{passed}
use Rattle.exact.proofs.Verdicts.{told, passed_is, determinant_passed, below_is}

-- v goes from p to q
pub record Between (p q : Position) (v : Vector) : Type 0 where
  pub across : v.x ≡ gap p.x q.x
  pub along : v.y ≡ gap p.y q.y

-- a product of two vectors, in a word
pub record Crossed (a b : Vector) (n : ℤ) : Type 0 where
  pub is : n ≡ crossed a.x a.y b.x b.y
  pub fits : mag n < 2 ^ 63

pub record Dotted (a b : Vector) (n : ℤ) : Type 0 where
  pub is : n ≡ dotted a.x a.y b.x b.y
  pub fits : mag n < 2 ^ 63

crossed_of : (p q r s : Position) (a b : Vector) (n : ℤ) → Between p q a → Between r s b → Crossed a b n → n ≡ crossed (gap p.x q.x) (gap p.y q.y) (gap r.x s.x) (gap r.y s.y)
crossed_of p q r s a b n e f g = g.is ∙ ap₂ ◌-ℤ◌ (ap₂ ◌*ℤ◌ e.across f.along) (ap₂ ◌*ℤ◌ e.along f.across)

dotted_of : (p q r s : Position) (a b : Vector) (n : ℤ) → Between p q a → Between r s b → Dotted a b n → n ≡ dotted (gap p.x q.x) (gap p.y q.y) (gap r.x s.x) (gap r.y s.y)
dotted_of p q r s a b n e f g = g.is ∙ ap₂ ◌+ℤ◌ (ap₂ ◌*ℤ◌ e.across f.across) (ap₂ ◌*ℤ◌ e.along f.along)

pub side_tells : (p q r : Position) (a b : Vector) (n : ℤ) (z : Sign) (t : Side) → Between p q a → Between p r b → Crossed a b n
    → z ≡ sign_of (passed n) → t ≡ by_sign s.Right s.On s.Left z → t ≡ side_told (side (at p) (at q) (at r))
side_tells p q r a b n z t e f g h i =
    i ∙ ap (by_sign s.Right s.On s.Left) (h ∙ ap sign_of (passed_is n (record { sfits = g.fits })))
    ∙ told s.Right s.On s.Left (side (at p) (at q) (at r)) n (crossed_of p q p r a b n e f g ∙ sym (side_is p.x p.y q.x q.y r.x r.y))

pub circle_tells : (p q r s : Position) (sp sq rp rq : Vector) (k l m n v : ℤ) (z : Sign) (t : Circle)
    → Between s p sp → Between s q sq → Between r p rp → Between r q rq
    → Crossed sp sq k → Crossed rp rq l → Dotted sp sq m → Dotted rp rq n
    → v ≡ passed k *ℤ passed n -ℤ passed l *ℤ passed m
    → z ≡ sign_of v → t ≡ by_sign o.Outside o.On o.Inside z → t ≡ circle_told (circle (at p) (at q) (at r) (at s))
circle_tells p q r s sp sq rp rq k l m n v z t a b c d e f g h i j u =
    u ∙ ap (by_sign o.Outside o.On o.Inside) j
    ∙ told o.Outside o.On o.Inside (circle (at p) (at q) (at r) (at s)) v
    (determinant_passed v k l m n (record { sfits = e.fits }) (record { sfits = f.fits }) (record { sfits = g.fits }) (record { sfits = h.fits }) i
    ∙ ap₂ ◌-ℤ◌ (ap₂ ◌*ℤ◌ (crossed_of s p s q sp sq k a b e) (dotted_of r p r q rp rq n c d h)) (ap₂ ◌*ℤ◌ (crossed_of r p r q rp rq l c d f) (dotted_of s p s q sp sq m a b g))
    ∙ sym (circle_is p.x p.y q.x q.y r.x r.y s.x s.y))

pub scalar_tells : (v p q : Position) (a b : Vector) (n : ℤ) → Between v p a → Between v q b → Dotted a b n → lt_z (passed n) (pos 0) ≡ below_0 (scalar (at v) (at p) (at q))
scalar_tells v p q a b n e f g =
    ap (λ (z : ℤ). lt_z z (pos 0)) (passed_is n (record { sfits = g.fits }) ∙ dotted_of v p v q a b n e f g ∙ sym (scalar_is v.x v.y p.x p.y q.x q.y))
    ∙ below_is (scalar (at v) (at p) (at q))
