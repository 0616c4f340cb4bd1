-- A left-turning triangle: its corners are apart, it holds them, and what has them on one side has it there.
use Rattle.std.proofs.Common.{Bool, true, false, sym}
use Rattle.exact.specs.Plane.{Point}
use Rattle.exact.proofs.Algebra.Signs.{Sign, ◌⊞◌, ◌by◌, weak, clash_zero, zero_sign, cancel, left_factor}
use Rattle.exact.proofs.Geometry.Words.{W, orient, Within, Site, Dist², Left, LeftOn, Apart, Same, InTriangle, signs}
use Rattle.exact.proofs.Geometry.Identities.Sides.{turn, start_on, end_on, weights_place, weigh_line}
use Rattle.exact.proofs.Geometry.Identities.Dots.{dist²_swap, lagrange}

-- ---- apart
pub left_apart : (a b c : Site) → Left a b c → Apart a b
left_apart a b c h = left_factor (Dist² a b) (Dist² a c) (search signs by lagrange a.at b.at c.at) (search signs)

pub apart_swap : (a b : Site) → Apart a b → Apart b a
apart_swap a b h = h by dist²_swap b.at a.at

pub corners_apart : (a b c : Site) → Left a b c → Apart a b × Apart b c × Apart c a
corners_apart a b c h = (left_apart a b c h, left_apart b c a (h by sym (turn a b c)), left_apart c a b (h by turn c a b))

pub same_not_apart : (a b : Site) → Same a b → Apart a b → ⊥
same_not_apart a b e h = clash_zero h e

-- ---- turned, and strictly inside
pub within_turn : {s : Bool} {a b c x : Point} → Within s a b c x → Within s b c a x
within_turn i = record { ab = i.bc; bc = i.ca; ca = i.ab }

pub within_weak : {s : Bool} {a b c x : Point} → Within s a b c x → Within false a b c x
within_weak i = record { ab = weak i.ab; bc = weak i.bc; ca = weak i.ca }

-- only a left-turning triangle has something strictly inside
pub inside_left : (a b c : Site) (x : Point) → Sign true (W x) → Within true a.at b.at c.at x → Left a b c
inside_left a b c x w i = cancel w (i.bc ⊞ i.ca ⊞ i.ab by weights_place a b c x)

-- ---- corners
pub first_in : (a b c : Site) → Left a b c → InTriangle a b c a
first_in a b c h = record { ab = zero_sign (start_on a b); bc = weak h by sym (turn a b c); ca = zero_sign (end_on c a) }

pub second_in : (a b c : Site) → Left a b c → InTriangle a b c b
second_in a b c h = record { ab = zero_sign (end_on a b); bc = zero_sign (start_on b c); ca = weak h by turn c a b }

pub third_in : (a b c : Site) → Left a b c → InTriangle a b c c
third_in a b c h = record { ab = weak h; bc = zero_sign (end_on b c); ca = zero_sign (start_on c a) }

-- what has the corners on one side has the triangle there
pub corners_left : (p q r u v : Site) (x : Point) → Left p q r → LeftOn u v p → LeftOn u v q → LeftOn u v r → Within false p.at q.at r.at x → Sign false (orient u.at v.at x)
corners_left p q r u v x t hp hq hr i =
    let i₁ = i.ab in let i₂ = i.bc in let i₃ = i.ca in
    cancel t (search signs by weigh_line p q r u v x)

-- a triangle with its corners in another is in it
pub triangle_in : (a b c p q r : Site) (x : Point) → Left p q r → InTriangle a b c p → InTriangle a b c q → InTriangle a b c r → Within false p.at q.at r.at x → Within false a.at b.at c.at x
triangle_in a b c p q r x t ip iq ir i = record {
  ab = corners_left p q r a b x t ip.ab iq.ab ir.ab i;
  bc = corners_left p q r b c x t ip.bc iq.bc ir.bc i;
  ca = corners_left p q r c a x t ip.ca iq.ca ir.ca i;
}
