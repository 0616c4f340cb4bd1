-- Distances: what is no farther than its neighbours is no farther than what is in their cone or beyond them on a line, and the nearest is inside a circle.
use Rattle.std.proofs.Common.{◌≡◌, true, false, [], ◌∷◌, ◌+ℤ◌, ◌-ℤ◌, neg_ℤ, refl, inl, inr, arith}
use Rattle.std.proofs.lemmas.Int.{ints}
use Rattle.exact.specs.Plane.{Point}
use Rattle.exact.proofs.Algebra.Ring.{ring}
use Rattle.exact.proofs.Algebra.Signs.{Sign, ◌by◌, split, cancel}
use Rattle.exact.proofs.Geometry.Words.{dist², Site, Orient, Incircle, Dist², Dot, Left, LeftOn, Apart, Between, signs}
use Rattle.exact.proofs.Geometry.Reading.{sites, geometry}
use Rattle.exact.proofs.Geometry.Identities.Dots.{line_distances}
use Rattle.exact.proofs.Geometry.Identities.Circles.{circle_cone, circle_distances}
use Rattle.exact.proofs.Geometry.Betweenness.{between_swap, between_forward}
use Rattle.exact.proofs.Geometry.Circles.{in_circle}

-- y is no nearer to the place x than v is
abbrev pub NoNearer : Point → Point → Point → Type 0
NoNearer x v y = Sign false (dist² x y -ℤ dist² x v)

pub no_nearer : (v a b z : Site) (x : Point) → Left v a b → LeftOn v a z → LeftOn b v z → Sign false (neg_ℤ (Incircle v a b z)) → NoNearer x v.at a.at → NoNearer x v.at b.at → NoNearer x v.at z.at
no_nearer v a b z x vab vaz bvz out na nb = cancel vab (search signs by circle_distances v a b z x)

-- seen from a, what is beyond z on their line is no nearer than a if z is not
pub no_nearer_beyond : (a b z : Site) (x : Point) → Between a b z → NoNearer x a.at z.at → NoNearer x a.at b.at
no_nearer_beyond a b z x h n =
    let o = h.on in let f = between_forward a b z h in let g = between_forward b a z (between_swap a b z h) in
    cancel f (search signs by line_distances a b z x)

-- z in the cone of v a b and not farther from v than a and b, and no corner: it is inside the circle
pub near_inside : (v a b z : Site) → Left v a b → LeftOn v a z → LeftOn b v z → Sign false (Dist² v a -ℤ Dist² v z) → Sign false (Dist² v b -ℤ Dist² v z) →
    Apart v z → Apart a z → Apart b z → Sign true (Incircle v a b z)
near_inside v a b z vab vaz bvz na nb vz az bz = elim (split (neg_ℤ (Orient a b z))) [
  | inl h ↦ search signs by circle_cone v a b z
  | inr h ↦ in_circle v a b z vab (record { ab = vaz; bc = omega (arith, ints); ca = bvz }) vz az bz
]

-- what is between a and b is nearer to a than b is
dist²_parts_between : (a b z : Site) → Dist² a b -ℤ Dist² a z ≡ Dist² z b +ℤ (neg_ℤ (Dot z a b) +ℤ neg_ℤ (Dot z a b))
dist²_parts_between a b z = ring (sites (a ∷ b ∷ z ∷ [])) (search geometry depth 20) refl

pub between_nearer : (a b z : Site) → Between a b z → Sign true (Dist² a b -ℤ Dist² a z)
between_nearer a b z h = let o = h.opposite in search signs by dist²_parts_between a b z
