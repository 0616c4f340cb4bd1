-- What is strictly between two sites: which way it lies, what it is apart from, and the two parts of the edge.
use Rattle.std.proofs.Common.{◌≡◌, Bool, true, ℤ, pos, ◌+ℤ◌, ◌-ℤ◌, ◌*ℤ◌, neg_ℤ, sym, ap, ◌∙◌, inl, inr, arith}
use Rattle.std.proofs.Math.IntN.{neg_ℤ-neg_ℤ}
use Rattle.std.proofs.lemmas.Int.{ints}
use Rattle.exact.specs.Plane.{Point}
use Rattle.exact.proofs.Algebra.Signs.{Sign, ◌⊙◌, ◌⊞◌, ◌by◌, split, left_zero, right_zero, neg_right, cancel, cancel_neg, cancel_zero, left_factor, times_neg}
use Rattle.exact.proofs.Geometry.Words.{W, orient, dot, InSegment, Site, Orient, Dist², Dot, Left, LeftOn, RightOn, On, Apart, Between, signs, W_site}
use Rattle.exact.proofs.Geometry.Identities.Sides.{turn, turn_place, swap, swap_place, orders}
use Rattle.exact.proofs.Geometry.Triangles.{left_apart, apart_swap}
use Rattle.exact.proofs.Geometry.Identities.Dots.{dot_swap, dot_same, lagrange, three_terms_dot, dot_step_place, dist²_sum, dot_onward, weigh_ends}

-- ---- a place x strictly between a and b
pub segment_swap : (a b : Site) (x : Point) → InSegment a.at b.at x → InSegment b.at a.at x
segment_swap a b x h = record { on = swap_place b a x ∙ ap neg_ℤ h.on; opposite = h.opposite by ap neg_ℤ (dot_swap x b.at a.at) }

-- x − a and b − a go the same way
pub segment_forward : (a b : Site) (x : Point) → Sign true (W x) → InSegment a.at b.at x → Sign true (dot a.at x b.at)
segment_forward a b x w h = let o = h.opposite in cancel w (search signs by dot_step_place a b x)

-- it is strictly left of the other two sides of a triangle on a b
pub segment_left_ca : (a b c : Site) (x : Point) → Sign true (W x) → Left a b c → InSegment a.at b.at x → Sign true (orient c.at a.at x)
segment_left_ca a b c x w t h =
    let f = segment_forward a b x w h ⊙ t in let z = right_zero (Dot a c b) (orient a.at b.at x) h.on in
    cancel (left_apart a b c t by dot_same a.at b.at) (omega (arith, ints, three_terms_dot a.at b.at x b.at c.at)) by turn_place c a x

pub segment_left_bc : (a b c : Site) (x : Point) → Sign true (W x) → Left a b c → InSegment a.at b.at x → Sign true (orient b.at c.at x)
segment_left_bc a b c x w t h =
    let ba = segment_swap a b x h in
    let f = neg_right (dot b.at x a.at) (Orient b a c) in let g = segment_forward b a x w ba ⊙ (t by sym (swap a b c)) in let z = right_zero (Dot b c a) (orient b.at a.at x) ba.on in
    cancel_neg (orient b.at x c.at) (apart_swap a b (left_apart a b c t) by dot_same b.at a.at) (omega (arith, ints, three_terms_dot b.at a.at x a.at c.at))
    by (swap_place b c x ∙ ap neg_ℤ (turn_place c b x))

-- ---- sites
pub between_swap : (a b z : Site) → Between a b z → Between b a z
between_swap a b z = segment_swap a b z.at

pub between_forward : (a b z : Site) → Between a b z → Sign true (Dot a z b)
between_forward a b z = segment_forward a b z.at (W_site z)

pub between_ends_apart : (a b p : Site) → Between a b p → Apart a b
between_ends_apart a b p h = between_forward a b p h ⊞ between_forward b a p (between_swap a b p h) by dist²_sum a p b

pub between_start_apart : (a b p : Site) → Between a b p → Apart a p
between_start_apart a b p h = let w = between_forward a b p h in left_factor (Dist² a p) (Dist² a b) (search signs by lagrange a.at p.at b.at) (search signs)

along_is : (a b p z : Site) → Between a b p → Dist² a b *ℤ Orient a p z ≡ Dot a p b *ℤ Orient a b z
along_is a b p z h =
    ap (λ (x : ℤ). x *ℤ Orient a p z) (sym (dot_same a.at b.at)) ∙ drop (Dot a b b *ℤ Orient a p z) (Dot a z b *ℤ Orient a b p) (right_zero (Dot a z b) (Orient a b p) h.on) ∙ sym (three_terms_dot a.at b.at p.at b.at z.at)
  where
    drop : (x y : ℤ) → y ≡ pos 0 → x ≡ x +ℤ y
    drop x y e = omega (arith, ints)

-- what is left of or on a → b is so of a → p, and the other way round
pub front_left : {s : Bool} (a b p z : Site) → Between a b p → Sign s (Orient a b z) → Sign s (Orient a p z)
front_left a b p z h l = cancel (between_ends_apart a b p h) (between_forward a b p h ⊙ l by along_is a b p z h)

pub front_right : {s : Bool} (a b p z : Site) → Between a b p → Sign s (neg_ℤ (Orient a b z)) → Sign s (neg_ℤ (Orient a p z))
front_right a b p z h l = cancel_neg (Orient a p z) (between_ends_apart a b p h) (times_neg (Dot a p b) (Orient a b z) (between_forward a b p h) l by ap neg_ℤ (along_is a b p z h))

pub front_on : (a b p z : Site) → Between a b p → On a p z → On a b z
front_on a b p z h e = cancel_zero (between_forward a b p h) (sym (along_is a b p z h) ∙ right_zero (Dist² a b) (Orient a p z) e)

-- the same from the other end: of p → b
pub back_left : {s : Bool} (a b p z : Site) → Between a b p → Sign s (Orient a b z) → Sign s (Orient p b z)
back_left a b p z h l = front_right b a p z (between_swap a b p h) (l by sym (swap a b z)) by swap p b z

pub back_right : {s : Bool} (a b p z : Site) → Between a b p → Sign s (neg_ℤ (Orient a b z)) → Sign s (neg_ℤ (Orient p b z))
back_right a b p z h l = front_left b a p z (between_swap a b p h) (l by swap b a z) by sym (swap b p z)

-- between a and p is between a and b
pub between_front : (a b p z : Site) → Between a b p → Between a p z → Between a b z
between_front a b p z h l = record {
  on = front_on a b p z h l.on;
  opposite = less;
}
  where
    flat : Orient a z p ≡ pos 0
    flat = omega (arith, ints, l.on, orders a p z)

    part : Sign true (neg_ℤ (Dot z a b -ℤ Dot z a p))
    part =
        let o₁ = h.opposite in let o₂ = between_forward a p z l in let f = flat in
        cancel_neg (Dot z a b -ℤ Dot z a p) (between_start_apart a b p h) (search signs by ap neg_ℤ (dot_onward a p b z))

    less : Sign true (neg_ℤ (Dot z a b))
    less = let o₁ = l.opposite in let o₂ = part in omega (arith, ints)

pub between_back : (a b p z : Site) → Between a b p → Between p b z → Between a b z
between_back a b p z h l = between_swap b a z (between_front b a p z (between_swap a b p h) (between_swap p b z l))

-- what is between is no end
pub between_apart : (a b z : Site) → Between a b z → Apart a z × Apart b z
between_apart a b z h = (between_start_apart a b z h, between_start_apart b a z (between_swap a b z h))

-- what has both ends on one side has what is between there
pub ends_left : (c d p u v : Site) → LeftOn u v c → LeftOn u v d → Between c d p → LeftOn u v p
ends_left c d p u v hc hd h =
    let o = h.on in let w₁ = between_forward c d p h in let w₂ = between_forward d c p (between_swap c d p h) in
    cancel (between_ends_apart c d p h) (search signs by weigh_ends c d p u v)

pub ends_right : (c d p u v : Site) → RightOn u v c → RightOn u v d → Between c d p → RightOn u v p
ends_right c d p u v hc hd h =
    let o = h.on in let w₁ = between_forward c d p h in let w₂ = between_forward d c p (between_swap c d p h) in
    cancel_neg (Orient u v p) (between_ends_apart c d p h) (search signs by ap neg_ℤ (weigh_ends c d p u v))

-- on the line, no end and not between: both ends are the same way
pub beyond_dot : (a b z : Site) → On a b z → Apart a z → Apart b z → (Between a b z → ⊥) → Sign true (Dot z a b)
beyond_dot a b z o az bz n = elim (split (neg_ℤ (Dot z a b))) [
  | inl h ↦ absurd (n (record { on = o; opposite = h }))
  | inr h ↦ left_factor (Dot z a b) (Dot z a b) square (h by sym (neg_ℤ-neg_ℤ (Dot z a b)))
]
  where
    flat : Orient z a b ≡ pos 0
    flat = turn z a b ∙ o

    both : Sign true (Dist² z a *ℤ Dist² z b)
    both = apart_swap a z az ⊙ apart_swap b z bz

    square : Sign true (Dot z a b *ℤ Dot z a b)
    square = let p = both in let q = left_zero (Orient z a b) (Orient z a b) flat in let r = lagrange z.at a.at b.at in omega (arith, ints)
