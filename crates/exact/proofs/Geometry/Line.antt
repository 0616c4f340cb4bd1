-- Sites on one line: which of three is between, and the end v of a line, beyond which nothing is (no z with Between s z v, for its neighbour s).
use Rattle.std.proofs.Common.{◌≡◌, true, false, ◌⊎◌, ℤ, pos, ◌+ℤ◌, ◌*ℤ◌, neg_ℤ, ap, ◌∙◌, inl, inr, arith}
use Rattle.std.proofs.lemmas.Int.{ints}
use Rattle.exact.proofs.Algebra.Signs.{Sign, ◌by◌, split, clash, right_zero, cancel_neg, cancel_zero}
use Rattle.exact.proofs.Geometry.Words.{Site, Orient, Dot, Left, RightOn, On, Apart, Between, signs}
use Rattle.exact.proofs.Geometry.Identities.Sides.{turn, swap, orders, weights}
use Rattle.exact.proofs.Geometry.Identities.Dots.{dot_swap, dot_same, three_terms_dot, dot_compose, three_dots}
use Rattle.exact.proofs.Geometry.Triangles.{apart_swap}
use Rattle.exact.proofs.Geometry.Betweenness.{between_swap, between_forward, between_start_apart, beyond_dot}
use Rattle.exact.proofs.Geometry.Tangents.{tangent_line_end, tangent_line_start}

-- ---- being on one line
pub on_pair : (a b c d : Site) → Apart a b → On a b c → On a b d → On a c d
on_pair a b c d ab e f =
    let g : Orient a c b ≡ pos 0 = omega (arith, ints, orders a b c) in
    cancel_zero (ab by dot_same a.at b.at) (three_terms_dot a.at b.at b.at c.at d.at ∙ zeros (right_zero (Dot a c b) (Orient a b d) f) (right_zero (Dot a d b) (Orient a c b) g))
  where
    zeros : {x y : ℤ} → x ≡ pos 0 → y ≡ pos 0 → x +ℤ y ≡ pos 0
    zeros {x} {y} p q = omega (arith, ints)

pub on_three : (a b c d e : Site) → Apart a b → On a b c → On a b d → On a b e → On c d e
on_three a b c d e ab hc hd he =
    omega (arith, ints, on_pair a b c d ab hc hd, on_pair a b d e ab hd he, on_pair a b e c ab he hc, weights c d e a, orders a c d, orders a d e, orders a e c)

-- ---- one of three on a line is between the others
pub between_one : (a b z : Site) → On a b z → Apart a b → Apart a z → Apart b z → Between a b z ⊎ Between a z b ⊎ Between z b a
between_one a b z e ab az bz = elim (split (neg_ℤ (Dot z a b))) [
  | inl h ↦ inl (record { on = e; opposite = h })
  | inr h ↦ elim (split (neg_ℤ (Dot b a z))) [
    | inl l ↦ inr (inl (record { on = azb; opposite = l }))
    | inr l ↦ elim (split (neg_ℤ (Dot a z b))) [
      | inl m ↦ inr (inr (record { on = zba; opposite = m }))
      | inr m ↦ absurd (none (far a b z e az bz h) (far a z b azb ab (apart_swap b z bz) l) (far z b a zba (apart_swap a z az) (apart_swap a b ab) m by dot_swap a.at b.at z.at))
    ]
  ]
]
  where
    azb : On a z b
    azb = omega (arith, ints, orders a b z)

    zba : On z b a
    zba = omega (arith, ints, orders a b z)

    far : (p q r : Site) → On p q r → Apart p r → Apart q r → Sign false (neg_ℤ (neg_ℤ (Dot r p q))) → Sign true (Dot r p q)
    far p q r o pr qr n = beyond_dot p q r o pr qr (λ t. clash t.opposite n)

    none : Sign true (Dot z a b) → Sign true (Dot b a z) → Sign true (Dot a b z) → ⊥
    none h l m =
        let f : Orient a b z ≡ pos 0 = e in
        let p : Sign true (Dot a b z *ℤ Dot b a z +ℤ Dot a b z *ℤ Dot z a b +ℤ Dot b a z *ℤ Dot z a b) = search signs in
        clash p (search signs by ap neg_ℤ (three_dots a b z))

-- ---- the end v of a line, its neighbour s
pub not_beyond : (s v z : Site) → On s v z → (Between s z v → ⊥) → Sign false (Dot v s z)
not_beyond s v z e n = elim (split (neg_ℤ (Dot v s z))) [
  | inl h ↦ absurd (n (record { on = omega (arith, ints, orders s v z); opposite = h }))
  | inr h ↦ omega (arith, ints)
]

-- a vertex p beside the line: the tangents
pub line_tangent_end : (s v p z : Site) → Left s v p → On s v z → (Between s z v → ⊥) → RightOn p v z
line_tangent_end s v p z svp e n = tangent_line_end s v p z svp e (not_beyond s v z e n)

pub line_tangent_start : (u s p z : Site) → Left u s p → On u s z → (Between s z u → ⊥) → RightOn u p z
line_tangent_start u s p z usp e n = tangent_line_start u s p z usp e (not_beyond s u z (swap s u z ∙ ap neg_ℤ e) n)

-- a vertex p beyond v: what is on p's side of v is not on s's
behind : (s v p z : Site) → Between s p v → Sign true (Dot v p z) → Sign true (neg_ℤ (Dot v s z))
behind s v p z h b =
    let a = h.opposite in let c : On v s p = turn v s p ∙ h.on in
    cancel_neg (Dot v s z) (apart_swap p v (between_start_apart p s v (between_swap s p v h))) (search signs by ap neg_ℤ (dot_compose v s p z))

-- so nothing is between v and p
pub extend_free : (s v p z : Site) → Between s p v → On s v z → Between v p z → Between s z v
extend_free s v p z h e l = record { on = omega (arith, ints, orders s v z); opposite = behind s v p z h (between_forward v p z l by dot_swap v.at p.at z.at) }

-- and nothing beyond p
pub extend_end : (s v p z : Site) → Between s p v → On s v z → Between v z p → Between s z v
extend_end s v p z h e l = record { on = omega (arith, ints, orders s v z); opposite = behind s v p z h (between_forward v z p l) }
