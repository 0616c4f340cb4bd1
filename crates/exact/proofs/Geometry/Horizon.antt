-- Outside the hull: the outer edges that p sees, what a new face on an outer edge holds, and where p is in a face that has it.
use Rattle.std.proofs.Common.{◌≡◌, true, false, ◌⊎◌, pos, ◌*ℤ◌, neg_ℤ, sym, ap, ◌∙◌, inl, inr, arith}
use Rattle.std.proofs.Math.IntN.{*ℤ_comm}
use Rattle.std.proofs.lemmas.Int.{ints}
use Rattle.exact.proofs.Algebra.Signs.{Sign, ◌by◌, split, is_zero, product_zero, clash, clash_zero, right_zero, cancel, cancel_neg}
use Rattle.exact.proofs.Geometry.Words.{Site, Orient, Dot, Left, Right, LeftOn, RightOn, On, Apart, Same, InTriangle, Inside, Between, signs}
use Rattle.exact.proofs.Geometry.Identities.Sides.{turn, swap, orders, weights, three_terms, seen_edge}
use Rattle.exact.proofs.Geometry.Identities.Dots.{dist²_swap, dot_same, three_terms_dot}
use Rattle.exact.proofs.Geometry.Triangles.{corners_apart, same_not_apart, within_turn}

-- ---- two different lines meet once
pub meet : (p z y c : Site) → On z y c → On p z c → (On y p c → ⊥) → Same z c
meet p z y c e f k = elim (product_zero (Dot c z z) (Orient c y p) flat) [
  | inl g ↦ dist²_swap z.at c.at ∙ sym (dot_same c.at z.at) ∙ g
  | inr g ↦ absurd (k (sym (turn c y p) ∙ g))
]
  where
    flat : Dot c z z *ℤ Orient c y p ≡ pos 0
    flat =
        let g : On c z p = omega (arith, ints, orders p z c) in let h : On c y z = omega (arith, ints, orders z y c) in
        omega (arith, ints, three_terms_dot c.at z.at z.at y.at p.at, right_zero (Dot c y z) (Orient c z p) g, right_zero (Dot c p z) (Orient c y z) h)

-- c is on the line z y, and in the cone of z y at p, with the ray to z and without the ray to y
pub on_edge : (p z y c : Site) → On z y c → LeftOn p z c → Right p y c → Same z c ⊎ Between z y c
on_edge p z y c e pz py = elim (split (Orient p z c)) [
  | inl h ↦ inr (record { on = e; opposite = ends h })
  | inr h ↦ inl (meet p z y c e (is_zero pz h) (λ g. clash_zero ypc g))
]
  where
    ypc : Left y p c
    ypc = py by swap y p c

    ends : Left p z c → Sign true (neg_ℤ (Dot c z y))
    ends h =
        let a : Sign true (Dot c y y) = (corners_apart y p c ypc).2 by dot_same c.at y.at in
        let f : On c y z = omega (arith, ints, orders z y c) in
        let g : Right c z p = omega (arith, ints, orders p z c) in
        let k : Left c y p = ypc by turn c y p in
        cancel_neg (Dot c z y) k (search signs by ap neg_ℤ (*ℤ_comm (Orient c y p) (Dot c z y) ∙ three_terms_dot c.at y.at z.at y.at p.at))

-- ---- an outer edge c → d that p sees has its c on the closed edge z → y in whose cone it is, and not at y
pub unseen : (p z y c d : Site) → RightOn z y c → RightOn c d z → RightOn c d y → Left c d p → LeftOn p z c → Right p y c →
    On z y c × (Same z c ⊎ Between z y c) × Apart c y
unseen p z y c d zyc cdz cdy cdp pzc pyc = (e, on_edge p z y c e pzc pyc, (corners_apart y p c (pyc by swap y p c)).2)
  where
    e : On z y c
    e = is_zero (cancel cdp (search signs by *ℤ_comm (Orient c d p) (Orient z y c) ∙ seen_edge p z y c d)) zyc

-- nor is it on the ray from p to v
pub ray : (s v p c d : Site) → Left s v p → RightOn s v c → On p v c → RightOn p v d → Left c d p → ⊥
ray s v p c d svp svc pvc pvd cdp =
    let a : Sign true (Orient p s v) = svp by turn p s v in
    let b : Sign true (Orient p s c) = omega (arith, ints, weights s v c p, orders s v p, orders p v c, orders p s c) in
    let f : Orient p v c ≡ pos 0 = pvc in
    let m : Sign false (neg_ℤ (Orient p c d)) = cancel_neg (Orient p c d) a (search signs by ap neg_ℤ (three_terms p s v c d)) in
    clash (cdp by turn p c d) m

-- ---- a new face a b c on an outer edge a → b holds nothing but its corners
pub edge_only : (a b c z : Site) → Left a b c → InTriangle a b c z → RightOn a b z → Same a z ⊎ Same b z ⊎ Between a b z
edge_only a b c z t i r = elim (split (Orient b c z)) [
  | inl h ↦ elim (on_edge c a b z e i.ca (h by sym (swap b c z))) [ inl s ↦ inl s | inr s ↦ inr (inr s) ]
  | inr h ↦ inr (inl (meet c b a z (swap b a z ∙ ap neg_ℤ e) (flat h) (λ g. clash_zero (pos_ca h) (swap c a z ∙ ap neg_ℤ g))))
]
  where
    e : On a b z
    e = is_zero i.ab r

    flat : Sign false (neg_ℤ (Orient b c z)) → On c b z
    flat h = swap c b z ∙ ap neg_ℤ (is_zero i.bc h)

    pos_ca : Sign false (neg_ℤ (Orient b c z)) → Left c a z
    pos_ca h = let f = e in omega (arith, ints, weights a b c z)

-- ---- where p is in a face that has it: inside, or on one edge
pub inside_or_edge : (a b c p : Site) → Left a b c → InTriangle a b c p → Apart a p → Apart b p → Apart c p → Inside a b c p ⊎ Between a b p ⊎ Between b c p ⊎ Between c a p
inside_or_edge a b c p t i ap bp cp = elim (split (Orient a b p)) [
  | inl h ↦ elim (split (Orient b c p)) [
    | inl l ↦ elim (split (Orient c a p)) [
      | inl m ↦ inl (record { ab = h; bc = l; ca = m })
      | inr m ↦ inr (inr (inr (on c a b (t by turn c a b) (within_turn (within_turn i)) m cp ap)))
    ]
    | inr l ↦ inr (inr (inl (on b c a (t by sym (turn a b c)) (within_turn i) l bp cp)))
  ]
  | inr h ↦ inr (inl (on a b c t i h ap bp))
]
  where
    on : (a b c : Site) → Left a b c → InTriangle a b c p → RightOn a b p → Apart a p → Apart b p → Between a b p
    on a b c t i h ap bp = elim (edge_only a b c p t i h) [
      | inl e ↦ absurd (same_not_apart a p e ap)
      | inr r ↦ elim r [ inl e ↦ absurd (same_not_apart b p e bp) | inr k ↦ k ]
    ]

-- ---- when both tangents stand: an outer edge c → d that p sees begins in the cone from u to v, and not on the ray to v
pub in_cone : (u s v p c d : Site) → Left s v p → RightOn s v c → RightOn u p c → RightOn p v c → RightOn p v d → Left c d p → LeftOn p u c × Right p v c
in_cone u s v p c d svp svc upc pvc pvd cdp = (upc by swap p u c, strict)
  where
    strict : Right p v c
    strict = elim (split (neg_ℤ (Orient p v c))) [
      | inl h ↦ h
      | inr h ↦ absurd (ray s v p c d svp svc (omega (arith, ints)) pvd cdp)
    ]
