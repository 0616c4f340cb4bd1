-- Splitting: a face a b c at p strictly inside, an edge a b at p strictly between its ends.
use Rattle.std.proofs.Common.{true, ◌⊎◌, ◌+ℤ◌, ◌*ℤ◌, neg_ℤ, sym, inl, inr, arith}
use Rattle.std.proofs.Math.IntN.{neg_ℤ-neg_ℤ}
use Rattle.std.proofs.lemmas.Int.{ints}
use Rattle.exact.proofs.Algebra.Signs.{Sign, ◌by◌, weak, split, zero_sign}
use Rattle.exact.proofs.Geometry.Words.{Site, Orient, Left, Right, InTriangle, Inside, Between, signs}
use Rattle.exact.proofs.Geometry.Identities.Sides.{turn, swap, orders, weights, three_directions}
use Rattle.exact.proofs.Geometry.Triangles.{within_turn, within_weak, first_in, second_in, third_in, triangle_in}
use Rattle.exact.proofs.Geometry.Betweenness.{front_left, back_left}

-- ---- a face: the new ones are a b p, b c p, c a p. They turn to the left by what Inside says
pub split_in_ab : (a b c p z : Site) → Left a b c → Inside a b c p → InTriangle a b p z → InTriangle a b c z
split_in_ab a b c p z t i = triangle_in a b c a b p z.at i.ab (first_in a b c t) (second_in a b c t) (within_weak i)

pub split_in_bc : (a b c p z : Site) → Left a b c → Inside a b c p → InTriangle b c p z → InTriangle a b c z
split_in_bc a b c p z t i = triangle_in a b c b c p z.at i.bc (second_in a b c t) (third_in a b c t) (within_weak i)

pub split_in_ca : (a b c p z : Site) → Left a b c → Inside a b c p → InTriangle c a p z → InTriangle a b c z
split_in_ca a b c p z t i = triangle_in a b c c a p z.at i.ca (third_in a b c t) (first_in a b c t) (within_weak i)

-- the third corner is in none of them
pub split_not_c : (a b c p : Site) → Inside a b c p → InTriangle a b p c → ⊥
split_not_c a b c p i j = let l = i.bc in let r = j.bc in omega (arith, ints, orders b c p)

pub split_not_a : (a b c p : Site) → Inside a b c p → InTriangle b c p a → ⊥
split_not_a a b c p i = split_not_c b c a p (within_turn i)

pub split_not_b : (a b c p : Site) → Inside a b c p → InTriangle c a p b → ⊥
split_not_b a b c p i = split_not_c c a b p (within_turn (within_turn i))

-- ---- an edge: the new ones are a p c and p b c
module _ (a b c p : Site) (t : Left a b c) (h : Between a b p) where
  pub edge_left : Left a p c
  edge_left = front_left a b p c h t

  pub edge_right : Left p b c
  edge_right = back_left a b p c h t

  pub edge_at : InTriangle a b c p
  edge_at = record { ab = zero_sign h.on; bc = weak edge_right by sym (turn p b c); ca = weak edge_left by turn c a p }

  pub edge_in_left : (z : Site) → InTriangle a p c z → InTriangle a b c z
  edge_in_left z = triangle_in a b c a p c z.at edge_left (first_in a b c t) edge_at (third_in a b c t)

  pub edge_in_right : (z : Site) → InTriangle p b c z → InTriangle a b c z
  edge_in_right z = triangle_in a b c p b c z.at edge_right edge_at (second_in a b c t) (third_in a b c t)

  -- the other end is in neither
  pub edge_not_left : InTriangle a p c b → ⊥
  edge_not_left i = let l = edge_right in let r = i.bc in omega (arith, ints, orders p b c)

  pub edge_not_right : InTriangle p b c a → ⊥
  edge_not_right i = let l = edge_left in let r = i.ca in omega (arith, ints, orders a p c)

  -- and they hold all that was held
  pub edge_cover : (z : Site) → InTriangle a b c z → InTriangle a p c z ⊎ InTriangle p b c z
  edge_cover z i = elim (split (Orient p c z)) [
    | inl k ↦ inl (record { ab = front_left a b p z h i.ab; bc = weak k; ca = i.ca })
    | inr k ↦ inr (record { ab = back_left a b p z h i.ab; bc = i.bc; ca = k by swap c p z })
  ]

-- ---- three faces v a b, v b c, v c a round v hold all that a b c holds
pub face_cover : (v a b c z : Site) → Left v a b → Left v b c → Left v c a → InTriangle a b c z → InTriangle v a b z ⊎ InTriangle v b c z ⊎ InTriangle v c a z
face_cover v a b c z vab vbc vca i = elim (split (Orient v a z)) [
  | inl p ↦ elim (split (Orient v b z)) [
    | inl q ↦ elim (split (Orient v c z)) [
      | inl r ↦ absurd (none+ p q r)
      | inr r ↦ inr (inl (record { ab = weak q; bc = i.bc; ca = r by swap c v z }))
    ]
    | inr q ↦ inl (record { ab = weak p; bc = i.ab; ca = q by swap b v z })
  ]
  | inr p ↦ elim (split (neg_ℤ (Orient v c z))) [
    | inl r ↦ elim (split (neg_ℤ (Orient v b z))) [
      | inl q ↦ elim (split (neg_ℤ (Orient v a z))) [
        | inl p' ↦ absurd (none- p' q r)
        | inr p' ↦ inl (record { ab = p' by sym (neg_ℤ-neg_ℤ (Orient v a z)); bc = i.ab; ca = weak q by swap b v z })
      ]
      | inr q ↦ inr (inl (record { ab = q by sym (neg_ℤ-neg_ℤ (Orient v b z)); bc = i.bc; ca = weak r by swap c v z }))
    ]
    | inr r ↦ inr (inr (record { ab = r by sym (neg_ℤ-neg_ℤ (Orient v c z)); bc = i.ca; ca = p by swap a v z }))
  ]
]
  where
    none+ : Left v a z → Left v b z → Left v c z → ⊥
    none+ p q r = let s : Sign true (Orient v b c *ℤ Orient v a z +ℤ Orient v c a *ℤ Orient v b z +ℤ Orient v a b *ℤ Orient v c z) = search signs in omega (arith, ints, s, three_directions v a b c z)

    none- : Right v a z → Right v b z → Right v c z → ⊥
    none- p q r = let s : Sign true (neg_ℤ (Orient v b c *ℤ Orient v a z +ℤ Orient v c a *ℤ Orient v b z +ℤ Orient v a b *ℤ Orient v c z)) = search signs in omega (arith, ints, s, three_directions v a b c z)

pub face_left : (v a b c : Site) → Left v a b → Left v b c → Left v c a → Left a b c
face_left v a b c vab vbc vca = omega (arith, ints, weights a b c v, orders v a b, orders v b c, orders v c a)
