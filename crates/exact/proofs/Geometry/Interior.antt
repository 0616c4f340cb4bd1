-- What is strictly inside something that has its corners right of a line, or on it, is strictly right of it: inside a triangle, and inside the edge between two.
use Rattle.std.proofs.Common.{true, false, ◌⊎◌, ◌*ℤ◌, neg_ℤ, sym, ap, inl, inr, arith}
use Rattle.std.proofs.lemmas.Int.{ints}
use Rattle.exact.proofs.Algebra.Signs.{Sign, ◌by◌, split, clash, clash_zero, cancel_neg}
use Rattle.exact.proofs.Geometry.Words.{Site, Orient, Left, Right, RightOn, On, Apart, Inside, Between, signs}
use Rattle.exact.proofs.Geometry.Identities.Sides.{turn, swap, weigh_line}
use Rattle.exact.proofs.Geometry.Split.{edge_left, edge_right}
use Rattle.exact.proofs.Geometry.Line.{on_three}

-- right of a line or on it: strictly, or on it
pub right_or_on : (u v a : Site) → RightOn u v a → Right u v a ⊎ On u v a
right_or_on u v a h = elim (split (neg_ℤ (Orient u v a))) [ inl k ↦ inl k | inr k ↦ inr (omega (arith, ints)) ]

module _ (u v a b c : Site) (uv : Apart u v) (abc : Left a b c) where
  -- the corners are not all on the line
  one_off : RightOn u v a → RightOn u v b → RightOn u v c → Right u v a ⊎ Right u v b ⊎ Right u v c
  one_off ha hb hc = elim (right_or_on u v a ha) [
    | inl k ↦ inl k
    | inr oa ↦ elim (right_or_on u v b hb) [
      | inl k ↦ inr (inl k)
      | inr ob ↦ elim (right_or_on u v c hc) [ inl k ↦ inr (inr k) | inr oc ↦ absurd (clash_zero abc (on_three u v a b c uv oa ob oc)) ]
    ]
  ]

  pub inside_right : (p : Site) → Inside a b c p → RightOn u v a → RightOn u v b → RightOn u v c → Right u v p
  inside_right p i ha hb hc =
      let x = i.ab in let y = i.bc in let z = i.ca in
      elim (one_off ha hb hc) [
        | inl k ↦ cancel_neg (Orient u v p) abc (search signs by ap neg_ℤ (weigh_line a b c u v p.at))
        | inr r ↦ elim r [
          | inl k ↦ cancel_neg (Orient u v p) abc (search signs by ap neg_ℤ (weigh_line a b c u v p.at))
          | inr k ↦ cancel_neg (Orient u v p) abc (search signs by ap neg_ℤ (weigh_line a b c u v p.at))
        ]
      ]

  -- p is on the edge a b of two triangles
  pub on_edge_right : (d p : Site) → Left b a d → Between a b p → RightOn u v a → RightOn u v b → RightOn u v c → RightOn u v d → Right u v p
  on_edge_right d p bad i ha hb hc hd =
      let x : Sign true (Orient b c p) = edge_right a b c p abc i by sym (turn p b c) in
      let y : Sign true (Orient c a p) = edge_left a b c p abc i by turn c a p in
      let o = i.on in
      elim (right_or_on u v a ha) [
        | inl k ↦ cancel_neg (Orient u v p) abc (search signs by ap neg_ℤ (weigh_line a b c u v p.at))
        | inr oa ↦ elim (right_or_on u v b hb) [
          | inl k ↦ cancel_neg (Orient u v p) abc (search signs by ap neg_ℤ (weigh_line a b c u v p.at))
          | inr ob ↦ absurd (two_sided oa ob)
        ]
      ]
    where
      -- with a and b on the line, c and d are on its two sides
      two_sided : On u v a → On u v b → ⊥
      two_sided oa ob =
          let r : Sign true (neg_ℤ (Orient a b d)) = bad by sym (swap b a d) in
          elim (right_or_on u v c hc) [
            | inl k ↦ let q : Sign true (Orient a b c *ℤ Orient u v d) = search signs by weigh_line a b c u v d.at in let j : Sign false (neg_ℤ (Orient a b c *ℤ Orient u v d)) = search signs in clash q j
            | inr oc ↦ clash_zero abc (on_three u v a b c uv oa ob oc)
          ]
