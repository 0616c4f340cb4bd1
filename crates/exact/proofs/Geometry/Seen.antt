-- What p sees, strictly on its left, as far as it needs no mesh: two edges in a row, two edges on one line, and a triangle beside a line.
use Rattle.std.proofs.Common.{◌⊎◌, sym, ◌∙◌, inl, inr, arith}
use Rattle.std.proofs.lemmas.Int.{ints}
use Rattle.exact.proofs.Algebra.Signs.{split, split_below, is_zero, clash, clash_below, clash_zero}
use Rattle.exact.proofs.Geometry.Words.{Site, Orient, Left, Right, LeftOn, RightOn, On, Apart, Same, Between}
use Rattle.exact.proofs.Geometry.Identities.Sides.{turn, swap, orders, weights}
use Rattle.exact.proofs.Geometry.Triangles.{apart_swap}
use Rattle.exact.proofs.Geometry.Spots.{same_or_apart}
use Rattle.exact.proofs.Geometry.Betweenness.{between_swap, front_left, front_right, back_left, back_right}
use Rattle.exact.proofs.Geometry.Line.{on_pair, on_three, between_one}

-- seen edges u → v → w that do not turn to the left: p sees u → w
pub wider : (u v w p : Site) → Left u v p → Left v w p → RightOn u v w → Left u w p
wider u v w p uv vw r = omega (arith, ints, weights u v w p, orders u w p)

-- c is not between the ends of two edges c → d and c → f that have p on the same side
pub through_left : (c d f p : Site) → Left c d p → Left c f p → Between d f c → ⊥
through_left c d f p cd cf h = elim (split (Orient d f p)) [
  | inl l ↦ (let k = front_left d f c p h l in omega (arith, ints, swap d c p))
  | inr r ↦ clash cf (back_right d f c p h r)
]

pub through_right : (c d f p : Site) → Right c d p → Right c f p → Between d f c → ⊥
through_right c d f p cd cf h = elim (split_below (Orient d f p)) [
  | inl l ↦ clash_below (Orient c f p) (back_left d f c p h l) cf
  | inr r ↦ (let k = front_right d f c p h r in omega (arith, ints, swap d c p))
]

-- so these go the same way
pub one_way : (c d f : Site) → On c d f → Apart c d → Apart c f → (Between d f c → ⊥) → Same d f ⊎ Between c d f ⊎ Between c f d
one_way c d f e cd cf n = elim (same_or_apart d f) [
  | inl s ↦ inl s
  | inr a ↦ elim (between_one d f c (sym (turn c d f) ∙ e) a (apart_swap c d cd) (apart_swap c f cf)) [
    | inl h ↦ absurd (n h)
    | inr r ↦ elim r [ inl h ↦ inr (inl (between_swap d c f h)) | inr h ↦ inr (inr h) ]
  ]
]

-- an edge u → d on the line of a seen one, not seen itself, is not right of or on u → p
pub turned_away : (u s d p : Site) → Left u s p → RightOn u d p → RightOn u p d → On u s d → Apart u d → ⊥
turned_away u s d p us ud up e a =
    let l : LeftOn u d p = omega (arith, ints, orders u d p) in
    let z : On u d s = omega (arith, ints, orders u s d) in
    clash_zero us (on_pair u d s p a z (is_zero l ud))

-- of a triangle that is right of or on a line one corner is strictly right of it
pub some_beside : (u v a b c : Site) → Apart u v → Left a b c → RightOn u v a → RightOn u v b → RightOn u v c → Right u v a ⊎ Right u v b ⊎ Right u v c
some_beside u v a b c uv t ha hb hc = elim (split_below (Orient u v a)) [
  | inr r ↦ inl r
  | inl la ↦ elim (split_below (Orient u v b)) [
    | inr r ↦ inr (inl r)
    | inl lb ↦ elim (split_below (Orient u v c)) [
      | inr r ↦ inr (inr r)
      | inl lc ↦ absurd (clash_zero t (on_three u v a b c uv (is_zero la ha) (is_zero lb hb) (is_zero lc hc)))
    ]
  ]
]
