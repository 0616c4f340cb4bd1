-- Outside the hull: the two tangents from p. Outer edges have everything on their right.
-- s → v and u → s are seen from p, which is strictly left of them; v → w and t → u are not.
use Rattle.std.proofs.Common.{◌≡◌, true, false, ℤ, pos, ◌*ℤ◌, neg_ℤ, sym, ap, ◌∙◌, inl, inr, arith}
use Rattle.std.proofs.Math.IntN.{neg_ℤ-neg_ℤ, *ℤ_comm}
use Rattle.std.proofs.lemmas.Int.{ints}
use Rattle.exact.proofs.Algebra.Signs.{Sign, ◌⊙◌, ◌by◌, split, is_zero, clash, left_zero, neg_left, cancel, cancel_neg, cancel_zero}
use Rattle.exact.proofs.Geometry.Words.{Site, Orient, Dot, Left, Right, RightOn, On, Apart, Between, signs}
use Rattle.exact.proofs.Geometry.Identities.Sides.{turn, swap, orders, three_terms}
use Rattle.exact.proofs.Geometry.Identities.Dots.{dot_swap, dot_same, three_terms_dot}
use Rattle.exact.proofs.Geometry.Triangles.{left_apart, apart_swap}
use Rattle.exact.proofs.Geometry.Betweenness.{front_left, front_right, ends_right}

-- ---- tangents: z is right of or on p → v, and of u → p. Without the bend it is false: s (0, 0), v (2, 0), w (1, 0), p (2, 1), z (3, 0) are all on one line but p
pub tangent_end : (s v w p z : Site) → Left s v p → RightOn v w p → RightOn s v z → RightOn v w z → Right s v w → RightOn p v z
tangent_end s v w p z svp vwp svz vwz svw =
    let h₀ : Sign true (Orient v s w) = svw by swap v s w in
    let h₁ : Sign true (neg_ℤ (Orient v s p)) = svp by sym (swap s v p) in
    let h₂ : Sign false (Orient v s z) = svz by swap v s z in
    cancel h₀ (search signs by three_terms v s w p z) by sym (swap v p z)

pub tangent_start : (t u s p z : Site) → RightOn t u p → Left u s p → RightOn t u z → RightOn u s z → Right t u s → RightOn u p z
tangent_start t u s p z tup usp tuz usz tus =
    let h₀ : Sign true (Orient u t s) = tus by swap u t s in
    let h₁ : Sign false (Orient u t p) = tup by swap u t p in
    let h₂ : Sign false (Orient u t z) = tuz by swap u t z in
    cancel_neg (Orient u p z) h₀ (search signs by ap neg_ℤ (three_terms u t s p z))

-- s, v, w do bend, unless all are on a line: o is any vertex beside it
pub bends_end : (s v w p o : Site) → Left s v p → RightOn v w p → RightOn s v w → Apart v w → Right s v o → RightOn v w o → Right s v w
bends_end s v w p o svp vwp svw vw svo vwo = elim (split (neg_ℤ (Orient s v w))) [
  | inl h ↦ h
  | inr h ↦ absurd (no (is_zero (h by sym (neg_ℤ-neg_ℤ (Orient s v w))) svw))
]
  where
    no : Orient s v w ≡ pos 0 → ⊥
    no e =
        let f : Orient v s w ≡ pos 0 = omega (arith, ints, swap v s w) in
        let h₁ : Sign true (neg_ℤ (Orient v s p)) = svp by sym (swap s v p) in
        let h₂ : Sign true (Orient v s o) = svo by swap v s o in
        let m₁ : Sign false (Orient v s p *ℤ Orient v w o) = search signs in
        let m₂ : Sign false (neg_ℤ (Orient v s o *ℤ Orient v w p)) = search signs in
        let n : Orient v s o *ℤ Orient v w p ≡ pos 0 = omega (arith, ints, three_terms v s w p o, left_zero (Orient v s w) (Orient v p o) f) in
        let g : Orient v w p ≡ pos 0 = cancel_zero h₂ n in
        let q : Sign true (Dot v w w) = vw by dot_same v.at w.at in
        let l : Sign true (neg_ℤ (Dot v w w *ℤ Orient v s p)) = search signs in
        clash l (search signs by ap (λ (x : ℤ). neg_ℤ (neg_ℤ x)) (three_terms_dot v.at w.at w.at s.at p.at))

pub bends_start : (t u s p o : Site) → RightOn t u p → Left u s p → RightOn t u s → Apart t u → RightOn t u o → Right u s o → Right t u s
bends_start t u s p o tup usp tus tu tuo uso = elim (split (neg_ℤ (Orient t u s))) [
  | inl h ↦ h
  | inr h ↦ absurd (no (is_zero (h by sym (neg_ℤ-neg_ℤ (Orient t u s))) tus))
]
  where
    no : Orient t u s ≡ pos 0 → ⊥
    no e =
        let f : Orient u t s ≡ pos 0 = omega (arith, ints, swap u t s) in
        let f' : Orient u s t ≡ pos 0 = omega (arith, ints, orders t u s) in
        let h₁ : Sign false (Orient u t p) = tup by swap u t p in
        let h₂ : Sign false (Orient u t o) = tuo by swap u t o in
        let m₁ : Sign false (neg_ℤ (Orient u s o *ℤ Orient u t p)) = search signs in
        let m₂ : Sign false (Orient u t o *ℤ Orient u s p) = search signs in
        let n : neg_ℤ (Orient u s o) *ℤ Orient u t p ≡ pos 0 = sym (neg_left (Orient u s o) (Orient u t p)) ∙ omega (arith, ints, three_terms u t s p o, left_zero (Orient u t s) (Orient u p o) f, *ℤ_comm (Orient u t p) (Orient u s o)) in
        let g : Orient u t p ≡ pos 0 = cancel_zero uso n in
        let q : Sign true (Dot u t t) = apart_swap t u tu by dot_same u.at t.at in
        let l : Sign true (Dot u t t *ℤ Orient u s p) = q ⊙ usp in
        clash l (search signs by ap neg_ℤ (three_terms_dot u.at t.at t.at s.at p.at))

-- both: o is the third corner of the face on s → v, and of the one on u → s
pub tangent_end_at : (s v w p o z : Site) → Left s v p → RightOn v w p → RightOn s v w → Apart v w → Right s v o → RightOn v w o → RightOn s v z → RightOn v w z → RightOn p v z
tangent_end_at s v w p o z svp vwp svw vw svo vwo svz vwz = tangent_end s v w p z svp vwp svz vwz (bends_end s v w p o svp vwp svw vw svo vwo)

pub tangent_start_at : (t u s p o z : Site) → RightOn t u p → Left u s p → RightOn t u s → Apart t u → RightOn t u o → Right u s o → RightOn t u z → RightOn u s z → RightOn u p z
tangent_start_at t u s p o z tup usp tus tu tuo uso tuz usz = tangent_start t u s p z tup usp tuz usz (bends_start t u s p o tup usp tus tu tuo uso)

-- p itself is on no edge that has both ends right of or on s → v
pub outside_edge : (s v p c d : Site) → Left s v p → RightOn s v c → RightOn s v d → Between c d p → ⊥
outside_edge s v p c d svp svc svd h = clash svp (ends_right c d p s v svc svd h)

-- nothing that is right of or on s → v is strictly between v and p
pub free_end : (s v p z : Site) → Left s v p → Between v p z → Left s v z
free_end s v p z svp h = front_left v p z s h (svp by sym (turn s v p)) by turn s v z

pub free_start : (u s p z : Site) → Left u s p → Between u p z → Left u s z
free_start u s p z usp h = front_right u p z s h (usp by sym (orders u p s).3) by (orders u z s).3

-- all on a line with v its end: nothing is beyond v
pub tangent_line_end : (s v p z : Site) → Left s v p → On s v z → Sign false (Dot v s z) → RightOn p v z
tangent_line_end s v p z svp e d =
    let f : Orient v s z ≡ pos 0 = omega (arith, ints, swap v s z) in
    let a : Sign true (Dot v s s) = apart_swap s v (left_apart s v p svp) by dot_same v.at s.at in
    let b : Sign true (Orient v p s) = svp by sym (turn s v p) in
    let c : Sign false (Dot v z s) = d by dot_swap v.at z.at s.at in
    cancel a (search signs by three_terms_dot v.at s.at s.at p.at z.at) by sym (swap v p z)

pub tangent_line_start : (u s p z : Site) → Left u s p → On u s z → Sign false (Dot u s z) → RightOn u p z
tangent_line_start u s p z usp e d =
    let a : Sign true (Dot u s s) = left_apart u s p usp by dot_same u.at s.at in
    let b : Sign true (neg_ℤ (Orient u p s)) = usp by sym (orders u p s).3 in
    let c : Sign false (Dot u z s) = d by dot_swap u.at z.at s.at in
    cancel_neg (Orient u p z) a (search signs by ap neg_ℤ (three_terms_dot u.at s.at s.at p.at z.at))
