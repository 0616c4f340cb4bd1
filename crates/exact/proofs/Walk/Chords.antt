-- Chords of a circle: b, a, d turn left and z is on their circle. What is right of one of the edges a → d and d → b is right of a → b, by which the triangle was entered.
use Rattle.std.proofs.Common.{◌≡◌, pos, ◌*ℤ◌, neg_ℤ, sym, ap, ◌∙◌, inl, inr}
use Rattle.std.proofs.Math.IntN.{neg_ℤ-neg_ℤ}
use Rattle.exact.proofs.Algebra.Signs.{◌⊙◌, ◌by◌, split, clash, clash_below}
use Rattle.exact.proofs.Geometry.Words.{Site, Orient, Incircle, Dist², Left, LeftOn, Right, RightOn, Apart, signs}
use Rattle.exact.proofs.Geometry.Identities.Sides.{swap}
use Rattle.exact.proofs.Geometry.Identities.Circles.{circle_swap, circle_vectors}
use Rattle.exact.proofs.Geometry.Triangles.{left_apart, apart_swap}

module _ (a b d z : Site) (bad : Left b a d) (on : Incircle b a d z ≡ pos 0) where
  ba : Apart b a
  ba = left_apart b a d bad

  -- otherwise all terms of the four points, seen from a, have one sign
  pub chord_from_start : Right a d z → Right a b z
  chord_from_start adz = elim (split (neg_ℤ (Orient a b z))) [
    | inl h ↦ h
    | inr h ↦
        let daz : Left d a z = adz by swap d a z in
        let abd : Right a b d = bad by sym (swap b a d) in
        let baz : RightOn b a z = h by ap neg_ℤ (swap b a z) in
        let flat : Incircle a b d z ≡ pos 0 = circle_swap a b d z ∙ ap neg_ℤ on in
        absurd (clash (daz ⊙ apart_swap b a ba) (search signs by ap neg_ℤ (circle_vectors a b d z)))
  ]

  -- and seen from b
  pub chord_from_end : Right d b z → Right a b z
  chord_from_end dbz = elim (split (neg_ℤ (Orient a b z))) [
    | inl h ↦ h
    | inr h ↦
        let abz : LeftOn a b z = h by sym (neg_ℤ-neg_ℤ (Orient a b z)) in
        let apart = ba in let flat = on in
        absurd (clash_below (Orient d b z *ℤ Dist² b a) (search signs by circle_vectors b a d z) (search signs))
  ]
