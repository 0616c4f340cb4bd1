-- Flipping: the edge a b of the triangles a b c and b a d becomes d c. And chords of a circle, which are the same with all four on it.
use Rattle.std.proofs.Common.{◌≡◌, true, false, ◌⊎◌, ℤ, ◌+ℤ◌, ◌-ℤ◌, neg_ℤ, sym, ap, ◌∙◌, inl, inr, arith}
use Rattle.std.proofs.Math.IntN.{neg_ℤ-neg_ℤ}
use Rattle.std.proofs.lemmas.Int.{ints}
use Rattle.exact.proofs.Algebra.Signs.{Sign, ◌by◌, weak, split, zero_sign, left_factor}
use Rattle.exact.proofs.Geometry.Words.{Site, Orient, Incircle, Dist², Volume, Left, Right, InTriangle, signs}
use Rattle.exact.proofs.Geometry.Identities.Sides.{turn, swap, start_on, end_on, orders}
use Rattle.exact.proofs.Geometry.Identities.Circles.{circle_turn, circle_last_three, circle_across, circle_diagonal, circle_vectors, volume_flip}
use Rattle.exact.proofs.Geometry.Triangles.{apart_swap, corners_apart, corners_left}

-- d is inside the circle or on it, so both new triangles turn to the left
pub flip_left : (a b c d : Site) → Left a b c → Left b a d → Sign false (Incircle a b c d) → Left c a d
flip_left a b c d abc bad i =
    let ac = apart_swap c a (corners_apart a b c abc).2 in
    left_factor (Orient c a d) (Dist² a b) (search signs by circle_vectors a b c d) (search signs)

pub flip_right : (a b c d : Site) → Left a b c → Left b a d → Sign false (Incircle a b c d) → Left d b c
flip_right a b c d abc bad i = flip_left b a d c bad abc (i by circle_across a b c d)

-- and the new edge is locally Delaunay: b is strictly outside the circle of d c a
pub flip_outside : (a b c d : Site) → Sign true (Incircle a b c d) → Sign true (neg_ℤ (Incircle d c a b))
flip_outside a b c d i = i by ap neg_ℤ (circle_diagonal a b c d) ∙ neg_ℤ-neg_ℤ (Incircle a b c d)

-- what the new triangles hold the old ones held (no circle is asked for: also for flips that take a vertex out)
pub flip_in_left : (a b c d z : Site) → Left a b c → Left b a d → Left c a d → Left d b c → InTriangle c a d z → InTriangle a b c z ⊎ InTriangle b a d z
flip_in_left a b c d z abc bad cad dbc i = elim (split (Orient a b z)) [
  | inl h ↦ inl (record {
    ab = weak h;
    bc = corners_left c a d b c z.at cad (zero_sign (end_on b c)) (weak abc by sym (turn a b c)) (weak dbc by sym (turn d b c)) i;
    ca = i.ab;
  })
  | inr h ↦ inr (record {
    ab = h by swap b a z;
    bc = i.bc;
    ca = corners_left c a d d b z.at cad (weak dbc) (weak bad by turn d b a) (zero_sign (start_on d b)) i;
  })
]

pub flip_in_right : (a b c d z : Site) → Left a b c → Left b a d → Left c a d → Left d b c → InTriangle d b c z → InTriangle a b c z ⊎ InTriangle b a d z
flip_in_right a b c d z abc bad cad dbc i = elim (flip_in_left b a d c z bad abc dbc cad i) [ inl h ↦ inr h | inr h ↦ inl h ]

-- the fourth corner is in neither
pub flip_not_left : (a b c d : Site) → Left d b c → InTriangle c a d b → ⊥
flip_not_left a b c d dbc i = let r = i.ca in omega (arith, ints, orders d b c)

pub flip_not_right : (a b c d : Site) → Left c a d → InTriangle d b c a → ⊥
flip_not_right a b c d cad i = let r = i.ca in omega (arith, ints, orders c a d)

-- the volume falls
pub volume_falls : (a b c d : Site) → Sign true (Incircle a b c d) → Sign true (Volume a b c +ℤ Volume b a d -ℤ (Volume c a d +ℤ Volume d b c))
volume_falls a b c d h = h by less (Volume a b c +ℤ Volume b a d) (Volume c a d +ℤ Volume d b c) (Incircle a b c d) (volume_flip a b c d)
  where
    less : (x y m : ℤ) → x ≡ y +ℤ m → x -ℤ y ≡ m
    less x y m e = omega (arith, ints)

-- ---- chords: w is on the circle of the left-turning b, a, d, or inside it; what is beyond a → d, or beyond d → b, is beyond a → b
pub chord_start : (a b d w : Site) → Sign false (Incircle b a d w) → Right a b d → Right a d w → Right a b w
chord_start a b d w i abd adw = flip_left a d b w (abd by (orders a b d).3) (adw by swap d a w) (i by circle_turn a d b w ∙ circle_turn d b a w) by sym (swap b a w)

pub chord_end : (a b d w : Site) → Sign false (Incircle b a d w) → Right a b d → Right d b w → Right a b w
chord_end a b d w i abd dbw = flip_left b d w a (dbw by swap b d w) (abd by (orders a b d).4) (i by sym (circle_last_three b a d w)) by sym (orders a b w).4
