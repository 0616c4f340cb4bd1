-- Two statements that are promised of the plane, unfolded: turning three points keeps the tests of sides and circles, and swapping two turns them round;
-- and one test of a circle decides between the two diagonals of four points.
use Rattle.std.proofs.Common.{◌≡◌, true}
use Rattle.exact.specs.Plane.{Point, circle, side, above_0, below_0, left_of}
use Rattle.exact.proofs.Algebra.Tests.{above_same, above_opposite}
use Rattle.exact.proofs.Geometry.Words.{orient, incircle, Site}
use Rattle.exact.proofs.Geometry.Identities.Sides.{turn, swap}
use Rattle.exact.proofs.Geometry.Identities.Circles.{circle_turn, circle_swap, circle_round, circle_last_three}

pub turns :
    (p q r s : Point) → p.w ≡ 1 → q.w ≡ 1 → r.w ≡ 1 → s.w ≡ 1 →
    (above_0 (circle p q r s) ≡ above_0 (circle q r p s)) × (above_0 (circle p q r s) ≡ below_0 (circle q p r s))
    × (above_0 (side p q r) ≡ above_0 (side q r p)) × (above_0 (side p q r) ≡ below_0 (side q p r))
unfolding orient incircle
turns p q r s hp hq hr hs =
    let a : Site = record { at = p; whole = hp } in let b : Site = record { at = q; whole = hq } in
    let c : Site = record { at = r; whole = hr } in let d : Site = record { at = s; whole = hs } in (
      above_same (circle p q r s) (circle q r p s) (circle_turn a b c d),
      above_opposite (circle p q r s) (circle q p r s) (circle_swap a b c d),
      above_same (side p q r) (side q r p) (turn a b c),
      above_opposite (side p q r) (side q p r) (swap a b c),
    )

pub one_diagonal :
    (p q r s : Point) → p.w ≡ 1 → q.w ≡ 1 → r.w ≡ 1 → s.w ≡ 1 →
    left_of p q r ≡ true → left_of p r s ≡ true → left_of q r s ≡ true → left_of q s p ≡ true →
    (above_0 (circle p q r s) ≡ below_0 (circle q r s p)) × (above_0 (circle p q r s) ≡ above_0 (circle p r s q))
unfolding incircle
one_diagonal p q r s hp hq hr hs _ _ _ _ =
    let a : Site = record { at = p; whole = hp } in let b : Site = record { at = q; whole = hq } in
    let c : Site = record { at = r; whole = hr } in let d : Site = record { at = s; whole = hs } in
    (above_opposite (circle p q r s) (circle q r s p) (circle_round a b c d), above_same (circle p q r s) (circle p r s q) (circle_last_three a b c d))
