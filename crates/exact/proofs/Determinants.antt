-- The two determinants of the plane by the products of vectors that the code computes.
use Rattle.std.proofs.Common.{◌≡◌, ℕ, [], ◌∷◌, ℤ, pos, ◌+ℤ◌, ◌-ℤ◌, ◌*ℤ◌, refl}
use Rattle.exact.specs.Plane.{point, side, circle}
use Rattle.exact.specs.Verdicts.{scalar}
use Rattle.exact.proofs.Algebra.Integers.{value}
use Rattle.exact.proofs.Algebra.Ring.{ring}
use Rattle.exact.proofs.Geometry.Reading.{sites, made_points}
use Rattle.exact.proofs.Geometry.Words.{Site, orient, incircle, dot}

abbrev pub gap : ℕ → ℕ → ℤ
gap a b = pos b -ℤ pos a

abbrev pub crossed : ℤ → ℤ → ℤ → ℤ → ℤ
crossed ax ay bx by = ax *ℤ by -ℤ ay *ℤ bx

abbrev pub dotted : ℤ → ℤ → ℤ → ℤ → ℤ
dotted ax ay bx by = ax *ℤ bx +ℤ ay *ℤ by

abbrev spot : ℕ → ℕ → Site
spot x y = record { at = point x y; whole = refl }

pub side_is : (px py qx qy rx ry : ℕ) → value (side (point px py) (point qx qy) (point rx ry)) ≡ crossed (gap px qx) (gap py qy) (gap px rx) (gap py ry)
unfolding orient
side_is px py qx qy rx ry = turned
  where
    turned : orient (point px py) (point qx qy) (point rx ry) ≡ crossed (gap px qx) (gap py qy) (gap px rx) (gap py ry)
    turned = ring (sites (spot px py ∷ spot qx qy ∷ spot rx ry ∷ [])) (search made_points depth 20 fits 20000) refl

pub scalar_is : (vx vy ax ay bx by : ℕ) → value (scalar (point vx vy) (point ax ay) (point bx by)) ≡ dotted (gap vx ax) (gap vy ay) (gap vx bx) (gap vy by)
unfolding dot
scalar_is vx vy ax ay bx by = seen
  where
    seen : dot (point vx vy) (point ax ay) (point bx by) ≡ dotted (gap vx ax) (gap vy ay) (gap vx bx) (gap vy by)
    seen = ring (sites (spot vx vy ∷ spot ax ay ∷ spot bx by ∷ [])) (search made_points depth 20 fits 20000) refl

-- by the sines and cosines of the angles in which s and r see p and q
pub circle_is : (px py qx qy rx ry sx sy : ℕ) →
    value (circle (point px py) (point qx qy) (point rx ry) (point sx sy))
    ≡ crossed (gap sx px) (gap sy py) (gap sx qx) (gap sy qy) *ℤ dotted (gap rx px) (gap ry py) (gap rx qx) (gap ry qy)
    -ℤ crossed (gap rx px) (gap ry py) (gap rx qx) (gap ry qy) *ℤ dotted (gap sx px) (gap sy py) (gap sx qx) (gap sy qy)
unfolding incircle
circle_is px py qx qy rx ry sx sy = by_angles
  where
    by_angles : incircle (point px py) (point qx qy) (point rx ry) (point sx sy)
        ≡ crossed (gap sx px) (gap sy py) (gap sx qx) (gap sy qy) *ℤ dotted (gap rx px) (gap ry py) (gap rx qx) (gap ry qy)
        -ℤ crossed (gap rx px) (gap ry py) (gap rx qx) (gap ry qy) *ℤ dotted (gap sx px) (gap sy py) (gap sx qx) (gap sy qy)
    by_angles = ring (sites (spot px py ∷ spot qx qy ∷ spot rx ry ∷ spot sx sy ∷ [])) (search made_points depth 20 fits 20000) refl
