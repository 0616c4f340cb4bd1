-- The volume below a map: with every vertex (x, y) lifted to the height x² + y², onto the paraboloid, the faces are a surface; this is six times what lies between it and the plane.
-- Of a face that is twice its area times the heights of its three corners.
use Rattle.std.specs.Prelude.{ℕ, suc, ◌+◌, ◌-◌, ◌*◌}
use Rattle.exact.specs.Plane.{Point, side}
use Rattle.exact.specs.Sums.{sum}
use Rattle.dcel.specs.Map.{Map}
use Rattle.dcel.specs.Geometry.{from, to, apex}

abbrev pub height : Point → ℕ
height p = p.x * p.x + p.y * p.y

-- for p, q, r that turn to the left
unfoldable pub prism : Point → Point → Point → ℕ
prism p q r = ((side p q r).up - (side p q r).down) * (height p + height q + height r)

abbrev pub prism_at : (ℕ → Point) → Map → ℕ → ℕ
prism_at pos m e = prism (from pos m e) (to pos m e) (apex pos m e)

unfoldable pub volume : (ℕ → Point) → Map → ℕ
volume pos m = sum (λ i. prism_at pos m (m.edge (suc i))) (m.faces - 1)
