-- A vertex outside: attached to an outer half edge that has it on its left, and then ears closed both ways while it sees the next outer half edge.
use Rattle.std.specs.Prelude.{ℕ, ◌+◌, ◌*◌, List, Some, None, Option}
use Rattle.exact.specs.Plane.{pick, Point, point}
use Rattle.dcel.specs.Layout.{Size, edge_next, edge_prev}
use Rattle.dcel.specs.Memory.{cell, half_edges_in}
use Rattle.dcel.specs.Operations.{apply_with, ear_closed}
use Rattle.dcel.specs.Surgery.{attach_change}
use Rattle.delaunay.specs.declared.outside.Way.{Way}
use Rattle.delaunay.specs.declared.outside.Way.TheVariants.{Ahead, Behind}
use Rattle.delaunay.specs.Iterate.{or_else, iterate}
use Rattle.delaunay.specs.Walk.{left_at}
use Rattle.delaunay.specs.Worklist.{pushed_face}

-- memory, and the outer half edge that leaves the vertex or comes to it
pub record Rim : Type 0 where
  pub words : List ℕ
  pub edge : ℕ

abbrev pub rim : List ℕ → ℕ → Rim
rim m e = record { words = m; edge = e }

-- the ear of e and the one after it: a new outer half edge in their place
unfoldable pub ear_listed : Size → List ℕ → ℕ → List ℕ
ear_listed s m e = pushed_face s (ear_closed s m e) e

-- the half edge whose ear is to close, if the vertex sees the next outer half edge: ahead it is e, which leaves the vertex, and behind the one before e, which comes to it
unfoldable pub ear_seen : Size → Way → Point → List ℕ → ℕ → Option ℕ
ear_seen s Ahead p m e = pick (left_at s m (cell s edge_next m e) p) (Some e) None
ear_seen s Behind p m e = pick (left_at s m (cell s edge_prev m e) p) (Some (cell s edge_prev m e)) None

unfoldable pub closed_on : Size → Way → Point → Rim → Option Rim
closed_on s way p r =
    or_else (ear_seen s way p r.words r.edge) None (λ h. Some (rim (ear_listed s r.words h) (half_edges_in s r.words)))

unfoldable pub ear_fuel : Size → ℕ
ear_fuel s = 6 * s.vertices

unfoldable pub ears_closed : Size → Way → Point → List ℕ → ℕ → List ℕ
ears_closed s way p m e = (iterate (closed_on s way p) (ear_fuel s) (rim m e)).words

-- of the new half edges the second leaves the vertex and the fourth comes to it
unfoldable pub put_outside : Size → List ℕ → ℕ → ℕ → ℕ → ℕ → List ℕ
put_outside s m e x y d =
    let m₁ = pushed_face s (apply_with s attach_change m e x y d) e in
    let m₂ = ears_closed s Ahead (point x y) m₁ (half_edges_in s m + 1) in
    ears_closed s Behind (point x y) m₂ (half_edges_in s m + 3)
