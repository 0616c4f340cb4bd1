-- The fuel of the two loops is enough: there are no more vertices and faces than there is room for.
use Rattle.std.proofs.Common.{ℕ, suc, ◌+◌, ◌*◌, ◌≤◌, List, mul-le-mul, arith}
use Rattle.dcel.specs.Layout.{Size, header}
use Rattle.dcel.specs.Memory.{cell, map_of, vertex_count, face_count}
use Rattle.delaunay.specs.Walk.{walk_fuel, line_fuel}
use Rattle.dcel.proofs.Becoming.{at_most_below}

module _ (s : Size) (m : List ℕ) where
  pub line_fuel_enough : (map_of s m).vertices ≤ line_fuel s
  unfolding line_fuel
  line_fuel_enough = omega (arith, at_most_below s.vertices (cell s header m vertex_count))

  pub walk_fuel_enough : (map_of s m).faces * suc (map_of s m).vertices ≤ walk_fuel s
  unfolding walk_fuel
  walk_fuel_enough = mul-le-mul {n₁ = (map_of s m).faces} {m₁ = suc (map_of s m).vertices} {n₂ = 2 * s.vertices + 1} {m₂ = s.vertices + 1}
      (omega (arith, at_most_below (2 * s.vertices) (cell s header m face_count))) (omega (arith, at_most_below s.vertices (cell s header m vertex_count)))
