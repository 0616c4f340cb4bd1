-- Vertices on one line, as one alone is, have no triangle: that is their triangulation.
use Rattle.std.proofs.Common.{◌≡◌, ◌≤◌, true, List, [], ◌∷◌, length, refl, arith}
use Rattle.exact.specs.Plane.{Vertex, on_a_line, Delaunay}
use Rattle.exact.proofs.Booleans.{true_false}

pub few_on_line : (vs : List Vertex) → length vs ≤ 1 → on_a_line vs ≡ true
unfolding on_a_line
few_on_line [] l = refl
few_on_line (v ∷ []) l = refl
few_on_line (v ∷ u ∷ vs) l = absurd (omega arith)

pub line_delaunay : (vs : List Vertex) → on_a_line vs ≡ true → Delaunay vs []
unfolding Delaunay
line_delaunay vs line = (λ _. refl, λ off. absurd (true_false (on_a_line vs) line off))
