-- A mesh of half edges as functions: what comes next and before, the face on the left, the vertex at the start.
use Rattle.std.specs.Prelude.{ℕ, ◌+◌, ◌-◌, ◌*◌, ◌%◌}

-- the other half of an edge: the last bit turned
unfoldable pub twin : ℕ → ℕ
twin e = e + 1 - 2 * (e % 2)

-- face 0 is the outside; `edge` has one half edge of each face, `out` one that leaves each vertex
pub record Map : Type 0 where
  pub next : ℕ → ℕ
  pub prev : ℕ → ℕ
  pub face : ℕ → ℕ
  pub origin : ℕ → ℕ
  pub edge : ℕ → ℕ
  pub out : ℕ → ℕ
  pub vertices : ℕ
  pub half_edges : ℕ
  pub faces : ℕ
