-- The first vertices: memory without a vertex, with one that has no half edge, and with two that a pair joins.
use Rattle.std.specs.Prelude.{◌≡◌, ℕ, ◌%◌, ◌<◌, ◌≤◌, List, [], ◌∷◌, length}
use Rattle.dcel.specs.Layout.{Size, total}
use Rattle.dcel.specs.Patch.{Change, patch_of}
use Rattle.dcel.specs.Memory.{apply, put_vertex, vertices_in, half_edges_in, faces_in}
use Rattle.dcel.specs.Holds.{Sites, sites_of, with_site, Rewritten, Becomes}

-- k vertices, no half edge, and no face but the outside, which need not be counted yet
pub record Bare (s : Size) (k : ℕ) (m : List ℕ) : Type 0 where
  pub long : length m ≡ total s
  pub vertices_are : vertices_in s m ≡ k
  pub half_edges_are : half_edges_in s m ≡ 0
  pub faces_few : faces_in s m ≤ 1

abbrev pub bare_change : ℕ → Change
bare_change k = record { triangles = []; chain = []; others = []; origins = []; outs = []; vertices = k; half_edges = 0; faces = 1 }

-- half edges 0 from vertex 0 to vertex 1, and 1 back
abbrev pub pair_change : Change
pair_change = record {
  triangles = [];
  chain = (0, 1) ∷ (1, 0) ∷ [];
  others = (0, 0) ∷ (1, 0) ∷ [];
  origins = (0, 0) ∷ (1, 1) ∷ [];
  outs = (0, 0) ∷ (1, 1) ∷ [];
  vertices = 2;
  half_edges = 2;
  faces = 1;
}

pub record Begins (s : Size) (m : List ℕ) (k : ℕ) (t : Sites) (n : List ℕ) : Type 0 where
  pub bare : Bare s k n
  pub wrote : Rewritten s m (patch_of (bare_change k)) t n

abbrev pub cleared : Size → List ℕ → List ℕ
cleared s m = apply s (bare_change 0) m

abbrev pub Clears : Size → List ℕ → List ℕ → Type 0
Clears s m n = length m ≡ total s → 0 < s.vertices → Begins s m 0 (sites_of s m) n

abbrev pub first_put : Size → List ℕ → ℕ → ℕ → ℕ → List ℕ
first_put s m x y d = apply s (bare_change 1) (put_vertex s m 0 x y d)

abbrev pub PutsFirst : Size → List ℕ → ℕ → ℕ → ℕ → List ℕ → Type 0
PutsFirst s m x y d n = Bare s 0 m → 0 < s.vertices → Begins s m 1 (with_site (sites_of s m) 0 (x % s.coordinates) (y % s.coordinates) d) n

abbrev pub second_put : Size → List ℕ → ℕ → ℕ → ℕ → List ℕ
second_put s m x y d = apply s pair_change (put_vertex s m 1 x y d)

abbrev pub PutsSecond : Size → List ℕ → ℕ → ℕ → ℕ → List ℕ → Type 0
PutsSecond s m x y d n = Bare s 1 m → 1 < s.vertices → Becomes s m (patch_of pair_change) (with_site (sites_of s m) 1 (x % s.coordinates) (y % s.coordinates) d) n
