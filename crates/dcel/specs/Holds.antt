-- Memory that holds a mesh, and memory after a surgery.
use Rattle.std.specs.Prelude.{◌≡◌, ℕ, ◌≤◌, List, [], ◌∷◌, length}
use Rattle.dcel.specs.Layout.{Size, header, vertex_data, worklist, total}
use Rattle.dcel.specs.Pairs.{changed}
use Rattle.dcel.specs.Mesh.{Mesh}
use Rattle.dcel.specs.Patch.{Patch, patched}
use Rattle.dcel.specs.Memory.{cell, map_of, x_in, y_in}

pub record Holds (s : Size) (m : List ℕ) : Type 0 where
  pub long : length m ≡ total s
  pub mesh : Mesh (map_of s m)

-- where the vertices are, and their data
pub record Sites : Type 0 where
  pub x : ℕ → ℕ
  pub y : ℕ → ℕ
  pub data_of : ℕ → ℕ

abbrev pub sites_of : Size → List ℕ → Sites
sites_of s m = record { x = x_in s m; y = y_in s m; data_of = cell s vertex_data m }

abbrev pub with_site : Sites → ℕ → ℕ → ℕ → ℕ → Sites
with_site t v x y d = record { x = changed ((v, x) ∷ []) t.x; y = changed ((v, y) ∷ []) t.y; data_of = changed ((v, d) ∷ []) t.data_of }

-- n has the map of m, patched, and the sites t; all else is as it was
pub record Rewritten (s : Size) (m : List ℕ) (p : Patch) (t : Sites) (n : List ℕ) : Type 0 where
  pub long : length n ≡ total s
  pub map_is : map_of s n ≡ patched p (map_of s m)
  pub sites_are : sites_of s n ≡ t
  pub header_is : (i : ℕ) → 3 ≤ i → cell s header n i ≡ cell s header m i
  pub worklist_is : (i : ℕ) → cell s worklist n i ≡ cell s worklist m i

-- and it is a mesh
pub record Becomes (s : Size) (m : List ℕ) (p : Patch) (t : Sites) (n : List ℕ) : Type 0 where
  pub holds : Holds s n
  pub wrote : Rewritten s m p t n
