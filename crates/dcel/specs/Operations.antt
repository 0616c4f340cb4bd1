-- The surgeries on memory: what is written, and what holds after it.
use Rattle.std.specs.Prelude.{ℕ, ◌%◌, ◌<◌, List}
use Rattle.dcel.specs.Layout.{Size}
use Rattle.dcel.specs.Map.{Map}
use Rattle.dcel.specs.Patch.{Change, Patch}
use Rattle.dcel.specs.Surgery.{flip_change, ear_change}
use Rattle.dcel.specs.Memory.{put_vertex, rewire, apply, vertices_in, map_of}
use Rattle.dcel.specs.Holds.{Holds, sites_of, with_site, Becomes}

-- a change with a new vertex, put after the last one
abbrev pub apply_with : Size → (Map → ℕ → Change) → List ℕ → ℕ → ℕ → ℕ → ℕ → List ℕ
apply_with s change m e x y d = apply s (change (map_of s m) e) (put_vertex s m (vertices_in s m) x y d)

-- at a place of the right kind, memory comes to hold the patched mesh: with the vertices that it has, or with a new one if there is room
abbrev pub Keeps : Size → (Map → ℕ → Type 0) → (Map → ℕ → Patch) → List ℕ → ℕ → List ℕ → Type 0
Keeps s May patch m e n = Holds s m → May (map_of s m) e → Becomes s m (patch (map_of s m) e) (sites_of s m) n

abbrev pub Grows : Size → (Map → ℕ → Type 0) → (Map → ℕ → Patch) → List ℕ → ℕ → ℕ → ℕ → ℕ → List ℕ → Type 0
Grows s May patch m e x y d n =
    Holds s m → May (map_of s m) e → vertices_in s m < s.vertices →
    Becomes s m (patch (map_of s m) e) (with_site (sites_of s m) (vertices_in s m) (x % s.coordinates) (y % s.coordinates) d) n

abbrev pub flipped : Size → List ℕ → ℕ → List ℕ
flipped s m e = rewire s (flip_change (map_of s m) e) m

abbrev pub ear_closed : Size → List ℕ → ℕ → List ℕ
ear_closed s m e = apply s (ear_change (map_of s m) e) m
