-- Flipping until every edge is right: a list of edges still to be looked at, and the loop that works it off.
use Rattle.std.specs.Prelude.{◌≡◌, ℕ, zero, suc, ◌<◌, Bool, false, not, ◌&&◌, ◌≢◌, ◌⊎◌, List, [], ◌∷◌, ◌==◌}
use Rattle.exact.specs.Plane.{Point, pick}
use Rattle.dcel.specs.Map.{Map, twin}
use Rattle.dcel.specs.Patch.{patched}
use Rattle.dcel.specs.Surgery.{flip_patch}
use Rattle.dcel.specs.Geometry.{wrong}

-- an edge is listed if one of its halves is
abbrev pub EdgeListed : (ℕ → Type 0) → ℕ → Type 0
EdgeListed Listed e = Listed e ⊎ Listed (twin e)

-- every edge between two faces that is not listed is right; with nothing listed that is to be at rest
abbrev pub Ready : (ℕ → Point) → Map → (ℕ → Type 0) → Type 0
Ready pos m Listed = (e : ℕ) → e < m.half_edges → m.face e ≢ 0 → m.face (twin e) ≢ 0 → (EdgeListed Listed e → ⊥) → wrong pos m e ≡ false

abbrev pub flip : Map → ℕ → Map
flip m e = patched (flip_patch m e) m

-- is e between two faces, and wrong?
unfoldable pub illegal : (ℕ → Point) → Map → ℕ → Bool
illegal pos m e = not (m.face e == 0) && (not (m.face (twin e) == 0) && wrong pos m e)

-- the four sides of the two faces at e come on the list
abbrev pub with_sides : Map → ℕ → List ℕ → List ℕ
with_sides m e todo = m.next e ∷ m.prev e ∷ m.next (twin e) ∷ m.prev (twin e) ∷ todo

pub record Work : Type 0 where
  pub map : Map
  pub todo : List ℕ

unfoldable pub legalize : (ℕ → Point) → ℕ → Map → List ℕ → Work
legalize pos zero m todo = record { map = m; todo = todo }
legalize pos (suc fuel) m [] = record { map = m; todo = [] }
legalize pos (suc fuel) m (e ∷ todo) = pick (illegal pos m e) (legalize pos fuel (flip m e) (with_sides m e todo)) (legalize pos fuel m todo)
