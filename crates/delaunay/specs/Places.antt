-- Where the vertices in memory are, and on which side of a half edge a point is.
use Rattle.std.specs.Prelude.{ℕ, Bool, List}
use Rattle.exact.specs.Plane.{Point, point, inside_circle}
use Rattle.dcel.specs.Layout.{Size, edge_prev, edge_origin}
use Rattle.dcel.specs.Map.{twin}
use Rattle.dcel.specs.Memory.{cell, x_in, y_in}

abbrev pub place_of : Size → List ℕ → ℕ → Point
place_of s m v = point (x_in s m v) (y_in s m v)

-- where a half edge begins and ends
abbrev pub from_of : Size → List ℕ → ℕ → Point
from_of s m e = place_of s m (cell s edge_origin m e)

abbrev pub to_of : Size → List ℕ → ℕ → Point
to_of s m e = place_of s m (cell s edge_origin m (twin e))

-- the third corner of its face
abbrev pub apex_of : Size → List ℕ → ℕ → Point
apex_of s m e = place_of s m (cell s edge_origin m (cell s edge_prev m e))

-- is the corner across e inside the circle of its face?
unfoldable pub wrong_at : Size → List ℕ → ℕ → Bool
wrong_at s m e = inside_circle (from_of s m e) (to_of s m e) (apex_of s m e) (apex_of s m (twin e))
