-- The rows by which a place and a nearest vertex are to be told, once the machine knows how to look them up.
use Rattle.std.specs.Prelude.{ℕ, List, [], ◌∷◌, Some, None, Option}
use Rattle.dcel.specs.Layout.{Size, edge_face, edge_origin}
use Rattle.dcel.specs.Map.{twin}
use Rattle.dcel.specs.Memory.{cell, map_of}
use Rattle.dcel.specs.Geometry.{face_tri}
use Rattle.delaunay.specs.Where.{Where, on_vertex, on_edge, in_face, outside, beyond, no_edge}
use Rattle.triangles.specs.Machine.{row_of}

-- where a place is: 0 and a vertex; 1 and the ends of an edge; 2 and the corners of a face; 3 and the ends of an edge of the outside; 4 where there is none
abbrev pub ends_of : Size → List ℕ → ℕ → List ℕ
ends_of s m e = cell s edge_origin m e ∷ cell s edge_origin m (twin e) ∷ []

abbrev pub place_row : Size → List ℕ → Where → List ℕ
place_row s m (on_vertex v) = 0 ∷ v ∷ []
place_row s m (on_edge e) = 1 ∷ ends_of s m e
place_row s m (in_face e) = 2 ∷ row_of (face_tri (map_of s m) (cell s edge_face m e))
place_row s m (outside e) = 3 ∷ ends_of s m e
place_row s m (beyond e) = 3 ∷ ends_of s m e
place_row s m no_edge = 4 ∷ []

-- the number of a nearest vertex, or an empty row
abbrev pub row_of_one : Option ℕ → List ℕ
row_of_one None = []
row_of_one (Some v) = v ∷ []
