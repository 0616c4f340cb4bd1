-- Reading and writing the tables of a list of words, and the mesh that they hold.
use Rattle.std.specs.Prelude.{ℕ, ◌+◌, ◌*◌, ◌%◌, cond, List, [], ◌∷◌, nat_lt, slice_index, slice_set}
use Rattle.dcel.specs.Layout.{Size, Table, header, vertex_x, vertex_y, vertex_data, vertex_out, edge_next, edge_prev, edge_face, edge_origin, face_edge, start, stride, rows}
use Rattle.dcel.specs.Map.{Map}
use Rattle.dcel.specs.Pairs.{Pairs}
use Rattle.dcel.specs.Patch.{Triangle, Change}

-- row i of the rows from a word on, some words apart; past their number 0, and nothing is written there
abbrev pub row : ℕ → ℕ → ℕ → List ℕ → ℕ → ℕ
row from apart number m i = cond (nat_lt i number) (slice_index m (from + apart * i)) 0

abbrev pub put_row : ℕ → ℕ → ℕ → List ℕ → ℕ → ℕ → List ℕ
put_row from apart number m i v = cond (nat_lt i number) (slice_set m (from + apart * i) v) m

unfoldable pub cell : Size → Table → List ℕ → ℕ → ℕ
cell s k m i = row (start s k) (stride k) (rows s k) m i

unfoldable pub put : Size → Table → List ℕ → ℕ → ℕ → List ℕ
put s k m i v = put_row (start s k) (stride k) (rows s k) m i v

-- the words of the header that have the counts
abbrev pub vertex_count : ℕ
vertex_count = 0

abbrev pub half_edge_count : ℕ
half_edge_count = 1

abbrev pub face_count : ℕ
face_count = 2

-- n, but no more than the limit
unfoldable pub at_most : ℕ → ℕ → ℕ
at_most limit n = cond (nat_lt n limit) n limit

-- how many there are, and never more than there is room for
abbrev pub vertices_in : Size → List ℕ → ℕ
vertices_in s m = at_most s.vertices (cell s header m vertex_count)

abbrev pub half_edges_in : Size → List ℕ → ℕ
half_edges_in s m = at_most (6 * s.vertices) (cell s header m half_edge_count)

abbrev pub faces_in : Size → List ℕ → ℕ
faces_in s m = at_most (2 * s.vertices) (cell s header m face_count)

-- the mesh in memory
abbrev pub map_of : Size → List ℕ → Map
map_of s m = record {
  next = cell s edge_next m;
  prev = cell s edge_prev m;
  face = cell s edge_face m;
  origin = cell s edge_origin m;
  edge = cell s face_edge m;
  out = cell s vertex_out m;
  vertices = vertices_in s m;
  half_edges = half_edges_in s m;
  faces = faces_in s m;
}

-- coordinates stay below their limit, whatever the word is
abbrev pub x_in : Size → List ℕ → ℕ → ℕ
x_in s m v = cell s vertex_x m v % s.coordinates

abbrev pub y_in : Size → List ℕ → ℕ → ℕ
y_in s m v = cell s vertex_y m v % s.coordinates

-- the writers; of a list of pairs the last is written first
abbrev pub put_vertex : Size → List ℕ → ℕ → ℕ → ℕ → ℕ → List ℕ
put_vertex s m v x y d = put s vertex_data (put s vertex_y (put s vertex_x m v x) v y) v d

abbrev pub link : Size → List ℕ → ℕ → ℕ → List ℕ
link s m e g = put s edge_next (put s edge_prev m g e) e g

abbrev pub put_links : Size → Pairs → List ℕ → List ℕ
put_links s [] m = m
put_links s (p ∷ ps) m = link s (put_links s ps m) p.0 p.1

abbrev pub put_all : Size → Table → Pairs → List ℕ → List ℕ
put_all s k [] m = m
put_all s k (p ∷ ps) m = put s k (put_all s k ps m) p.0 p.1

abbrev pub counts : ℕ → ℕ → ℕ → Pairs
counts v e f = (vertex_count, v) ∷ (half_edge_count, e) ∷ (face_count, f) ∷ []

-- three half edges closed to a face
abbrev pub put_triangle : Size → List ℕ → ℕ → ℕ → ℕ → ℕ → List ℕ
put_triangle s m a b c f = link s (link s (link s (put s edge_face (put s edge_face (put s edge_face (put s face_edge m f a) c f) b f) a f) c a) b c) a b

abbrev pub put_triangles : Size → List Triangle → List ℕ → List ℕ
put_triangles s [] m = m
put_triangles s (t ∷ ts) m = put_triangle s (put_triangles s ts m) t.first t.second t.third t.face

-- a change written into memory, without the counts and with them
abbrev pub rewire : Size → Change → List ℕ → List ℕ
rewire s c m = put_triangles s c.triangles (put_links s c.chain (put_all s edge_face c.others (put_all s edge_origin c.origins (put_all s vertex_out c.outs m))))

abbrev pub apply : Size → Change → List ℕ → List ℕ
apply s c m = rewire s c (put_all s header (counts c.vertices c.half_edges c.faces) m)
