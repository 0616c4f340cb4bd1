-- Where each word of memory stands: a header, then the tables of vertices, half edges, faces and edges, one after the other.
use Rattle.std.specs.Prelude.{ℕ, ◌+◌, ◌*◌}

-- how many vertices there is room for, and what their coordinates stay below
pub record Size : Type 0 where
  pub vertices : ℕ
  pub coordinates : ℕ

-- a table has one number for each vertex, half edge, face or edge; the worklist has a link for each edge
pub data Table : Type 0 where
  header : Table
  vertex_x : Table
  vertex_y : Table
  vertex_data : Table
  vertex_out : Table
  edge_next : Table
  edge_prev : Table
  edge_face : Table
  edge_origin : Table
  face_edge : Table
  worklist : Table

-- the word of row 0
abbrev pub start : Size → Table → ℕ
start s header = 0
start s vertex_x = 16
start s vertex_y = 17
start s vertex_data = 18
start s vertex_out = 19
start s edge_next = 16 + 4 * s.vertices
start s edge_prev = 17 + 4 * s.vertices
start s edge_face = 18 + 4 * s.vertices
start s edge_origin = 19 + 4 * s.vertices
start s face_edge = 16 + 28 * s.vertices
start s worklist = 16 + 30 * s.vertices

-- how many words the rows are apart
abbrev pub stride : Table → ℕ
stride header = 1
stride vertex_x = 4
stride vertex_y = 4
stride vertex_data = 4
stride vertex_out = 4
stride edge_next = 4
stride edge_prev = 4
stride edge_face = 4
stride edge_origin = 4
stride face_edge = 1
stride worklist = 1

-- how many rows there are
abbrev pub rows : Size → Table → ℕ
rows s header = 16
rows s vertex_x = s.vertices
rows s vertex_y = s.vertices
rows s vertex_data = s.vertices
rows s vertex_out = s.vertices
rows s edge_next = 6 * s.vertices
rows s edge_prev = 6 * s.vertices
rows s edge_face = 6 * s.vertices
rows s edge_origin = 6 * s.vertices
rows s face_edge = 2 * s.vertices
rows s worklist = 3 * s.vertices

abbrev pub place : Size → Table → ℕ → ℕ
place s k i = start s k + stride k * i

-- how many words there are
abbrev pub total : Size → ℕ
total s = 16 + 33 * s.vertices

-- the size in use
abbrev pub real : Size
real = record { vertices = 16384; coordinates = 1048576 }
