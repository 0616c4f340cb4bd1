-- A mesh with its vertices at their places: faces turn to the left, the outside is convex, and what it is for edges to be right.
use Rattle.std.specs.Prelude.{◌≡◌, ℕ, suc, ◌-◌, ◌<◌, ◌≤◌, Bool, true, false, ◌&&◌, ◌≢◌, List, nat_lt}
use Rattle.exact.specs.Plane.{pick, each, up_to, plus, times, below_0, Point, across, along, left_of, in_line, inside_circle, Tri, tri}
use Rattle.dcel.specs.Map.{Map, twin}

-- v is strictly between a and b
abbrev pub strictly_between : Point → Point → Point → Bool
strictly_between a b v = in_line a b v && below_0 (plus (times (across v a) (across v b)) (times (along v a) (along v b)))

-- where a half edge begins and ends, and the third corner of its face
abbrev pub from : (ℕ → Point) → Map → ℕ → Point
from pos m e = pos (m.origin e)

abbrev pub to : (ℕ → Point) → Map → ℕ → Point
to pos m e = pos (m.origin (twin e))

abbrev pub apex : (ℕ → Point) → Map → ℕ → Point
apex pos m e = pos (m.origin (m.prev e))

pub record Geometric (pos : ℕ → Point) (m : Map) : Type 0 where
  -- faces turn to the left
  pub left : (e : ℕ) → e < m.half_edges → m.face e ≢ 0 → left_of (from pos m e) (to pos m e) (apex pos m e) ≡ true
  -- the outside is on the left of its half edges: no vertex is there, nor strictly between the ends of one
  pub right : (e : ℕ) → e < m.half_edges → m.face e ≡ 0 → (v : ℕ) → v < m.vertices → left_of (from pos m e) (to pos m e) (pos v) ≡ false
  pub clear : (e : ℕ) → e < m.half_edges → m.face e ≡ 0 → (v : ℕ) → v < m.vertices → strictly_between (from pos m e) (to pos m e) (pos v) ≡ false
  -- where there is a face, the outside comes by each vertex once at most
  pub once : 1 < m.faces → (d e : ℕ) → d < m.half_edges → e < m.half_edges → m.face d ≡ 0 → m.face e ≡ 0 → m.origin d ≡ m.origin e → d ≡ e
  -- where there is none, the vertices are on a line, nothing lies beyond an end at which one turns back, and no two are joined twice
  pub ends : m.faces ≤ 1 → (e : ℕ) → e < m.half_edges → m.next e ≡ twin e → (v : ℕ) → v < m.vertices → strictly_between (from pos m e) (pos v) (to pos m e) ≡ false
  pub single : m.faces ≤ 1 → (d e : ℕ) → d < m.half_edges → e < m.half_edges → m.origin d ≡ m.origin e → m.origin (twin d) ≡ m.origin (twin e) → d ≡ e
  -- places are whole numbers, for every number, and apart
  pub whole : (v : ℕ) → (pos v).w ≡ 1
  pub apart : (u v : ℕ) → u < m.vertices → v < m.vertices → (pos u).x ≡ (pos v).x → (pos u).y ≡ (pos v).y → u ≡ v

-- is the corner across e inside the circle of its face? At rest it is so for no edge between two faces
abbrev pub wrong : (ℕ → Point) → Map → ℕ → Bool
wrong pos m e = inside_circle (from pos m e) (to pos m e) (apex pos m e) (apex pos m (twin e))

abbrev pub AtRest : (ℕ → Point) → Map → Type 0
AtRest pos m = (e : ℕ) → e < m.half_edges → m.face e ≢ 0 → m.face (twin e) ≢ 0 → wrong pos m e ≡ false

-- the triangle of a face, from its smallest corner; all triangles, by the numbers of their faces
unfoldable pub from_least : ℕ → ℕ → ℕ → Tri
from_least a b c = pick (nat_lt a b && nat_lt a c) (tri a b c) (pick (nat_lt b c && nat_lt b a) (tri b c a) (tri c a b))

unfoldable pub face_tri : Map → ℕ → Tri
face_tri m f = from_least (m.origin (m.edge f)) (m.origin (m.next (m.edge f))) (m.origin (m.prev (m.edge f)))

abbrev pub triangles : Map → List Tri
triangles m = each (λ i. face_tri m (suc i)) (up_to (m.faces - 1))
