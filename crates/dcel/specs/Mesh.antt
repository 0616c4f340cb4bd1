-- What a mesh keeps, but for where its vertices are.
use Rattle.std.specs.Prelude.{◌≡◌, ℕ, zero, suc, ◌+◌, ◌*◌, ◌<◌, cond, ◌≢◌, ◌⊎◌, ◌==◌}
use Rattle.dcel.specs.Map.{Map, twin}

abbrev pub Among : ℕ → ℕ → ℕ → ℕ → Type 0
Among x a b c = (x ≡ a) ⊎ ((x ≡ b) ⊎ (x ≡ c))

-- Half edges follow one another round their faces, and inner faces have three; each face and each vertex knows one of its half edges; no edge joins a vertex to itself.
pub record Sound (m : Map) : Type 0 where
  pub twin_in : (e : ℕ) → e < m.half_edges → twin e < m.half_edges
  pub next_in : (e : ℕ) → e < m.half_edges → m.next e < m.half_edges
  pub prev_in : (e : ℕ) → e < m.half_edges → m.prev e < m.half_edges
  pub prev_next : (e : ℕ) → e < m.half_edges → m.prev (m.next e) ≡ e
  pub next_prev : (e : ℕ) → e < m.half_edges → m.next (m.prev e) ≡ e
  pub origin_in : (e : ℕ) → e < m.half_edges → m.origin e < m.vertices
  pub origin_next : (e : ℕ) → e < m.half_edges → m.origin (m.next e) ≡ m.origin (twin e)
  pub face_in : (e : ℕ) → e < m.half_edges → m.face e < m.faces
  pub face_next : (e : ℕ) → e < m.half_edges → m.face (m.next e) ≡ m.face e
  pub three : (e : ℕ) → e < m.half_edges → m.face e ≢ 0 → m.next (m.next (m.next e)) ≡ e
  pub no_loop : (e : ℕ) → e < m.half_edges → m.origin e ≢ m.origin (twin e)
  pub edge_in : (f : ℕ) → 0 < f → f < m.faces → m.edge f < m.half_edges
  pub edge_face : (f : ℕ) → 0 < f → f < m.faces → m.face (m.edge f) ≡ f
  pub edge_of : (e : ℕ) → e < m.half_edges → m.face e ≢ 0 → Among (m.edge (m.face e)) e (m.next e) (m.next (m.next e))
  pub out_in : (v : ℕ) → v < m.vertices → m.out v < m.half_edges
  pub out_origin : (v : ℕ) → v < m.vertices → m.origin (m.out v) ≡ v

-- k turns round the origin
abbrev pub turns : Map → ℕ → ℕ → ℕ
turns m zero e = e
turns m (suc k) e = turns m k (twin (m.prev e))

-- turning round a vertex comes through all half edges that begin there
pub record Round (m : Map) : Type 0 where
  pub round : (e g : ℕ) → e < m.half_edges → g < m.half_edges → m.origin e ≡ m.origin g → (k : ℕ) × (turns m k e ≡ g)

-- 1 at zero, 0 elsewhere; how often f is zero below n
unfoldable pub zero_bit : ℕ → ℕ
zero_bit v = cond (v == 0) 1 0

unfoldable pub zero_count : (ℕ → ℕ) → ℕ → ℕ
zero_count f zero = 0
zero_count f (suc n) = zero_bit (f n) + zero_count f n

-- how many half edges are of the outside
abbrev pub outer_count : Map → ℕ
outer_count m = zero_count m.face m.half_edges

-- half edges and faces by the vertices and the outer half edges, also on a line
pub record Counts (m : Map) : Type 0 where
  pub half_edges_are : m.half_edges + 2 * outer_count m + 6 ≡ 6 * m.vertices
  pub faces_are : m.faces + outer_count m + 1 ≡ 2 * m.vertices

pub record Mesh (m : Map) : Type 0 where
  pub sound : Sound m
  pub round : Round m
  pub counts : Counts m
