-- What a patch must meet at its own places so that the patched map is a mesh: finite conditions, a few for each place.
use Rattle.std.proofs.Common.{◌≡◌, ℕ, ◌<◌, ◌≤◌, ◌≢◌, refl}
use Rattle.dcel.specs.Pairs.{Pairs, All, Source, Target, Apart, changed, reversed}
use Rattle.dcel.specs.Map.{Map, twin}
use Rattle.dcel.specs.Mesh.{Among, turns}
use Rattle.dcel.specs.Patch.{Patch, patched}
use Rattle.dcel.proofs.Changes.{changed_at, changed_off, source_reversed, all_reversed}

-- n is m patched, known by what is read from it: at the places of each list its values, elsewhere what m has
pub record IsPatched (m n : Map) (p : Patch) : Type 0 where
  pub vertices_is : n.vertices ≡ p.vertices
  pub half_edges_is : n.half_edges ≡ p.half_edges
  pub faces_is : n.faces ≡ p.faces
  pub next_at : All (λ e g. n.next e ≡ g) p.links
  pub prev_at : All (λ e g. n.prev g ≡ e) p.links
  pub face_at : All (λ e f. n.face e ≡ f) p.sides
  pub origin_at : All (λ e v. n.origin e ≡ v) p.origins
  pub edge_at : All (λ f e. n.edge f ≡ e) p.edges
  pub out_at : All (λ v e. n.out v ≡ e) p.outs
  pub next_off : (e : ℕ) → (Source e p.links → ⊥) → n.next e ≡ m.next e
  pub prev_off : (e : ℕ) → (Target e p.links → ⊥) → n.prev e ≡ m.prev e
  pub face_off : (e : ℕ) → (Source e p.sides → ⊥) → n.face e ≡ m.face e
  pub origin_off : (e : ℕ) → (Source e p.origins → ⊥) → n.origin e ≡ m.origin e
  pub edge_off : (f : ℕ) → (Source f p.edges → ⊥) → n.edge f ≡ m.edge f
  pub out_off : (v : ℕ) → (Source v p.outs → ⊥) → n.out v ≡ m.out v

-- no place of a list stands twice
pub record Distinct (p : Patch) : Type 0 where
  pub tails : Apart p.links
  pub heads : Apart (reversed p.links)
  pub sides : Apart p.sides
  pub origins : Apart p.origins
  pub edges : Apart p.edges
  pub outs : Apart p.outs

pub is_patched : (m : Map) (p : Patch) → Distinct p → IsPatched m (patched p m) p
is_patched m p c = record {
  vertices_is = refl;
  half_edges_is = refl;
  faces_is = refl;
  next_at = changed_at p.links m.next c.tails;
  prev_at = all_reversed _ p.links (changed_at (reversed p.links) m.prev c.heads);
  face_at = changed_at p.sides m.face c.sides;
  origin_at = changed_at p.origins m.origin c.origins;
  edge_at = changed_at p.edges m.edge c.edges;
  out_at = changed_at p.outs m.out c.outs;
  next_off = changed_off p.links m.next;
  prev_off = λ e f. changed_off (reversed p.links) m.prev e (λ k. f (source_reversed e p.links k));
  face_off = changed_off p.sides m.face;
  origin_off = changed_off p.origins m.origin;
  edge_off = changed_off p.edges m.edge;
  out_off = changed_off p.outs m.out;
}

-- Of the old half edges: the ends that lose their partner are the ends that get one, and of a face all three or none.
pub record Relinks (m : Map) (p : Patch) : Type 0 where
  pub tails : All (λ e g. e < m.half_edges → Target (m.next e) p.links) p.links
  pub heads : All (λ e g. g < m.half_edges → Source (m.prev g) p.links) p.links
  pub whole : All (λ e g. e < m.half_edges → m.face e ≢ 0 → Source (m.prev e) p.links) p.links

-- What must hold at the places of the lists.
pub record Fits (m n : Map) (p : Patch) : Type 0 where
  pub half_edges_more : m.half_edges ≤ n.half_edges
  pub vertices_more : m.vertices ≤ n.vertices
  pub faces_more : m.faces ≤ n.faces
  pub twins : (e : ℕ) → e < n.half_edges → twin e < n.half_edges
  pub new_edge : (e : ℕ) → m.half_edges ≤ e → e < n.half_edges → Source e p.links × Target e p.links × Source e p.sides × Source e p.origins
  pub new_face : (f : ℕ) → m.faces ≤ f → f < n.faces → Source f p.edges
  pub new_vertex : (v : ℕ) → m.vertices ≤ v → v < n.vertices → Source v p.outs
  pub link_in : All (λ e g. (e < n.half_edges) × (g < n.half_edges)) p.links
  pub side_in : All (λ e f. e < n.half_edges) p.sides
  pub origin_in : All (λ e v. e < n.half_edges) p.origins
  pub ends : All (λ e g. n.origin g ≡ n.origin (twin e)) p.links
  pub same_side : All (λ e g. n.face g ≡ n.face e) p.links
  pub rounds : All (λ e g. n.face e ≢ 0 → (n.next (n.next g) ≡ e) × Among (n.edge (n.face e)) e g (n.next g)) p.links
  pub origin_fits : All (λ e v. (v < n.vertices) × (e < m.half_edges → Source (m.prev e) p.links × Source (twin e) p.links × Source (m.origin e) p.outs)) p.origins
  pub loops : All (λ e v. n.origin e ≢ n.origin (twin e)) p.origins
  pub side_fits : All (λ e f. (f < n.faces) × (e < m.half_edges → Source e p.links × Source (m.prev e) p.links × (m.face e ≢ 0 → Source (m.face e) p.edges))) p.sides
  pub edge_fits : All (λ f e. (e < n.half_edges) × (n.face e ≡ f) × (0 < f → f < m.faces → Source (m.edge f) p.links)) p.edges
  pub out_fits : All (λ v e. (e < n.half_edges) × (n.origin e ≡ v)) p.outs

-- turning round in n, from x to y
abbrev pub Reach : Map → ℕ → ℕ → Type 0
Reach n x y = (k : ℕ) × (turns n k x ≡ y)

-- the stand_in for a half edge that leaves its origin; any other stands for itself
abbrev pub stand_in : Pairs → ℕ → ℕ
stand_in st x = changed st (λ y. y) x

-- What must hold at the places of the lists for turning round to come through all. Each old turn at a changed place is made by new turns between the stand-ins; each half edge with
-- a changed origin is reached from, and reaches, one that had that origin, or is round a new vertex.
pub record RoundFits (m n : Map) (p : Patch) : Type 0 where
  pub stands : Pairs
  pub stand_fits : All (λ r s. Target r p.links × Target (m.next (twin r)) p.links × Source r p.origins) stands
  pub spins : All (λ e g. g < m.half_edges → Reach n (stand_in stands g) (stand_in stands (twin (m.prev g)))) p.links
  pub ahead : All (λ y v. v < m.vertices → (x : ℕ) × (x < m.half_edges) × (m.origin x ≡ v) × Reach n y (stand_in stands x)) p.origins
  pub behind : All (λ y v. v < m.vertices → (x : ℕ) × (x < m.half_edges) × (m.origin x ≡ v) × Reach n (stand_in stands x) y) p.origins
  pub about : All (λ y v. m.vertices ≤ v → Reach n y (n.out v) × Reach n (n.out v) y) p.origins
