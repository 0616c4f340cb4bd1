-- Memory that differs only in what the machine is at and where the next walk starts, which is a half edge if it was one: the mesh, the vertices and the list are the same.
use Rattle.std.proofs.Common.{◌≡◌, ℕ, ◌*◌, ◌%◌, ◌<◌, ◌≤◌, List, [], length, sym, refl, ap, ◌∙◌, subst, ap₂, inl, inr, arith}
use mathlib.Core.Path.{fun_ext}
use Rattle.exact.specs.Plane.{each, up_to, Point, point, Vertex, vertex}
use Rattle.std.proofs.lemmas.Bool.{ne_eqb}
use Rattle.dcel.specs.Layout.{Size, Table, header, vertex_x, vertex_y, vertex_data, vertex_out, edge_next, edge_prev, edge_face, edge_origin, face_edge, worklist, total}
use Rattle.dcel.specs.Map.{Map}
use Rattle.dcel.specs.Mesh.{Mesh}
use Rattle.dcel.specs.Memory.{cell, put, at_most, map_of, half_edges_in, vertex_count, half_edge_count, face_count}
use Rattle.dcel.specs.Start.{Bare}
use Rattle.dcel.specs.Geometry.{Geometric, AtRest}
use Rattle.dcel.proofs.Places.{OtherTable}
use Rattle.dcel.proofs.Cells.{cell_same, cell_other, length_put}
use Rattle.delaunay.specs.Places.{place_of}
use Rattle.delaunay.specs.Walk.{last_edge}
use Rattle.delaunay.specs.Nearest.{resumed}
use Rattle.delaunay.specs.Worklist.{list_head}
use Rattle.triangles.specs.Promise.{done}
use Rattle.triangles.specs.Machine.{mode, ending, does, at_end, going_on}
use Rattle.delaunay.specs.Kept.{vertices_of, Held, Lists, Triangulated, Standing}

pub record Alike (s : Size) (m n : List ℕ) : Type 0 where
  pub long : length n ≡ length m
  pub table : (k : Table) → OtherTable k header → (j : ℕ) → cell s k n j ≡ cell s k m j
  pub head : (j : ℕ) → j < 4 → cell s header n j ≡ cell s header m j
  pub last : cell s header m last_edge < half_edges_in s m → cell s header n last_edge < half_edges_in s m

pub alike_itself : (s : Size) (m : List ℕ) → Alike s m m
alike_itself s m = record { long = refl; table = λ k o j. refl; head = λ j h. refl; last = λ h. h }

pub alike_then : (s : Size) (l m n : List ℕ) → Alike s l m → Alike s m n → Alike s l n
alike_then s l m n a b =
    let same : half_edges_in s m ≡ half_edges_in s l = ap (at_most (6 * s.vertices)) (a.head half_edge_count (omega arith)) in
    record {
      long = b.long ∙ a.long;
      table = λ k o j. b.table k o j ∙ a.table k o j;
      head = λ j h. b.head j h ∙ a.head j h;
      last = λ h. omega (arith, same, b.last (omega (arith, same, a.last h)));
    }

-- a word of the header is written, and read again
pub head_put : (s : Size) (m : List ℕ) (i v : ℕ) → total s ≤ length m → 5 ≤ i → i < 16 → Alike s m (put s header m i v)
head_put s m i v z h l = record {
  long = length_put s header m i v;
  table = λ k o j. cell_other s k header m i v j o;
  head = λ j b. kept j (omega arith);
  last = λ b. omega (arith, kept last_edge (omega arith));
}
  where
    kept : (j : ℕ) → j < 5 → cell s header (put s header m i v) j ≡ cell s header m j
    kept j b = cell_same s header m i v j z l ∙ rw (ne_eqb j i (λ e. omega arith)) refl

-- the next walk starts at another half edge
pub resumed_alike : (s : Size) (m : List ℕ) (e : ℕ) → total s ≤ length m → (cell s header m last_edge < half_edges_in s m → e < half_edges_in s m) → Alike s m (resumed s m e)
unfolding resumed
resumed_alike s m e z h = record {
  long = length_put s header m last_edge e;
  table = λ k o j. cell_other s k header m last_edge e j o;
  head = λ j b. cell_same s header m last_edge e j z (omega arith) ∙ rw (ne_eqb j last_edge (λ q. omega arith)) refl;
  last = λ b. omega (arith, h b, cell_same s header m last_edge e last_edge z (omega arith));
}

module _ {s : Size} {m n : List ℕ} (a : Alike s m n) where
  pub map_alike : map_of s n ≡ map_of s m
  map_alike = λ i. record {
    next = fun_ext (a.table edge_next refl) i;
    prev = fun_ext (a.table edge_prev refl) i;
    face = fun_ext (a.table edge_face refl) i;
    origin = fun_ext (a.table edge_origin refl) i;
    edge = fun_ext (a.table face_edge refl) i;
    out = fun_ext (a.table vertex_out refl) i;
    vertices = at_most s.vertices (a.head vertex_count (omega arith) i);
    half_edges = at_most (6 * s.vertices) (a.head half_edge_count (omega arith) i);
    faces = at_most (2 * s.vertices) (a.head face_count (omega arith) i);
  }

  pub places_alike : place_of s n ≡ place_of s m
  places_alike = fun_ext (λ j. ap₂ (λ (x y : ℕ). point (x % s.coordinates) (y % s.coordinates)) (a.table vertex_x refl j) (a.table vertex_y refl j))

  vertex_alike : (j : ℕ) →
      ◌≡◌ {A = Vertex} (vertex (cell s vertex_x n j % s.coordinates) (cell s vertex_y n j % s.coordinates) (cell s vertex_data n j))
      (vertex (cell s vertex_x m j % s.coordinates) (cell s vertex_y m j % s.coordinates) (cell s vertex_data m j))
  vertex_alike j = ap₂ (λ (p : Point) (d : ℕ). record { at = p; data_of = d }) (ap (λ (pos : ℕ → Point). pos j) places_alike) (a.table vertex_data refl j)

  pub vertices_alike : vertices_of s n ≡ vertices_of s m
  vertices_alike = ap₂ (λ (f : ℕ → Vertex) (k : ℕ). each f (up_to k)) (fun_ext vertex_alike) (ap (λ (x : Map). x.vertices) map_alike)

  lists_alike : Lists s m [] → Lists s n []
  lists_alike l = record { linked = a.head list_head (omega arith) ∙ l.linked; others = λ i h. a.table worklist refl i ∙ l.others i h }

  bare_alike : (k : ℕ) → Bare s k m → Bare s k n
  bare_alike k b = record {
    long = a.long ∙ b.long;
    vertices_are = ap (λ (x : Map). x.vertices) map_alike ∙ b.vertices_are;
    half_edges_are = ap (λ (x : Map). x.half_edges) map_alike ∙ b.half_edges_are;
    faces_few = omega (arith, ap (λ (x : Map). x.faces) map_alike, b.faces_few);
  }

  held_alike : Held s m → Held s n
  held_alike h = record {
    holds = record { long = a.long ∙ h.holds.long; mesh = subst Mesh (sym map_alike) h.holds.mesh };
    geometric = subst (λ (pos : ℕ → Point). Geometric pos (map_of s n)) (sym places_alike) (subst (Geometric (place_of s m)) (sym map_alike) h.geometric);
  }

  triangulated_alike : Triangulated s m → Triangulated s n
  triangulated_alike t = record {
    settled = record {
      held = held_alike t.settled.held;
      at_rest = subst (λ (pos : ℕ → Point). AtRest pos (map_of s n)) (sym places_alike) (subst (AtRest (place_of s m)) (sym map_alike) t.settled.at_rest);
      lists = lists_alike t.settled.lists;
    };
    last_in = omega (arith, a.last t.last_in, ap (λ (x : Map). x.half_edges) map_alike);
  }

  pub standing_alike : Standing s m → Standing s n
  standing_alike (inl (b, l)) = inl (bare_alike 0 b, lists_alike l)
  standing_alike (inr (inl (b, l))) = inr (inl (bare_alike 1 b, lists_alike l))
  standing_alike (inr (inr t)) = inr (inr (triangulated_alike t))

-- at the end of a command nothing is left to show, and it is done
pub end_alike : (s : Size) (m : List ℕ) → length m ≡ total s → Alike s m (at_end s m)
end_alike s m z = head_put s m mode ending (omega arith) (omega arith) (omega arith)

pub ended : (s : Size) (m : List ℕ) → total s ≤ length m → going_on s (at_end s m) ≡ does (at_end s m) done
unfolding going_on
ended s m z = let q : cell s header (at_end s m) mode ≡ ending = cell_same s header m mode ending mode z (omega arith) in rw q refl

-- what every memory that stands for a triangulation has
pub standing_long : (s : Size) (m : List ℕ) → Standing s m → length m ≡ total s
standing_long s m (inl (b, l)) = b.long
standing_long s m (inr (inl (b, l))) = b.long
standing_long s m (inr (inr t)) = t.settled.held.holds.long

pub standing_lists : (s : Size) (m : List ℕ) → Standing s m → Lists s m []
standing_lists s m (inl (b, l)) = l
standing_lists s m (inr (inl (b, l))) = l
standing_lists s m (inr (inr t)) = t.settled.lists
