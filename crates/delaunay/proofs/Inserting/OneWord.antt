-- A word that no mesh reads is written: the data of a vertex, or the half edge from which the next walk starts. The mesh, its places and the list stay.
use Rattle.std.proofs.Common.{◌≡◌, ℕ, ◌*◌, ◌%◌, ◌<◌, ◌≤◌, ◌≢◌, List, [], ◌∷◌, length, sym, refl, ap, ◌∙◌, subst, arith, eqb}
use Rattle.std.proofs.Math.Path.{fun_ext}
use Rattle.std.proofs.lemmas.Bool.{ne_eqb, cond-false}
use Rattle.exact.specs.Plane.{Point, point}
use Rattle.dcel.specs.Layout.{Size, header, vertex_x, vertex_y, vertex_data, vertex_out, edge_next, edge_prev, edge_face, edge_origin, face_edge, worklist, total}
use Rattle.dcel.specs.Pairs.{changed}
use Rattle.dcel.specs.Map.{Map}
use Rattle.dcel.specs.Mesh.{Mesh}
use Rattle.dcel.specs.Memory.{cell, put, at_most, map_of}
use Rattle.dcel.specs.Holds.{Sites, sites_of}
use Rattle.dcel.specs.Start.{Bare}
use Rattle.dcel.specs.Geometry.{Geometric, AtRest}
use Rattle.dcel.proofs.Cells.{cell_same, cell_other, length_put}
use Rattle.delaunay.specs.Places.{place_of}
use Rattle.delaunay.specs.Walk.{last_edge}
use Rattle.delaunay.specs.Worklist.{list_head}
use Rattle.delaunay.specs.Kept.{Lists, Settled}
use Rattle.delaunay.proofs.Settling.Beside.{places_by_sites}
use Rattle.delaunay.proofs.Settling.Links.{lists_same}

-- the vertex v with other data
abbrev pub with_data : Sites → ℕ → ℕ → Sites
with_data t v d = record { x = t.x; y = t.y; data_of = changed ((v, d) ∷ []) t.data_of }

pub record SameMeshIn (s : Size) (m n : List ℕ) : Type 0 where
  pub long : length n ≡ length m
  pub map_is : map_of s n ≡ map_of s m
  pub places_are : place_of s n ≡ place_of s m
  pub head_is : cell s header n list_head ≡ cell s header m list_head
  pub worklist_is : (i : ℕ) → cell s worklist n i ≡ cell s worklist m i

module _ (s : Size) (m n : List ℕ) (A : SameMeshIn s m n) where
  pub lists_there : (l : List ℕ) → Lists s m l → Lists s n l
  lists_there l = lists_same s m n l A.head_is A.worklist_is

  pub settled_there : Settled s m → Settled s n
  settled_there S = record {
    held = record { holds = record { long = A.long ∙ S.held.holds.long; mesh = subst Mesh (sym A.map_is) S.held.holds.mesh }; geometric = there Geometric S.held.geometric };
    at_rest = there AtRest S.at_rest;
    lists = lists_there [] S.lists;
  }
    where
      there : (P : (ℕ → Point) → Map → Type 0) → P (place_of s m) (map_of s m) → P (place_of s n) (map_of s n)
      there P h = subst (λ (q : ℕ → Point). P q (map_of s n)) (sym A.places_are) (subst (P (place_of s m)) (sym A.map_is) h)

  pub bare_there : (k : ℕ) → Bare s k m → Bare s k n
  bare_there k B = record {
    long = A.long ∙ B.long;
    vertices_are = ap (λ (g : Map). g.vertices) A.map_is ∙ B.vertices_are;
    half_edges_are = ap (λ (g : Map). g.half_edges) A.map_is ∙ B.half_edges_are;
    faces_few = subst (λ (g : Map). g.faces ≤ 1) (sym A.map_is) B.faces_few;
  }

-- ---- the data of a vertex
module _ (s : Size) (m : List ℕ) (v d : ℕ) where
  pub data_header : (i : ℕ) → cell s header (put s vertex_data m v d) i ≡ cell s header m i
  data_header i = cell_other s header vertex_data m v d i refl

  pub data_sites : total s ≤ length m → v < s.vertices → sites_of s (put s vertex_data m v d) ≡ with_data (sites_of s m) v d
  unfolding changed
  data_sites z h = λ i. record {
    x = λ j. cell_other s vertex_x vertex_data m v d j refl i % s.coordinates;
    y = λ j. cell_other s vertex_y vertex_data m v d j refl i % s.coordinates;
    data_of = fun_ext (λ j. cell_same s vertex_data m v d j z h) i;
  }

  pub data_mesh : SameMeshIn s m (put s vertex_data m v d)
  data_mesh = record {
    long = length_put s vertex_data m v d;
    map_is = λ i. record {
      next = λ j. cell_other s edge_next vertex_data m v d j refl i;
      prev = λ j. cell_other s edge_prev vertex_data m v d j refl i;
      face = λ j. cell_other s edge_face vertex_data m v d j refl i;
      origin = λ j. cell_other s edge_origin vertex_data m v d j refl i;
      edge = λ j. cell_other s face_edge vertex_data m v d j refl i;
      out = λ j. cell_other s vertex_out vertex_data m v d j refl i;
      vertices = at_most s.vertices (data_header 0 i);
      half_edges = at_most (6 * s.vertices) (data_header 1 i);
      faces = at_most (2 * s.vertices) (data_header 2 i);
    };
    places_are = λ i j. point (cell_other s vertex_x vertex_data m v d j refl i % s.coordinates) (cell_other s vertex_y vertex_data m v d j refl i % s.coordinates);
    head_is = data_header list_head;
    worklist_is = λ j. cell_other s worklist vertex_data m v d j refl;
  }

-- ---- where the next walk starts
module _ (s : Size) (m : List ℕ) (z : total s ≤ length m) (e : ℕ) where
  abbrev with_last : List ℕ
  with_last = put s header m last_edge e

  pub last_is : cell s header (put s header m last_edge e) last_edge ≡ e
  last_is = cell_same s header m last_edge e last_edge z (omega arith)

  pub last_header : (i : ℕ) → i ≢ last_edge → cell s header (put s header m last_edge e) i ≡ cell s header m i
  last_header i h = cell_same s header m last_edge e i z (omega arith) ∙ cond-false (eqb i last_edge) _ _ (ne_eqb i last_edge h)

  pub last_sites : sites_of s (put s header m last_edge e) ≡ sites_of s m
  last_sites = λ i. record {
    x = λ j. cell_other s vertex_x header m last_edge e j refl i % s.coordinates;
    y = λ j. cell_other s vertex_y header m last_edge e j refl i % s.coordinates;
    data_of = λ j. cell_other s vertex_data header m last_edge e j refl i;
  }

  pub last_mesh : SameMeshIn s m (put s header m last_edge e)
  last_mesh = record {
    long = length_put s header m last_edge e;
    map_is = λ i. record {
      next = λ j. cell_other s edge_next header m last_edge e j refl i;
      prev = λ j. cell_other s edge_prev header m last_edge e j refl i;
      face = λ j. cell_other s edge_face header m last_edge e j refl i;
      origin = λ j. cell_other s edge_origin header m last_edge e j refl i;
      edge = λ j. cell_other s face_edge header m last_edge e j refl i;
      out = λ j. cell_other s vertex_out header m last_edge e j refl i;
      vertices = at_most s.vertices (last_header 0 (omega arith) i);
      half_edges = at_most (6 * s.vertices) (last_header 1 (omega arith) i);
      faces = at_most (2 * s.vertices) (last_header 2 (omega arith) i);
    };
    places_are = places_by_sites s m with_last last_sites;
    head_is = last_header list_head (omega arith);
    worklist_is = λ j. cell_other s worklist header m last_edge e j refl;
  }
