-- Memory that differs in the list of edges alone has the same mesh at the same places; and memory with the same vertices, whatever the edges between them.
use Rattle.std.proofs.Common.{◌≡◌, ℕ, ◌*◌, ◌%◌, ◌<◌, ◌≢◌, List, length, sym, refl, ap, ◌∙◌, subst, arith}
use Rattle.std.proofs.Math.Path.{fun_ext}
use Rattle.exact.specs.Plane.{each, up_to, Point, point, vertex}
use Rattle.dcel.specs.Layout.{Size, Table, header, vertex_x, vertex_y, vertex_data, vertex_out, edge_next, edge_prev, edge_face, edge_origin, face_edge, worklist}
use Rattle.dcel.specs.Map.{Map}
use Rattle.dcel.specs.Mesh.{Mesh}
use Rattle.dcel.specs.Memory.{cell, at_most, map_of, vertices_in, half_edges_in, faces_in}
use Rattle.dcel.specs.Holds.{sites_of}
use Rattle.dcel.specs.Geometry.{Geometric}
use Rattle.dcel.proofs.Places.{OtherTable}
use Rattle.delaunay.specs.Places.{place_of}
use Rattle.delaunay.specs.Worklist.{list_head}
use Rattle.delaunay.specs.Kept.{vertices_of, Held}

pub record SameButList (s : Size) (m n : List ℕ) : Type 0 where
  pub long : length n ≡ length m
  pub table_is : (k : Table) → OtherTable k header → OtherTable k worklist → (j : ℕ) → cell s k n j ≡ cell s k m j
  pub header_is : (i : ℕ) → i ≢ list_head → cell s header n i ≡ cell s header m i

-- the vertices are where they were, with their data; as many half edges and faces; the words of the header past the list's
pub record SameVertices (s : Size) (m n : List ℕ) : Type 0 where
  pub sites_are : sites_of s n ≡ sites_of s m
  pub vertices_are : vertices_in s n ≡ vertices_in s m
  pub half_edges_are : half_edges_in s n ≡ half_edges_in s m
  pub faces_are : faces_in s n ≡ faces_in s m
  pub header_is : (i : ℕ) → list_head < i → cell s header n i ≡ cell s header m i

module _ (s : Size) where
  pub same_list : (m : List ℕ) → SameButList s m m
  same_list m = record { long = refl; table_is = λ k o p j. refl; header_is = λ i h. refl }

  pub same_list_then : (m n o : List ℕ) → SameButList s m n → SameButList s n o → SameButList s m o
  same_list_then m n o A B = record {
    long = B.long ∙ A.long;
    table_is = λ k a b j. B.table_is k a b j ∙ A.table_is k a b j;
    header_is = λ i h. B.header_is i h ∙ A.header_is i h;
  }

  pub same_vertices : (m : List ℕ) → SameVertices s m m
  same_vertices m = record { sites_are = refl; vertices_are = refl; half_edges_are = refl; faces_are = refl; header_is = λ i h. refl }

  pub same_vertices_then : (m n o : List ℕ) → SameVertices s m n → SameVertices s n o → SameVertices s m o
  same_vertices_then m n o A B = record {
    sites_are = B.sites_are ∙ A.sites_are;
    vertices_are = B.vertices_are ∙ A.vertices_are;
    half_edges_are = B.half_edges_are ∙ A.half_edges_are;
    faces_are = B.faces_are ∙ A.faces_are;
    header_is = λ i h. B.header_is i h ∙ A.header_is i h;
  }

  -- the same sites are the same places
  pub places_by_sites : (m n : List ℕ) → sites_of s n ≡ sites_of s m → place_of s n ≡ place_of s m
  places_by_sites m n q = λ i v. point ((q i).x v) ((q i).y v)

  pub vertices_by_sites : (m n : List ℕ) → SameVertices s m n → vertices_of s n ≡ vertices_of s m
  vertices_by_sites m n A = λ i. each (λ v. vertex ((A.sites_are i).x v) ((A.sites_are i).y v) ((A.sites_are i).data_of v)) (up_to (A.vertices_are i))

  module _ (m n : List ℕ) (B : SameButList s m n) where
    table : (k : Table) → OtherTable k header → OtherTable k worklist → cell s k n ≡ cell s k m
    table k a b = fun_ext (B.table_is k a b)

    pub beside_map : map_of s n ≡ map_of s m
    beside_map = λ i. record {
      next = table edge_next refl refl i;
      prev = table edge_prev refl refl i;
      face = table edge_face refl refl i;
      origin = table edge_origin refl refl i;
      edge = table face_edge refl refl i;
      out = table vertex_out refl refl i;
      vertices = at_most s.vertices (B.header_is 0 (omega arith) i);
      half_edges = at_most (6 * s.vertices) (B.header_is 1 (omega arith) i);
      faces = at_most (2 * s.vertices) (B.header_is 2 (omega arith) i);
    }

    pub beside_vertices : SameVertices s m n
    beside_vertices = record {
      sites_are = λ i. record { x = λ j. table vertex_x refl refl i j % s.coordinates; y = λ j. table vertex_y refl refl i j % s.coordinates; data_of = table vertex_data refl refl i };
      vertices_are = ap (at_most s.vertices) (B.header_is 0 (omega arith));
      half_edges_are = ap (at_most (6 * s.vertices)) (B.header_is 1 (omega arith));
      faces_are = ap (at_most (2 * s.vertices)) (B.header_is 2 (omega arith));
      header_is = λ i h. B.header_is i (omega arith);
    }

    pub beside_places : place_of s n ≡ place_of s m
    beside_places = places_by_sites m n beside_vertices.sites_are

    -- what is said of the places and the map is so still
    pub beside : (P : (ℕ → Point) → Map → Type 0) → P (place_of s m) (map_of s m) → P (place_of s n) (map_of s n)
    beside P h = subst (λ (q : ℕ → Point). P q (map_of s n)) (sym beside_places) (subst (P (place_of s m)) (sym beside_map) h)

    pub beside_held : Held s m → Held s n
    beside_held H = record { holds = record { long = B.long ∙ H.holds.long; mesh = subst Mesh (sym beside_map) H.holds.mesh }; geometric = beside Geometric H.geometric }
