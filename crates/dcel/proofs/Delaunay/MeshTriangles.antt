-- The inner half edges of a mesh make triangles over which one can walk: the twin of a half edge leads across it.
use Rattle.std.proofs.Common.{◌≡◌, ℕ, suc, ◌-◌, ◌*◌, ◌<◌, Bool, true, false, ◌≢◌, ◌⊎◌, List, length, neg_ℤ, sym, ap, ◌∙◌, subst, ap₂, inl, inr, arith}
use Rattle.std.proofs.lemmas.Int.{ints}
use Rattle.exact.specs.Plane.{each, up_to, Point}
use Rattle.exact.proofs.Lists.{In, in_each, each_length, up_to←, up_to_length}
use Rattle.exact.proofs.Numbered.{numbered, numbered→, numbered←}
use Rattle.exact.proofs.Algebra.Signs.{Sign, ◌by◌, clash}
use Rattle.exact.proofs.Geometry.Words.{orient, incircle, Site, Orient}
use Rattle.exact.proofs.Geometry.Tests.{not_inside_circle→}
use Rattle.exact.proofs.Walk.Edges.{Power, InTriangleOf as WalkTriangle, Beyond, Across, Triangles}
use Rattle.exact.proofs.Walk.Measure.{measure, measure_bound}
use Rattle.dcel.specs.Map.{Map, twin}
use Rattle.dcel.specs.Mesh.{Sound}
use Rattle.dcel.specs.Geometry.{from, to, apex, Geometric, wrong}
use Rattle.dcel.proofs.Twins.{twin_twin}
use Rattle.dcel.proofs.Neighbours.{in_triangle}
use Rattle.dcel.proofs.Sites.{site, start, face_left}
use Rattle.dcel.proofs.Tiling.Faces.{InTriangleOf, next_inner, edge_inner}
use Rattle.dcel.proofs.Tiling.Hull.{InHull}

-- a half edge with a face on its left
abbrev pub Inner : Map → ℕ → Type 0
Inner m e = (e < m.half_edges) × (m.face e ≢ 0)

-- a half edge of each face
abbrev pub face_edges : Map → List ℕ
face_edges m = numbered m.edge m.faces

-- the vertices at their places
abbrev pub vertex_sites : {pos : ℕ → Point} {m : Map} → Geometric pos m → List Site
vertex_sites {pos} {m} G = each (site G) (up_to m.vertices)

module _ {m : Map} (S : Sound m) where
  -- the last edge of a triangle begins at its third corner
  third_origin : (e : ℕ) → Inner m e → m.origin (m.next (m.next e)) ≡ m.origin (m.prev e)
  third_origin e i = ap m.origin (in_triangle m S e i.0 i.1).next_next

  listed : (e : ℕ) → Inner m e → In (m.edge (m.face e)) (face_edges m)
  listed e i = let z = i.1 in numbered← m.edge m.faces (m.face e) (omega (arith, z)) (S.face_in e i.0)

  in_list : (e : ℕ) → Inner m e → In e (face_edges m) ⊎ (In (m.next e) (face_edges m) ⊎ In (m.next (m.next e)) (face_edges m))
  in_list e i = elim (S.edge_of e i.0 i.1) [
    | inl q ↦ inl (subst (λ (d : ℕ). In d (face_edges m)) q (listed e i))
    | inr r ↦ elim r [
      | inl q ↦ inr (inl (subst (λ (d : ℕ). In d (face_edges m)) q (listed e i)))
      | inr q ↦ inr (inr (subst (λ (d : ℕ). In d (face_edges m)) q (listed e i)))
    ]
  ]

  from_list : (e : ℕ) → In e (face_edges m) → Inner m e
  from_list e k = let r = numbered→ m.edge m.faces e k in subst (Inner m) (sym r.3) (S.edge_in r.0 r.1 r.2, edge_inner S r.0 r.1 r.2)

module _ {pos : ℕ → Point} {m : Map} (S : Sound m) (G : Geometric pos m) where
  pub mesh_triangles : Triangles (start G) m.next (Inner m) (face_edges m) (vertex_sites G)
  mesh_triangles = record {
    next_inner = λ e i. (S.next_in e i.0, next_inner S e i.0 i.1);
    round = λ e i. S.three e i.0 i.1;
    left = λ e i. face_left G e i.0 i.1 by ap₂ (λ (p q : ℕ). Orient (start G e) (site G p) (site G q)) (S.origin_next e i.0) (third_origin S e i);
    face_inner = from_list S;
    in_faces = in_list S;
    in_vertices = λ e i. in_each (site G) (up_to m.vertices) (m.origin e) (up_to← m.vertices (m.origin e) (S.origin_in e i.0));
  }

  -- ---- the triangle of a half edge by its ends and the third corner
  module _ (e : ℕ) (i : Inner m e) where
    pub power_is : (x : Point) → Power (start G) m.next e x ≡ incircle (from pos m e) (to pos m e) (apex pos m e) x
    power_is x = ap₂ (λ (p q : ℕ). incircle (from pos m e) (pos p) (pos q) x) (S.origin_next e i.0) (third_origin S e i)

    pub in_triangle→ : {s : Bool} {x : Point} → WalkTriangle (start G) m.next s e x → InTriangleOf pos m s e x
    in_triangle→ k = rw (S.origin_next e i.0, third_origin S e i) at k

  -- ---- across a half edge
  pub beyond→ : (e : ℕ) → e < m.half_edges → (x : Point) → Beyond (start G) m.next e x → Sign true (neg_ℤ (orient (from pos m e) (to pos m e) x))
  beyond→ e h x r = r by ap (λ (v : ℕ). neg_ℤ (orient (from pos m e) (pos v) x)) (sym (S.origin_next e h))

  pub beyond← : (e : ℕ) → e < m.half_edges → (x : Point) → Sign true (neg_ℤ (orient (from pos m e) (to pos m e) x)) → Beyond (start G) m.next e x
  beyond← e h x r = r by ap (λ (v : ℕ). neg_ℤ (orient (from pos m e) (pos v) x)) (S.origin_next e h)

  -- a place of the hull is not beyond a hull edge
  pub crossable : (e : ℕ) → e < m.half_edges → (x : Point) → InHull pos m false x → Beyond (start G) m.next e x → Inner m (twin e)
  crossable e h x inside r = (S.twin_in e h, λ z. clash (beyond→ e h x r) (behind (rw (twin_twin e) at (inside (twin e) (S.twin_in e h) z))))
    where
      behind : Sign false (orient (from pos m e) (to pos m e) x) → Sign false (neg_ℤ (neg_ℤ (orient (from pos m e) (to pos m e) x)))
      behind s = omega (arith, ints)

  -- over an edge that is right the corner across is not inside the circle
  pub twin_across : (e : ℕ) → Inner m e → Inner m (twin e) → wrong pos m e ≡ false → Across (start G) m.next e (twin e)
  twin_across e i j right = record {
    starts = ap (site G) (sym (S.origin_next e i.0));
    ends = ap (site G) (S.origin_next (twin e) j.0 ∙ ap m.origin (twin_twin e));
    clear = not_inside_circle→ (from pos m e) (to pos m e) (apex pos m e) (apex pos m (twin e)) right
        by ap neg_ℤ (power_is e i (pos (m.origin (m.next (m.next (twin e))))) ∙ ap (λ (v : ℕ). incircle (from pos m e) (to pos m e) (apex pos m e) (pos v)) (third_origin S (twin e) j));
  }

  -- ---- how long a walk can be
  pub mesh_measure_bound : (x : Point) (e : ℕ) → Inner m e → measure (start G) m.next (face_edges m) (vertex_sites G) x e < m.faces * suc m.vertices
  mesh_measure_bound x e i =
      let faces : suc (length (face_edges m)) ≡ m.faces = omega (arith, each_length (λ i. m.edge (suc i)) (up_to (m.faces - 1)), up_to_length (m.faces - 1), S.face_in e i.0) in
      let vertices : length (vertex_sites G) ≡ m.vertices = each_length (site G) (up_to m.vertices) ∙ up_to_length m.vertices in
      rw (faces, vertices) at (measure_bound (start G) m.next (face_edges m) (vertex_sites G) x e)
