-- The faces of a mesh tile the hull of its vertices.
use Rattle.std.proofs.Common.{◌≡◌, ℕ, suc, ◌-◌, ◌<◌, ◌≤◌, Bool, true, false, leb, List, length, sym, ap, ◌∙◌, subst, arith, zero-lt-suc}
use Rattle.exact.specs.Plane.{up_to, any, every, those, Point, Vertex, spot, Tri, in_tri, inside_tri, in_hull, a_triangle, a_point, no_twice, Tiles}
use Rattle.std.proofs.lemmas.Bool.{leb-true, le-leb}
use Rattle.exact.proofs.Lists.{every←, any←, in_each, each_in, up_to→, up_to←, those_count}
use Rattle.exact.proofs.Enumerations.{count_≤1, no_twice_each}
use Rattle.exact.proofs.Vertices.{same_tri→}
use Rattle.exact.proofs.Geometry.Faces.{a_triangle←, InFace as InTri, in_tri←, inside_tri→, rot_in, rot_out}
use Rattle.exact.proofs.Geometry.Hull.{in_hull→}
use Rattle.dcel.specs.Map.{Map, twin}
use Rattle.dcel.specs.Mesh.{Sound}
use Rattle.dcel.specs.Geometry.{Geometric, face_tri, triangles}
use Rattle.dcel.proofs.Sites.{outer_left, stop_in}
use Rattle.dcel.proofs.Tiling.Faces.{InFace, edge_inner, middle_of, middle_place, middle_inside}
use Rattle.dcel.proofs.Tiling.FaceTriangles.{face_least, face_triangle}
use Rattle.dcel.proofs.Tiling.NeverTwo.{never_two}
use Rattle.dcel.proofs.Tiling.Hull.{InHull}
use Rattle.dcel.proofs.Tiling.Covers.{Covered, covers}

-- ---- a place in a face is in its triangle, and the other way round
module _ (vs : List Vertex) {m : Map} (S : Sound m) (f : ℕ) (l : 0 < f) (h : f < m.faces) {s : Bool} {p : Point} where
  pub face_in_tri : InFace (spot vs) m s f p → InTri vs (face_tri m f) s p
  face_in_tri i = rot_out vs (face_tri m f) (m.origin (m.edge f)) (m.origin (twin (m.edge f))) (m.origin (m.prev (m.edge f))) (face_least S f l h).turned p i

  pub tri_in_face : InTri vs (face_tri m f) s p → InFace (spot vs) m s f p
  tri_in_face i = rot_in vs (face_tri m f) (m.origin (m.edge f)) (m.origin (twin (m.edge f))) (m.origin (m.prev (m.edge f))) (face_least S f l h).turned p i

module _ (vs : List Vertex) {m : Map} (S : Sound m) (G : Geometric (spot vs) m) (len : m.vertices ≡ length vs) where
  -- a place in the hull of the vertices is on the inner side of the outer half edges
  in_all : (p : Point) → in_hull vs p ≡ true → InHull (spot vs) m false p
  in_all p h e k z =
      in_hull→ vs p h (m.origin (twin e)) (m.origin e) (omega (arith, stop_in S e k)) (omega (arith, S.origin_in e k)) (λ q. S.no_loop e k (sym q))
      (λ v l. outer_left G e k z v (omega arith))

  abbrev n : ℕ
  n = m.faces - 1

  abbrev t : ℕ → Tri
  t i = face_tri m (suc i)

  -- the face of a number below n
  below : (i : ℕ) → i < n → suc i < m.faces
  below i h = omega arith

  one_inside : (i j : ℕ) → i < n → j < n → (p : Point) → 1 ≤ p.w → InTri vs (t i) true p → InTri vs (t j) true p → i ≡ j
  one_inside i j hi hj p pw x y =
      let q = never_two S G p pw (suc i) (suc j) (zero-lt-suc i) (below i hi) (zero-lt-suc j) (below j hj) (tri_in_face vs S (suc i) (zero-lt-suc i) (below i hi) x) (tri_in_face vs S (suc j) (zero-lt-suc j) (below j hj) y) in
      omega arith

  all_triangles : every (a_triangle vs) (triangles m) ≡ true
  all_triangles = every← (a_triangle vs) (triangles m) (λ u i.
      let r = each_in t (up_to n) u i in let k = up_to→ n r.0 r.1 in
      ap (a_triangle vs) r.2 ∙ a_triangle← vs (t r.0) (face_triangle vs S G len (suc r.0) (zero-lt-suc r.0) (below r.0 k)))

  -- the middle of a triangle tells it from all others
  none_twice : no_twice (triangles m) ≡ true
  none_twice = no_twice_each t n (λ i j hi hj e.
      let d = m.edge (suc i) in let k = S.edge_in (suc i) (zero-lt-suc i) (below i hi) in let z = edge_inner S (suc i) (zero-lt-suc i) (below i hi) in
      let x = face_in_tri vs S (suc i) (zero-lt-suc i) (below i hi) (middle_inside G d k z) in
      one_inside i j hi hj (middle_of G d k z) (middle_place G d k z) x (subst (λ (u : Tri). InTri vs u true (middle_of G d k z)) (same_tri→ (t i) (t j) e) x))

  once : (p : Point) → a_point p ≡ true → leb (length (those (λ u. inside_tri vs u p) (triangles m))) 1 ≡ true
  once p pw =
      let k = count_≤1 (λ u. inside_tri vs u p) t n (λ i j hi hj x y. one_inside i j hi hj p (leb-true 1 p.w pw) (inside_tri→ vs (t i) p x) (inside_tri→ vs (t j) p y)) in
      le-leb (length (those (λ u. inside_tri vs u p) (triangles m))) 1 (omega (arith, those_count (λ u. inside_tri vs u p) (triangles m)))

  module _ (some : 1 < m.faces) where
    somewhere : (p : Point) → a_point p ≡ true → in_hull vs p ≡ true → any (λ u. in_tri vs u p) (triangles m) ≡ true
    somewhere p pw h = found (covers S G some p (leb-true 1 p.w pw) (in_all p h))
      where
        found : Covered (spot vs) m p → any (λ u. in_tri vs u p) (triangles m) ≡ true
        found c =
            let i = c.it - 1 in let k : i < n = omega (arith, c.inner, c.below) in
            let back : c.it ≡ suc i = omega (arith, c.inner) in
            any← (λ u. in_tri vs u p) (triangles m) (t i) (in_each t (up_to n) i (up_to← n i k))
            (in_tri← vs (t i) p (face_in_tri vs S (suc i) (zero-lt-suc i) (below i k) (subst (λ (f : ℕ). InFace (spot vs) m false f p) back c.here)))

    pub mesh_tiles : Tiles vs (triangles m)
    unfolding Tiles
    mesh_tiles = (all_triangles, none_twice, somewhere, once)
