-- Where a place is, told right across faces: the walk comes to an outer half edge that has it strictly on its left, or to a closed face that has it.
use Rattle.std.proofs.Common.{◌≡◌, ℕ, ◌<◌, Bool, true, false, eqb, ◌≢◌, ◌⊎◌, List, Some, None, Option, sym, refl, ◌∙◌, inl, inr, arith}
use Rattle.exact.specs.Plane.{pick}
use Rattle.std.proofs.lemmas.Bool.{cases_Bool, eqb-true, eqb-false}
use Rattle.exact.proofs.Algebra.Signs.{◌by◌, weak}
use Rattle.exact.proofs.Geometry.Words.{Site, Left, LeftOn, Right, W_site}
use Rattle.exact.proofs.Geometry.Tests.{left←}
use Rattle.exact.proofs.Geometry.Identities.Sides.{swap}
use Rattle.exact.proofs.Walk.Measure.{measure, falls}
use Rattle.dcel.specs.Layout.{Size, edge_next, edge_prev, edge_face}
use Rattle.dcel.specs.Map.{Map, twin}
use Rattle.dcel.specs.Mesh.{Sound}
use Rattle.dcel.specs.Memory.{cell, map_of}
use Rattle.dcel.specs.Geometry.{Geometric, AtRest}
use Rattle.dcel.proofs.Twins.{twin_twin}
use Rattle.dcel.proofs.Neighbours.{in_triangle}
use Rattle.dcel.proofs.Sites.{start, stop}
use Rattle.dcel.proofs.Tiling.Hull.{two_sides}
use Rattle.dcel.proofs.Delaunay.MeshTriangles.{Inner, face_edges, vertex_sites, mesh_triangles, beyond←, twin_across, mesh_measure_bound}
use Rattle.delaunay.specs.Places.{place_of}
use Rattle.delaunay.specs.Iterate.{iterate}
use Rattle.delaunay.specs.Walk.{right_at, crossed, walk_fuel, walked, inner_half, facing, where_walked, where_faces}
use Rattle.delaunay.specs.Kept.{RightPlace}
use Rattle.delaunay.proofs.Loops.{Goes, iterate_rests}
use Rattle.delaunay.proofs.PointLocation.Tests.{picked, right_at→, not_right_at→}
use Rattle.delaunay.proofs.PointLocation.Fuel.{walk_fuel_enough}
use Rattle.delaunay.proofs.PointLocation.ClosedFace.{in_face_right}

-- ---- a turn of the loop, by its three tests
abbrev choice : Bool → Bool → Bool → ℕ → ℕ → Option ℕ
choice outer n? q? n q = pick outer None (pick n? (Some n) (pick q? (Some q) None))

none_left : (a b c : Bool) (x y : ℕ) → choice a b c x y ≡ None → a ≡ false → (b ≡ false) × (c ≡ false)
none_left true b c x y e f = let z : ◌≡◌ {A = ℕ} 0 1 = cc in absurd (omega arith)
none_left false true c x y e f = let z : ◌≡◌ {A = ℕ} 0 1 = cc in absurd (omega arith)
none_left false false true x y e f = let z : ◌≡◌ {A = ℕ} 0 1 = cc in absurd (omega arith)
none_left false false false x y e f = (refl, refl)

module _ (s : Size) (m : List ℕ) (S : Sound (map_of s m)) (G : Geometric (place_of s m) (map_of s m)) (p : Site) where
  abbrev M : Map
  M = map_of s m

  -- the place is not right of e, and if the outside is there, strictly left
  record Facing (e : ℕ) : Type 0 where
    below : e < M.half_edges
    not_right : LeftOn (start G e) (stop G e) p
    outer_left : M.face e ≡ 0 → Left (start G e) (stop G e) p

  turned : (e : ℕ) → e < M.half_edges → Right (start G e) (stop G e) p → Facing (twin e)
  turned e h r = record { below = S.twin_in e h; not_right = weak left; outer_left = λ z. left }
    where
      left : Left (start G (twin e)) (stop G (twin e)) p
      left = rw (twin_twin e) (r by swap (stop G e) (start G e) p)

  -- how many turns are left after leaving a face by e, at most
  abbrev left_after : ℕ → ℕ
  left_after e = measure (start G) M.next (face_edges M) (vertex_sites G) p.at e

  -- a half edge by which the loop may leave the face of e
  abbrev Exit : ℕ → ℕ → Type 0
  Exit e g = (M.face e ≢ 0) × ((g ≡ M.next e) ⊎ (g ≡ M.prev e)) × Right (start G g) (stop G g) p

  exit_inner : (e g : ℕ) → e < M.half_edges → Exit e g → Inner M g
  exit_inner e g h x =
      let t = in_triangle M S e h x.0 in
      elim x.1 [
        | inl q ↦ rw q (t.next_in, λ y. x.0 (sym t.face_next ∙ y))
        | inr q ↦ rw q (t.prev_in, λ y. x.0 (sym t.face_prev ∙ y))
      ]

  abbrev Toward : ℕ → ℕ → Type 0
  Toward k e = Facing e × ((g : ℕ) → Exit e g → left_after g < k)

  -- ---- at the end
  there : (e : ℕ) → Facing e → crossed s m p.at e ≡ None → RightPlace s m p.at (where_walked s m p.at e)
  unfolding where_walked crossed
  there e f still =
      let n = cell s edge_next m e in
      let q = cell s edge_prev m e in
      picked (RightPlace s m p.at) (eqb (cell s edge_face m e) 0) _ _
      (λ o. let z = eqb-true (M.face e) 0 o in (f.below, z, left← (start G e).at (stop G e).at p.at (f.outer_left z)))
      (λ o. let r = none_left (eqb (cell s edge_face m e) 0) (right_at s m n p.at) (right_at s m q p.at) (twin n) (twin q) still o in
      in_face_right s m S G p e f.below (eqb-false (M.face e) 0 o) f.not_right (not_right_at→ s m n p.at r.0) (not_right_at→ s m q p.at r.1))

  module _ (some : 1 < M.faces) (rest : AtRest (place_of s m) M) where
    -- over an exit the turns left become fewer
    cross : (e g : ℕ) → e < M.half_edges → Exit e g → Toward (left_after g) (twin g)
    cross e g h x = (turned g i.0 x.2, onward)
      where
        i : Inner M g
        i = exit_inner e g h x

        onward : (d : ℕ) → Exit (twin g) d → left_after d < left_after g
        onward d y =
            let t = S.twin_in g i.0 in let j : Inner M (twin g) = (t, y.0) in
            falls (mesh_triangles S G) g (twin g) i j (twin_across S G g i j (rest g i.0 i.1 y.0)) p.at (W_site p) (beyond← S G g i.0 p.at x.2)
            d (beyond← S G d (exit_inner (twin g) d t y).0 p.at y.2)
            (inr (elim y.1 [ inl q ↦ inl q | inr q ↦ inr (q ∙ sym (in_triangle M S (twin g) t y.0).next_next) ]))

    turn : (k e : ℕ) → Toward k e → (crossed s m p.at e ≡ None) ⊎ Goes (crossed s m p.at) Toward k e
    unfolding crossed
    turn k e t =
        let n = cell s edge_next m e in
        let q = cell s edge_prev m e in
        let outer? = eqb (cell s edge_face m e) 0 in
        let n? = right_at s m n p.at in
        let q? = right_at s m q p.at in
        elim (cases_Bool outer?) [
          | inl o ↦ inl (rw o)
          | inr o ↦
              let z = eqb-false (M.face e) 0 o in
              elim (cases_Bool n?) [
                | inl a ↦
                    let x : Exit e n = (z, inl refl, right_at→ s m n p.at a) in
                    inr (record { turns = left_after n; to = twin n; fewer = t.1 n x; on = rw (o, a); kept = cross e n t.0.below x })
                | inr a ↦ elim (cases_Bool q?) [
                  | inl b ↦
                      let x : Exit e q = (z, inr refl, right_at→ s m q p.at b) in
                      inr (record { turns = left_after q; to = twin q; fewer = t.1 q x; on = rw (o, a, b); kept = cross e q t.0.below x })
                  | inr b ↦ inl (rw (o, a, b))
                ]
              ]
        ]

    arrives : (e : ℕ) → Facing e → RightPlace s m p.at (where_walked s m p.at (walked s m p.at e))
    unfolding walked
    arrives e f =
        let r = iterate_rests (crossed s m p.at) Toward turn (walk_fuel s) (walk_fuel s) e (omega arith) (f, enough) in
        there (iterate (crossed s m p.at) (walk_fuel s) e) r.kept.0 r.still
      where
        enough : (g : ℕ) → Exit e g → left_after g < walk_fuel s
        enough g x = omega (arith, mesh_measure_bound S G p.at g (exit_inner e g f.below x), walk_fuel_enough s m)

    -- ---- from any half edge
    inner_first : (e : ℕ) → e < M.half_edges → Inner M (inner_half s m e)
    unfolding inner_half
    inner_first e h = picked (Inner M) (eqb (cell s edge_face m e) 0) (twin e) e (λ o. (S.twin_in e h, two_sides S G some e h (eqb-true (M.face e) 0 o))) (λ o. (h, eqb-false (M.face e) 0 o))

    faces_it : (e : ℕ) → Inner M e → Facing (facing s m p.at e)
    unfolding facing
    faces_it e i = picked Facing (right_at s m e p.at) (twin e) e (λ r. turned e i.0 (right_at→ s m e p.at r)) (λ r. record { below = i.0; not_right = not_right_at→ s m e p.at r; outer_left = λ z. absurd (i.1 z) })

    pub faces_right : (e : ℕ) → e < M.half_edges → RightPlace s m p.at (where_faces s m p.at e)
    unfolding where_faces
    faces_right e h = arrives (facing s m p.at (inner_half s m e)) (faces_it (inner_half s m e) (inner_first e h))
