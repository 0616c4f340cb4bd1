-- What is told of a place that memory has right, in the words of vertices and triangles.
use Rattle.std.proofs.Common.{◌≡◌, ℕ, ◌<◌, ◌≤◌, true, false, not, ◌&&◌, eqb, ◌≢◌, List, [], ◌∷◌, length, sym, refl, ap, ◌∙◌, inl, inr, arith}
use borrow.Author.Differences.{ints}
use Rattle.exact.specs.Plane.{any, Point, point, Vertex, spot, Tri, same_tri, inside_tri, left_of, on_segment, on_a_line, joined, all_numbers}
use Rattle.std.proofs.lemmas.Bool.{false_from_ne_true, not_from_false}
use Rattle.exact.proofs.Booleans.{and_right, and3←, or_left, or_right, eqb_same}
use Rattle.exact.proofs.Lists.{any←, any_false←, up_to→}
use Rattle.exact.proofs.Algebra.Signs.{zero_sign_neg}
use Rattle.exact.proofs.Geometry.Words.{Site, On, Apart, Between, Within}
use Rattle.exact.proofs.Geometry.Tests.{left→, not_left←}
use Rattle.exact.proofs.Geometry.Identities.Sides.{orders}
use Rattle.exact.proofs.Geometry.Spots.{same_or_apart, same_at}
use Rattle.exact.proofs.Geometry.Segments.{on_segment→, on_segment←}
use Rattle.exact.proofs.Geometry.Distances.{between_nearer}
use Rattle.exact.proofs.Geometry.Faces.{rot_out, inside_tri←}
use Rattle.dcel.specs.Layout.{Size}
use Rattle.dcel.specs.Map.{Map, twin}
use Rattle.dcel.specs.Mesh.{Sound}
use Rattle.dcel.specs.Memory.{map_of, vertices_in}
use Rattle.dcel.specs.Geometry.{from, to, apex, Geometric, face_tri, triangles}
use Rattle.dcel.proofs.StrictlyBetween.{strictly_between→}
use Rattle.dcel.proofs.Sites.{site, start, stop, stop_in, third_in}
use Rattle.dcel.proofs.NoFace.{all_outer}
use Rattle.dcel.proofs.Delaunay.FaceOrLine.{no_face_line}
use Rattle.dcel.proofs.Delaunay.TriangleEdges.{face_turned, face_listed}
use Rattle.dcel.proofs.Delaunay.Joined.{edge_joined, edge_outer}
use Rattle.delaunay.specs.Places.{place_of}
use Rattle.delaunay.specs.Where.{Where, on_vertex, on_edge, in_face, outside, beyond, no_edge}
use Rattle.delaunay.specs.Kept.{vertices_of, Held, RightPlace}
use Rattle.delaunay.proofs.AtRest.{vertices_length, spot_of, spots_geometric}
use Rattle.delaunay.proofs.PointLocation.OnNoEdge.{not_outside, not_past}
use Rattle.delaunay.proofs.Inserting.Told.{NoneAt, none_there, vertex_once}
use Rattle.triangles.specs.House.{found, on_an_edge, Located, beyond as beyond_edge}
use Rattle.triangles.specs.LookupRows.{place_row}
use Rattle.triangles.proofs.Promises.Numbered.{found_alone}
use Rattle.triangles.proofs.Promises.Grown.{here, nowhere}
use Rattle.triangles.proofs.Promises.Houses.{house_of}

-- ---- which number is found
module _ (s : Size) (m : List ℕ) (x y : ℕ) where
  pub none_found : NoneAt s m (point x y) → found (vertices_of s m) (point x y) ≡ []
  none_found none = by (found (vertices_of s m) (point x y)) refl
    where
      by : (is : List ℕ) → found (vertices_of s m) (point x y) ≡ is → found (vertices_of s m) (point x y) ≡ []
      by [] f = f
      by (v ∷ is) f = let p = here s m x y v is f in absurd (none v p.in_range p.place_is)

  pub one_found : (v : ℕ) → v < vertices_in s m → place_of s m v ≡ point x y → ((u : ℕ) → u < vertices_in s m → place_of s m u ≡ point x y → u ≡ v) → found (vertices_of s m) (point x y) ≡ v ∷ []
  one_found v h q only = by (found (vertices_of s m) (point x y)) refl
    where
      by : (is : List ℕ) → found (vertices_of s m) (point x y) ≡ is → found (vertices_of s m) (point x y) ≡ v ∷ []
      by [] f = absurd (nowhere s m x y f v h q)
      by (u ∷ is) f =
          let p = here s m x y u is f in
          f ∙ ap (λ (l : List ℕ). u ∷ l) (found_alone 0 (vertices_of s m) (point x y) u is f) ∙ ap (λ (k : ℕ). k ∷ []) (only u p.in_range p.place_is)

module _ (s : Size) (m : List ℕ) (H : Held s m) (x y : ℕ) where
  abbrev vs : List Vertex
  vs = vertices_of s m

  abbrev M : Map
  M = map_of s m

  abbrev ts : List Tri
  ts = triangles M

  abbrev pos : ℕ → Point
  pos = place_of s m

  abbrev S : Sound M
  S = H.holds.mesh.sound

  -- by the places in memory, and by the list of vertices
  abbrev G : Geometric pos M
  G = H.geometric

  abbrev L : Geometric (spot vs) M
  L = spots_geometric s m H

  abbrev len : M.vertices ≡ length vs
  len = sym (vertices_length s m)

  abbrev p : Site
  p = record { at = point x y; whole = refl }

  -- ---- an edge
  module _ (e : ℕ) (h : e < M.half_edges) where
    abbrev a : ℕ
    a = M.origin e

    abbrev b : ℕ
    b = M.origin (twin e)

    a_is : spot vs a ≡ pos a
    a_is = spot_of s m a (S.origin_in e h)

    b_is : spot vs b ≡ pos b
    b_is = spot_of s m b (stop_in S e h)

    on_it : Between (start G e) (stop G e) p → on_segment (spot vs a) (spot vs b) (point x y) ≡ true
    on_it k = (λ i. on_segment (a_is i) (b_is i) (point x y)) ∙ on_segment← (start G e) (stop G e) p k

    left_of_it : left_of (pos a) (pos b) (point x y) ≡ true → left_of (spot vs a) (spot vs b) (point x y) ≡ true
    left_of_it k = (λ i. left_of (a_is i) (b_is i) (point x y)) ∙ k

    -- ---- a face has it strictly inside
    module _ (z : M.face e ≢ 0) where
      abbrev t : Tri
      t = face_tri M (M.face e)

      abbrev c_is : spot vs (M.origin (M.prev e)) ≡ pos (M.origin (M.prev e))
      c_is = spot_of s m (M.origin (M.prev e)) (third_in S e h)

      listed : any (same_tri t) ts ≡ true
      listed = any← (same_tri t) ts t (face_listed S e (h, z)) (and3← (eqb t.one t.one) (eqb t.two t.two) (eqb t.three t.three) (eqb_same t.one) (eqb_same t.two) (eqb_same t.three))

      inside_it : Within true (pos a) (pos b) (pos (M.origin (M.prev e))) (point x y) → inside_tri vs t (point x y) ≡ true
      inside_it k = inside_tri← vs t (point x y) (rot_out vs t a b (M.origin (M.prev e)) (face_turned S e (h, z)) (point x y) (rw (a_is, b_is, c_is) k))

  -- ---- a place where no vertex is
  module _ (none : NoneAt s m (point x y)) where
    away : (v : ℕ) → v < vertices_in s m → Apart (site G v) p
    away v l = elim (same_or_apart (site G v) p) [ inl q ↦ absurd (none v l (same_at (site G v) p q)) | inr k ↦ k ]

    -- on no edge, if it is between no two vertices
    on_none : ((c d : ℕ) → c < vertices_in s m → d < vertices_in s m → Between (site G c) (site G d) p → ⊥) → on_an_edge (house_of s m) (point x y) ≡ false
    unfolding on_an_edge
    on_none f = any_false← (λ c. any (λ d. joined vs ts c d && on_segment (spot vs c) (spot vs d) (point x y)) (all_numbers vs)) (all_numbers vs) (λ c i. any_false← (λ d. joined vs ts c d && on_segment (spot vs c) (spot vs d) (point x y)) (all_numbers vs) (λ d j.
        false_from_ne_true (joined vs ts c d && on_segment (spot vs c) (spot vs d) (point x y)) (λ k.
        let hc : c < vertices_in s m = omega (arith, up_to→ (length vs) c i, len) in let hd : d < vertices_in s m = omega (arith, up_to→ (length vs) d j, len) in
        f c d hc hd (on_segment→ (site G c) (site G d) p
        (sym (λ i. on_segment (spot_of s m c hc i) (spot_of s m d hd i) (point x y)) ∙ and_right (joined vs ts c d) (on_segment (spot vs c) (spot vs d) (point x y)) k) (away c hc) (away d hd)))))

    -- past the end of the line
    module _ (flat : M.faces ≤ 1) (e : ℕ) (h : e < M.half_edges) (k : Between (start G e) p (stop G e)) where
      not_left : left_of (spot vs (M.origin (twin e))) (spot vs (M.origin e)) (point x y) ≡ false
      not_left =
          (λ i. left_of (b_is e h i) (a_is e h i) (point x y))
          ∙ not_left← (pos (M.origin (twin e))) (pos (M.origin e)) (point x y) (zero_sign_neg _ (let o : On (stop G e) (start G e) p = omega (arith, ints, k.on, orders (start G e) (stop G e) p) in o))

      not_on : on_segment (spot vs (M.origin e)) (spot vs (M.origin (twin e))) (point x y) ≡ false
      not_on =
          (λ i. on_segment (a_is e h i) (b_is e h i) (point x y))
          ∙ false_from_ne_true (on_segment (pos (M.origin e)) (pos (M.origin (twin e))) (point x y)) (λ t.
          let near = between_nearer (start G e) (stop G e) p (on_segment→ (start G e) (stop G e) p t (away (M.origin e) (S.origin_in e h)) (away (M.origin (twin e)) (stop_in S e h))) in
          omega (arith, ints, near, between_nearer (start G e) p (stop G e) k))

      past_it : beyond_edge vs (M.origin e) (M.origin (twin e)) (point x y) ≡ true
      unfolding beyond_edge
      past_it =
          let a = spot vs (M.origin e) in let b = spot vs (M.origin (twin e)) in
          or_right (left_of a b (point x y)) (not (left_of b a (point x y)) && (on_a_line vs && not (on_segment a b (point x y))))
          (and3← (not (left_of b a (point x y))) (on_a_line vs) (not (on_segment a b (point x y))) (not_from_false (left_of b a (point x y)) not_left) (no_face_line vs S L len flat) (not_from_false (on_segment a b (point x y)) not_on))

  pub placed : (w : Where) → RightPlace s m (point x y) w → Located (house_of s m) (point x y) (place_row s m w)
  unfolding Located beyond_edge
  placed (on_vertex v) r = inl (v, refl, one_found s m x y v r.0 r.1 (λ u h q. vertex_once s m H x y u v h r.0 q r.1))
  placed (on_edge e) r =
      let h = r.0 in
      inr (none_found s m x y (none_there s m H x y (on_edge e) r refl), inl (M.origin e, M.origin (twin e), refl, edge_joined vs S L len e h, on_it e h (strictly_between→ (from pos M e) (to pos M e) (point x y) r.1)))
  placed (in_face e) r =
      let h = r.0 in let z = r.1 in
      let k : Within true (from pos M e) (to pos M e) (apex pos M e) (point x y) = record { ab = left→ (from pos M e) (to pos M e) (point x y) r.2; bc = left→ (to pos M e) (apex pos M e) (point x y) r.3; ca = left→ (apex pos M e) (from pos M e) (point x y) r.4 } in
      inr (none_found s m x y (none_there s m H x y (in_face e) r refl), inr (inl (face_tri M (M.face e), refl, listed e h z, inside_it e h z k)))
  placed (outside e) r =
      let h = r.0 in let none = none_there s m H x y (outside e) r refl in
      let l = left→ (from pos M e) (to pos M e) (point x y) r.2 in
      inr (
        none_found s m x y none,
        inr (inr (inl (
          M.origin e,
          M.origin (twin e),
          refl,
          edge_outer vs S L len e h r.1,
          or_left (left_of (spot vs (M.origin e)) (spot vs (M.origin (twin e))) (point x y)) _ (left_of_it e h r.2),
          on_none none (λ c d hc hd k. not_outside S G p c d hc hd k e h r.1 l),
        ))),
      )
  placed (beyond e) r =
      let flat = r.0 in let h = r.1 in let none = none_there s m H x y (beyond e) r refl in
      let k : Between (start G e) p (stop G e) = strictly_between→ (from pos M e) (point x y) (to pos M e) r.3 in
      inr (
        none_found s m x y none,
        inr (inr (inl (
          M.origin e,
          M.origin (twin e),
          refl,
          edge_outer vs S L len e h (all_outer S flat e h),
          past_it none flat e h k,
          on_none none (λ c d hc hd b. not_past S G p c d hc hd b e h flat r.2 k),
        ))),
      )
  placed no_edge r = absurd r
