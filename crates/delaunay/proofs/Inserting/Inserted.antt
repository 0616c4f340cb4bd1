-- A point inserted: its number, and memory that stands. At a vertex only its data change; elsewhere there is a vertex more, if there is room.
use Rattle.std.proofs.Common.{◌≡◌, ℕ, ◌<◌, Bool, true, false, ◌&&◌, leb, ◌⊎◌, List, Some, None, sym, refl, ap, ◌∙◌, subst, inl, inr, arith}
use Rattle.std.proofs.lemmas.Bool.{eq-eqb, ne_eqb, le-leb, lt-leb, false_from_ne_true}
use Rattle.exact.specs.Plane.{pick, Point, point, same_spot}
use Rattle.exact.proofs.Booleans.{true_false}
use Rattle.exact.proofs.Geometry.Words.{Site, Same}
use Rattle.exact.proofs.Geometry.Spots.{same_of, same_at, same_spot→, same_spot←}
use Rattle.dcel.specs.Layout.{Size, header}
use Rattle.dcel.specs.Memory.{cell, vertices_in, half_edges_in}
use Rattle.dcel.proofs.Becoming.{at_most_below}
use Rattle.delaunay.specs.Places.{place_of}
use Rattle.delaunay.specs.Insert.{put_alone, put_at, number_at, new_at, put_and_settled, full_at, inserted, inserted_number}
use Rattle.delaunay.specs.Walk.{where_alone, located}
use Rattle.delaunay.specs.Where.{Where, on_vertex, no_edge}
use Rattle.delaunay.specs.Kept.{Triangulated, Standing, RightPlace}
use Rattle.delaunay.proofs.PointLocation.Tests.{picked}
use Rattle.delaunay.proofs.PointLocation.Located.{located_right}
use Rattle.delaunay.proofs.Inserting.Anywhere.{put_unsettled}
use Rattle.delaunay.proofs.Inserting.First.{put_first, put_second}
use Rattle.delaunay.proofs.Inserting.Told.{NoneAt, AtVertex, AtNone, told, vertex_once}
use Rattle.delaunay.proofs.Inserting.Standing.{Added, Renewed, added_settled, added_first, renewed_triangulated, renewed_bare}

module _ (s : Size) (m : List ℕ) (x y : ℕ) where
  abbrev p : Point
  p = point x y

  abbrev w : Where
  w = located s m p

  -- ---- what is told
  located_alone : half_edges_in s m ≡ 0 → w ≡ where_alone s m p
  unfolding located
  located_alone q = rw (eq-eqb (half_edges_in s m) 0 q) refl

  none_alone : vertices_in s m ≡ 0 → where_alone s m p ≡ no_edge
  unfolding where_alone
  none_alone q = ap (λ (b : Bool). pick (b && same_spot (place_of s m 0) p) (on_vertex 0) no_edge) (ne_eqb (vertices_in s m) 1 (λ r. omega arith))

  one_alone : vertices_in s m ≡ 1 → where_alone s m p ≡ pick (same_spot (place_of s m 0) p) (on_vertex 0) no_edge
  unfolding where_alone
  one_alone q = ap (λ (b : Bool). pick (b && same_spot (place_of s m 0) p) (on_vertex 0) no_edge) (eq-eqb (vertices_in s m) 1 q)

  abbrev Told : Where → Type 0
  Told w = AtVertex s m p w ⊎ AtNone s m p w

  abbrev first : Site
  first = record { at = place_of s m 0; whole = refl }

  abbrev here : Site
  here = record { at = p; whole = refl }

  told_standing : Standing s m → Told w
  told_standing (inl (B, L)) = subst Told (sym (located_alone B.half_edges_are ∙ none_alone B.vertices_are)) (inr (record { new = refl; number = refl; none = λ v h q. omega (arith, B.vertices_are) }))
  told_standing (inr (inl (B, L))) = subst Told (sym (located_alone B.half_edges_are ∙ one_alone B.vertices_are)) (picked Told (same_spot (place_of s m 0) p) (on_vertex 0) no_edge
      (λ t. inl (record { vertex = 0; is = refl; below = omega (arith, B.vertices_are); there = same_at first here (same_spot→ first here t) }))
      (λ f. inr (record { new = refl; number = refl; none = λ v h q. true_false _ (same_spot← first here (at_first (ap (place_of s m) (zero_only v h) ∙ q))) f })))
    where
      zero_only : (v : ℕ) → v < vertices_in s m → 0 ≡ v
      zero_only v h = omega (arith, B.vertices_are)

      at_first : place_of s m 0 ≡ p → Same first here
      at_first q = same_of first here (ap (λ (r : Point). r.x) q) (ap (λ (r : Point). r.y) q)
  told_standing (inr (inr T)) = told s m T.settled.held x y w (located_right s m T x y)

  once_standing : Standing s m → (u v : ℕ) → u < vertices_in s m → v < vertices_in s m → place_of s m u ≡ p → place_of s m v ≡ p → u ≡ v
  once_standing (inl (B, L)) u v h l a b = omega (arith, B.vertices_are)
  once_standing (inr (inl (B, L))) u v h l a b = omega (arith, B.vertices_are)
  once_standing (inr (inr T)) u v h l a b = vertex_once s m T.settled.held x y u v h l a b

  -- ---- what is done
  module _ (d : ℕ) where
    put_old : Standing s m → (v : ℕ) → v < vertices_in s m → Renewed s m v d (put_and_settled s m (on_vertex v) x y d)
    unfolding put_and_settled
    put_old (inl (B, L)) v h = absurd (omega (arith, B.vertices_are))
    put_old (inr (inl (B, L))) v h = renewed_bare s m (omega (arith, B.long)) L v d (omega (arith, at_most_below s.vertices (cell s header m 0))) B
    put_old (inr (inr T)) v h = renewed_triangulated s m (omega (arith, T.settled.held.holds.long)) T.settled.lists v d (omega (arith, at_most_below s.vertices (cell s header m 0))) T h

    module _ (more : 1 < s.vertices) (hx : x < s.coordinates) (hy : y < s.coordinates) where
      put_lone : Standing s m → half_edges_in s m ≡ 0 → NoneAt s m p → Added s m x y d (put_and_settled s m no_edge x y d)
      unfolding put_and_settled put_alone
      put_lone (inl (B, L)) z none = rw (eq-eqb (vertices_in s m) 0 B.vertices_are) (added_first s m x y d _ hx hy L (put_first s m x y d hx hy L B (omega arith)))
      put_lone (inr (inl (B, L))) z none =
          let one = B.vertices_are in
          rw (ne_eqb (vertices_in s m) 0 (omega arith)) (added_settled s m x y d _ (omega arith) (put_second s m x y d hx hy L B more (none 0 (omega arith))))
      put_lone (inr (inr T)) z none = absurd (omega (arith, T.last_in))

      put_told : Triangulated s m → vertices_in s m < s.vertices → (v : Where) → RightPlace s m p v → new_at v ≡ true → number_at s m v ≡ vertices_in s m → Added s m x y d (put_and_settled s m v x y d)
      unfolding put_and_settled
      put_told T room v h k q = rw q (added_settled s m x y d (put_at s m v x y d) (omega arith) (put_unsettled s m T.settled room x y d hx hy v h k))

      put_new : Standing s m → AtNone s m p w → vertices_in s m < s.vertices → Added s m x y d (put_and_settled s m w x y d)
      put_new (inl (B, L)) N room = subst (λ (v : Where). Added s m x y d (put_and_settled s m v x y d)) (sym (located_alone B.half_edges_are ∙ none_alone B.vertices_are)) (put_lone (inl (B, L)) B.half_edges_are N.none)
      put_new (inr (inl (B, L))) N room =
          let z = B.half_edges_are in
          let far : same_spot (place_of s m 0) p ≡ false = false_from_ne_true _ (λ t. N.none 0 (omega (arith, B.vertices_are)) (same_at first here (same_spot→ first here t))) in
          let q : w ≡ no_edge = located_alone z ∙ one_alone B.vertices_are ∙ ap (λ (b : Bool). pick b (on_vertex 0) no_edge) far in
          subst (λ (v : Where). Added s m x y d (put_and_settled s m v x y d)) (sym q) (put_lone (inr (inl (B, L))) z N.none)
      put_new (inr (inr T)) N room = put_told T room w (located_right s m T x y) N.new N.number

  -- ---- by whether a vertex is there, and whether there is room
  module _ (S : Standing s m) where
    vertex_or_none : ((v : ℕ) × (v < vertices_in s m) × (place_of s m v ≡ p)) ⊎ NoneAt s m p
    vertex_or_none = elim (told_standing S) [ inl A ↦ inl (A.vertex, A.below, A.there) | inr N ↦ inr N.none ]

    at_vertex : (v : ℕ) → v < vertices_in s m → place_of s m v ≡ p → (inserted_number s m x y ≡ Some v) × ((d : ℕ) → Renewed s m v d (inserted s m x y d))
    unfolding inserted_number inserted full_at
    at_vertex v h q = elim (told_standing S) [
      | inl A ↦
          let is : w ≡ on_vertex v = A.is ∙ ap on_vertex (once_standing S A.vertex v A.below h A.there q) in
          (ap (λ (u : Where). pick (full_at s m u) None (Some (number_at s m u))) is, λ d. subst (λ (u : Where). Renewed s m v d (pick (full_at s m u) m (put_and_settled s m u x y d))) (sym is) (put_old d S v h))
      | inr N ↦ absurd (N.none v h q)
    ]

    module _ (none : NoneAt s m (point x y)) where
      at_none : AtNone s m p w
      at_none = elim (told_standing S) [ inl A ↦ absurd (none A.vertex A.below A.there) | inr N ↦ N ]

      full : (b : Bool) → leb s.vertices (vertices_in s m) ≡ b → full_at s m w ≡ b
      unfolding full_at
      full b q = ap (λ (c : Bool). c && leb s.vertices (vertices_in s m)) at_none.new ∙ q

      elsewhere : 1 < s.vertices → x < s.coordinates → y < s.coordinates → vertices_in s m < s.vertices → (inserted_number s m x y ≡ Some (vertices_in s m)) × ((d : ℕ) → Added s m x y d (inserted s m x y d))
      unfolding inserted_number inserted
      elsewhere more hx hy room =
          let f = full false (lt-leb s.vertices (vertices_in s m) room) in
          (ap (λ (b : Bool). pick b None (Some (number_at s m w))) f ∙ ap Some at_none.number, λ d. subst (λ (b : Bool). Added s m x y d (pick b m (put_and_settled s m w x y d))) (sym f) (put_new d more hx hy S at_none room))

      no_room : vertices_in s m ≡ s.vertices → (inserted_number s m x y ≡ None) × ((d : ℕ) → inserted s m x y d ≡ m)
      unfolding inserted_number inserted
      no_room q =
          let f = full true (le-leb s.vertices (vertices_in s m) (omega arith)) in
          (ap (λ (b : Bool). pick b None (Some (number_at s m w))) f, λ d. ap (λ (b : Bool). pick b m (put_and_settled s m w x y d)) f)

pub record InsertionLaw (s : Size) (m : List ℕ) (x y : ℕ) : Type 0 where
  pub vertex_there : ((v : ℕ) × (v < vertices_in s m) × (place_of s m v ≡ point x y)) ⊎ NoneAt s m (point x y)
  pub old : (v : ℕ) → v < vertices_in s m → place_of s m v ≡ point x y → (inserted_number s m x y ≡ Some v) × ((d : ℕ) → Renewed s m v d (inserted s m x y d))
  pub new : NoneAt s m (point x y) → vertices_in s m < s.vertices → (inserted_number s m x y ≡ Some (vertices_in s m)) × ((d : ℕ) → Added s m x y d (inserted s m x y d))
  pub full : NoneAt s m (point x y) → vertices_in s m ≡ s.vertices → (inserted_number s m x y ≡ None) × ((d : ℕ) → inserted s m x y d ≡ m)

pub inserted_law : (s : Size) (m : List ℕ) → 1 < s.vertices → Standing s m → (x y : ℕ) → x < s.coordinates → y < s.coordinates → InsertionLaw s m x y
inserted_law s m more S x y hx hy = record { vertex_there = vertex_or_none s m x y S; old = at_vertex s m x y S; new = λ none room. elsewhere s m x y S none more hx hy room; full = λ none q. no_room s m x y S none q }
