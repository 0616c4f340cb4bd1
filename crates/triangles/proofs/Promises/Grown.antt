-- The vertices in memory after a point came: as the list of vertices is to be, with the point's number found in it.
use Rattle.std.proofs.Common.{◌≡◌, ℕ, suc, ◌+◌, ◌<◌, true, eqb, ◌≢◌, List, [], ◌∷◌, ◌++◌, length, sym, refl, ap, ◌∙◌, ap₂, inl, inr, arith}
use Rattle.exact.specs.Plane.{each, up_to, Point, point, Vertex, vertex, vertex_at, same_spot}
use Rattle.std.proofs.lemmas.Bool.{and_from}
use Rattle.exact.proofs.Booleans.{eqb_same, true_false}
use Rattle.exact.proofs.Lists.{any_false→, in_each, up_to←}
use Rattle.dcel.specs.Layout.{Size}
use Rattle.dcel.specs.Map.{Map}
use Rattle.dcel.specs.Pairs.{changed}
use Rattle.dcel.specs.Memory.{vertices_in}
use Rattle.dcel.specs.Holds.{Sites, sites_of, with_site}
use Rattle.dcel.proofs.Changes.{changed_off, changed_at}
use Rattle.delaunay.specs.Places.{place_of}
use Rattle.delaunay.specs.Insert.{inserted}
use Rattle.delaunay.specs.Kept.{vertices_of}
use Rattle.triangles.specs.House.{found, set_nth}
use Rattle.triangles.proofs.Apart.{found_one, found_none, same_place}
use Rattle.exact.proofs.Enumerations.{each_more, each_same}
use Rattle.triangles.proofs.Promises.Numbered.{each_set, found_end, found_set}
use Rattle.delaunay.proofs.AtRest.{vertices_length, spot_of}
use Rattle.delaunay.proofs.Inserting.OneWord.{with_data}
use Rattle.delaunay.proofs.Inserting.Told.{NoneAt}
use Rattle.delaunay.proofs.Inserting.Standing.{Renewed, Added}

-- the vertex of a number
abbrev pub vertex_of : Sites → ℕ → Vertex
vertex_of t v = vertex (t.x v) (t.y v) (t.data_of v)

same_vertex : (x y d a b e : ℕ) → x ≡ a → y ≡ b → d ≡ e → vertex x y d ≡ vertex a b e
same_vertex x y d a b e p q r = λ i. record { at = point (p i) (q i); data_of = r i }

changed_there : (v x : ℕ) (f : ℕ → ℕ) → changed ((v, x) ∷ []) f v ≡ x
changed_there v x f = (changed_at ((v, x) ∷ []) f (tt, tt)).0

changed_elsewhere : (v x : ℕ) (f : ℕ → ℕ) (j : ℕ) → j ≢ v → changed ((v, x) ∷ []) f j ≡ f j
changed_elsewhere v x f j q = changed_off ((v, x) ∷ []) f j (λ k. elim k [ inl e ↦ q e | inr k ↦ k ])

module _ (s : Size) (m : List ℕ) where
  module _ (x y : ℕ) where
    -- a number that is found is that of a vertex at the place, and none is found where there is none
    pub record Here (v : ℕ) : Type 0 where
      pub in_range : v < vertices_in s m
      pub place_is : place_of s m v ≡ point x y

    pub here : (v : ℕ) (is : List ℕ) → found (vertices_of s m) (point x y) ≡ v ∷ is → Here v
    here v is e =
        let f = found_one 0 (vertices_of s m) (point x y) v is e in
        let j_is : f.j ≡ v = omega (arith, f.is) in
        let l : v < vertices_in s m = omega (arith, f.in_range, vertices_length s m, j_is) in
        let q : same_spot (place_of s m v) (point x y) ≡ true = ap (λ (p : Point). same_spot p (point x y)) (sym (spot_of s m v l) ∙ ap (λ (k : ℕ). (vertex_at (vertices_of s m) k).at) (sym j_is)) ∙ f.same in
        record { in_range = l; place_is = same_place (place_of s m v) x y refl q }

    pub nowhere : found (vertices_of s m) (point x y) ≡ [] → NoneAt s m (point x y)
    nowhere e v h q =
        true_false (same_spot (place_of s m v) (point x y)) (ap (λ (p : Point). same_spot p (point x y)) q ∙ and_from (eqb x x) (eqb y y) (eqb_same x) (eqb_same y))
        (any_false→ (λ u. same_spot u.at (point x y)) (vertices_of s m) (found_none 0 (vertices_of s m) (point x y) e) (vertex_of (sites_of s m) v)
        (in_each (vertex_of (sites_of s m)) (up_to (vertices_in s m)) v (up_to← (vertices_in s m) v h)))

    -- where a vertex is already
    module _ (d v : ℕ) (p : Here v) (r : Renewed s m v d (inserted s m x y d)) where
      abbrev renewed : Sites
      renewed = with_data (sites_of s m) v d

      renewed_there : vertex_of renewed v ≡ vertex x y d
      renewed_there = same_vertex _ _ _ _ _ _ (ap (λ (q : Point). q.x) p.place_is) (ap (λ (q : Point). q.y) p.place_is) (changed_there v d (sites_of s m).data_of)

      pub vertices_renewed : vertices_of s (inserted s m x y d) ≡ set_nth (vertices_of s m) v (vertex x y d)
      vertices_renewed =
          ap₂ (λ (t : Sites) (k : ℕ). each (vertex_of t) (up_to k)) r.sites_are (ap (λ (k : Map). k.vertices) r.map_is)
          ∙ each_set (vertex_of (sites_of s m)) (vertex_of renewed) (vertices_in s m) v (λ j h q. same_vertex _ _ _ _ _ _ refl refl (changed_elsewhere v d (sites_of s m).data_of j q)) p.in_range
          ∙ ap (set_nth (vertices_of s m) v) renewed_there

      pub found_renewed : found (vertices_of s (inserted s m x y d)) (point x y) ≡ found (vertices_of s m) (point x y)
      found_renewed =
          ap (λ (vs : List Vertex). found vs (point x y)) vertices_renewed ∙ found_set 0 (vertices_of s m) v (vertex x y d) (point x y) (spot_of s m v p.in_range ∙ p.place_is)

    -- where none is
    module _ (d : ℕ) (r : Added s m x y d (inserted s m x y d)) where
      abbrev last : ℕ
      last = vertices_in s m

      abbrev grown : Sites
      grown = with_site (sites_of s m) last x y d

      pub grown_elsewhere : (j : ℕ) → j < last → vertex_of grown j ≡ vertex_of (sites_of s m) j
      grown_elsewhere j h =
          let q : j ≢ last = λ e. omega arith in
          same_vertex _ _ _ _ _ _ (changed_elsewhere last x (sites_of s m).x j q) (changed_elsewhere last y (sites_of s m).y j q) (changed_elsewhere last d (sites_of s m).data_of j q)

      pub grown_there : vertex_of grown last ≡ vertex x y d
      grown_there = same_vertex _ _ _ _ _ _ (changed_there last x (sites_of s m).x) (changed_there last y (sites_of s m).y) (changed_there last d (sites_of s m).data_of)

      pub vertices_grown : vertices_of s (inserted s m x y d) ≡ vertices_of s m ++ vertex x y d ∷ []
      vertices_grown =
          let more : vertices_in s (inserted s m x y d) ≡ suc last = omega (arith, r.vertices_are) in
          ap₂ (λ (t : Sites) (k : ℕ). each (vertex_of t) (up_to k)) r.sites_are more ∙ each_more (vertex_of grown) last
          ∙ ap₂ (λ (vs : List Vertex) (u : Vertex). vs ++ u ∷ []) (each_same (vertex_of grown) (vertex_of (sites_of s m)) last grown_elsewhere) grown_there

      pub found_grown : found (vertices_of s m) (point x y) ≡ [] → found (vertices_of s (inserted s m x y d)) (point x y) ≡ last ∷ []
      found_grown e =
          let number : 0 + length (vertices_of s m) ≡ last = omega (arith, vertices_length s m) in
          ap (λ (vs : List Vertex). found vs (point x y)) vertices_grown
          ∙ found_end 0 (vertices_of s m) (vertex x y d) (point x y) e (and_from (eqb x x) (eqb y y) (eqb_same x) (eqb_same y)) ∙ ap (λ (k : ℕ). k ∷ []) number
