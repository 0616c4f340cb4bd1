-- For vertices at whole places, no two at one, there is a Delaunay triangulation: the one in memory after all have been inserted, if there is room enough.
use Rattle.std.proofs.Common.{◌≡◌, ℕ, zero, suc, ◌+◌, ◌<◌, ◌≤◌, true, eqb, List, [], ◌∷◌, length, sym, refl, ap, ◌∙◌, subst, arith, inl, inr}
use Rattle.exact.specs.Plane.{every, each, up_to, Point, point, Vertex, vertex, vertex_at, spot, same_spot, all_apart, Delaunay}
use Rattle.std.proofs.lemmas.Bool.{and_from, eq-eqb, cases_lt}
use Rattle.exact.proofs.Enumerations.{each_first, each_same}
use Rattle.exact.proofs.Vertices.{spot_whole, same_number}
use Rattle.dcel.specs.Layout.{Size, total}
use Rattle.dcel.specs.Memory.{map_of, vertices_in}
use Rattle.dcel.specs.Geometry.{triangles}
use Rattle.dcel.specs.Holds.{Sites, sites_of, with_site}
use Rattle.delaunay.specs.Insert.{inserted}
use Rattle.delaunay.specs.Kept.{vertices_of, Standing}
use Rattle.delaunay.proofs.AtRest.{standing_delaunay}
use Rattle.delaunay.proofs.Inserting.Told.{NoneAt}
use Rattle.delaunay.proofs.Inserting.Standing.{Added}
use Rattle.delaunay.proofs.Inserting.Inserted.{inserted_law}
use Rattle.triangles.specs.Promise.{ThereIs}
use Rattle.triangles.specs.Machine.{zeros}
use Rattle.triangles.proofs.Promises.Grown.{vertex_of, grown_elsewhere, grown_there}
use Rattle.triangles.proofs.Promises.Clearing.{start_bare, start_stands}

-- above every coordinate
abbrev limit : List Vertex → ℕ
limit [] = 1
limit (v ∷ vs) = v.at.x + v.at.y + limit vs

below_limit : (vs : List Vertex) (i : ℕ) → ((spot vs i).x < limit vs) × ((spot vs i).y < limit vs)
unfolding vertex_at
below_limit [] i = (omega arith, omega arith)
below_limit (v ∷ vs) zero = let r = below_limit vs 0 in (omega (arith, r.0), omega (arith, r.0))
below_limit (v ∷ vs) (suc i) = let r = below_limit vs i in (omega (arith, r.0), omega (arith, r.1))

listed : (vs : List Vertex) → each (vertex_at vs) (up_to (length vs)) ≡ vs
unfolding vertex_at each up_to
listed [] = refl
listed (v ∷ vs) = each_first (vertex_at (v ∷ vs)) (length vs) ∙ ap (λ (k : List Vertex). v ∷ k) (listed vs)

whole_vertex : (v : Vertex) → v.at.w ≡ 1 → vertex v.at.x v.at.y v.data_of ≡ v
whole_vertex v q = λ i. record { at = record { x = v.at.x; y = v.at.y; w = sym q i }; data_of = v.data_of }

module _ (vs : List Vertex) (apart : all_apart vs ≡ true) (whole : every (λ v. eqb v.at.w 1) vs ≡ true) where
  abbrev s : Size
  s = record { vertices = 2 + length vs; coordinates = limit vs }

  -- the first n are in memory
  record First (n : ℕ) : Type 0 where
    memory : List ℕ
    standing : Standing s memory
    count : vertices_in s memory ≡ n
    those : (j : ℕ) → j < n → vertex_of (sites_of s memory) j ≡ vertex_at vs j

  -- the next is at none of their places
  none_there : (n : ℕ) → n < length vs → (f : First n) → NoneAt s f.memory (point (spot vs n).x (spot vs n).y)
  none_there n h f j l q =
      let k : j < n = omega (arith, f.count) in
      let there : point (spot vs n).x (spot vs n).y ≡ spot vs j = sym q ∙ ap (λ (v : Vertex). v.at) (f.those j k) in
      let same : same_spot (spot vs j) (spot vs n) ≡ true = and_from (eqb (spot vs j).x (spot vs n).x) (eqb (spot vs j).y (spot vs n).y) (eq-eqb _ _ (sym (ap (λ (p : Point). p.x) there))) (eq-eqb _ _ (sym (ap (λ (p : Point). p.y) there))) in
      omega (arith, same_number vs apart j n (omega arith) h same)

  -- and is put in after them
  module _ (n : ℕ) (h : n < length vs) (f : First n) where
    abbrev m : List ℕ
    m = f.memory

    abbrev v : Vertex
    v = vertex_at vs n

    abbrev grown : List ℕ
    grown = inserted s m v.at.x v.at.y v.data_of

    added : Added s m v.at.x v.at.y v.data_of grown
    added = let b = below_limit vs n in ((inserted_law s m (omega arith) f.standing v.at.x v.at.y b.0 b.1).new (none_there n h f) (omega (arith, f.count))).1 v.data_of

    abbrev Is : ℕ → Type 0
    Is j = vertex_of (with_site (sites_of s m) (vertices_in s m) v.at.x v.at.y v.data_of) j ≡ vertex_at vs j

    last_is : Is (vertices_in s m)
    last_is = grown_there s m v.at.x v.at.y v.data_of added ∙ whole_vertex v (spot_whole vs whole n) ∙ ap (vertex_at vs) (sym f.count)

    one_more : First (suc n)
    one_more = record {
      memory = grown;
      standing = added.standing;
      count = omega (arith, added.vertices_are, f.count);
      those = λ j l. ap (λ (t : Sites). vertex_of t j) added.sites_are ∙ elim (cases_lt j n) [
        | inl k ↦ grown_elsewhere s m v.at.x v.at.y v.data_of added j (omega (arith, f.count)) ∙ f.those j k
        | inr k ↦ subst Is (let q : vertices_in s m ≡ j = omega (arith, f.count) in q) last_is
      ];
    }

  all_in : (n : ℕ) → n ≤ length vs → First n
  all_in zero h = record { memory = zeros (total s); standing = (start_stands s).standing; count = (start_bare s).vertices_are; those = λ j l. absurd (omega arith) }
  all_in (suc n) h = one_more n (omega arith) (all_in n (omega arith))

  abbrev end : First (length vs)
  end = all_in (length vs) (omega arith)

  vertices_are : vertices_of s end.memory ≡ vs
  vertices_are =
      ap (λ (k : ℕ). each (vertex_of (sites_of s end.memory)) (up_to k)) end.count
      ∙ each_same (vertex_of (sites_of s end.memory)) (vertex_at vs) (length vs) end.those ∙ listed vs

  there : Delaunay vs (triangles (map_of s end.memory))
  there = subst (λ (us : List Vertex). Delaunay us (triangles (map_of s end.memory))) vertices_are (standing_delaunay s end.memory end.standing)

pub there_is : ThereIs
unfolding ThereIs
there_is vs p = (_, there vs p.0 p.1)
