-- After a point has been put in: every edge is right again, and the next walk starts at the vertex.
use Rattle.std.proofs.Common.{◌≡◌, ℕ, ◌+◌, ◌<◌, ◌≤◌, List, [], length, sym, ap, ◌∙◌, subst, inl, inr, arith}
use Rattle.dcel.specs.Layout.{Size, header, vertex_data, vertex_out, total}
use Rattle.dcel.specs.Map.{Map}
use Rattle.dcel.specs.Memory.{cell, put, map_of, vertices_in}
use Rattle.dcel.specs.Holds.{sites_of, with_site}
use Rattle.dcel.specs.Start.{Bare}
use Rattle.delaunay.specs.Legalize.{settle, settle_fuel, legalized}
use Rattle.delaunay.specs.Walk.{last_edge}
use Rattle.delaunay.specs.Kept.{Lists, Settled, Triangulated, Standing}
use Rattle.delaunay.proofs.Loops.{iterate_stop}
use Rattle.delaunay.proofs.Listed.{settle_none}
use Rattle.delaunay.proofs.Settling.Popping.{nothing_first}
use Rattle.delaunay.proofs.Settling.Loop.{legalized_settled}
use Rattle.delaunay.proofs.Inserting.OneMore.{OneMore}
use Rattle.delaunay.proofs.Inserting.Put.{Put}
use Rattle.delaunay.proofs.Inserting.First.{FirstPut}
use Rattle.delaunay.proofs.Inserting.OneWord.{with_data, SameMeshIn, lists_there, settled_there, bare_there, data_header, data_sites, data_mesh, last_is, last_header, last_sites, last_mesh}

-- n stands with a vertex more, or with other data at v; the next walk starts at a half edge that leaves it
pub record Added (s : Size) (m : List ℕ) (x y d : ℕ) (n : List ℕ) : Type 0 where
  pub standing : Standing s n
  pub vertices_are : vertices_in s n ≡ vertices_in s m + 1
  pub sites_are : sites_of s n ≡ with_site (sites_of s m) (vertices_in s m) x y d
  pub header_is : (i : ℕ) → last_edge < i → cell s header n i ≡ cell s header m i
  pub last_leaves : cell s header n last_edge ≡ (map_of s n).out (vertices_in s m)

pub record Renewed (s : Size) (m : List ℕ) (v d : ℕ) (n : List ℕ) : Type 0 where
  pub standing : Standing s n
  pub map_is : map_of s n ≡ map_of s m
  pub sites_are : sites_of s n ≡ with_data (sites_of s m) v d
  pub header_is : (i : ℕ) → last_edge < i → cell s header n i ≡ cell s header m i
  pub last_leaves : cell s header n last_edge ≡ (map_of s n).out v

-- with nothing on the list there is nothing to do
legalized_none : (s : Size) (m : List ℕ) → Lists s m [] → legalized s m ≡ m
unfolding legalized
legalized_none s m L = iterate_stop (settle s) (settle_fuel s) m (settle_none s m (sym (nothing_first s m L)))

-- the next walk starts at v
abbrev pub starting_at : Size → List ℕ → ℕ → List ℕ
starting_at s n v = put s header n last_edge (cell s vertex_out n v)

module _ (s : Size) (n : List ℕ) (v : ℕ) (z : total s ≤ length n) where
  abbrev o : List ℕ
  o = starting_at s n v

  same : SameMeshIn s n o
  same = last_mesh s n z (cell s vertex_out n v)

  leaves : cell s header o last_edge ≡ (map_of s o).out v
  leaves = last_is s n z (cell s vertex_out n v) ∙ ap (λ (g : Map). g.out v) (sym same.map_is)

  starting_triangulated : Settled s n → v < vertices_in s n → Triangulated s o
  starting_triangulated S h = record {
    settled = settled_there s n o same S;
    last_in = omega (arith, last_is s n z (cell s vertex_out n v), ap (λ (g : Map). g.half_edges) same.map_is, S.held.holds.mesh.sound.out_in v h);
  }

  starting_bare : (k : ℕ) → Bare s k n → Lists s n [] → Bare s k o × Lists s o []
  starting_bare k B L = (bare_there s n o same k B, lists_there s n o same [] L)

module _ (s : Size) (m : List ℕ) (x y d : ℕ) where
  added : (o : List ℕ) → total s ≤ length o → OneMore s m x y d o → Standing s (starting_at s o (vertices_in s m)) → Added s m x y d (starting_at s o (vertices_in s m))
  added o z O S = record {
    standing = S;
    vertices_are = ap (λ (g : Map). g.vertices) (same s o (vertices_in s m) z).map_is ∙ O.vertices_are;
    sites_are = last_sites s o z _ ∙ O.sites_are;
    header_is = λ i l. last_header s o z _ i (omega arith) ∙ O.header_is i (omega arith);
    last_leaves = leaves s o (vertices_in s m) z;
  }

  pub added_settled : (n : List ℕ) → 0 < s.coordinates → Put s m x y d n → Added s m x y d (starting_at s (legalized s n) (vertices_in s m))
  added_settled n c P =
      let L = legalized_settled s n P.list c P.unsettled in
      let o = legalized s n in
      let V = P.one_more in
      let z : total s ≤ length o = omega (arith, L.settled.held.holds.long) in
      let one : OneMore s m x y d o = record {
        vertices_are = L.same.vertices_are ∙ V.vertices_are;
        sites_are = L.same.sites_are ∙ V.sites_are;
        header_is = λ i l. L.same.header_is i l ∙ V.header_is i l;
      } in
      added o z one (inr (inr (starting_triangulated s o (vertices_in s m) z L.settled (omega (arith, one.vertices_are)))))

  pub added_first : (n : List ℕ) (hx : x < s.coordinates) (hy : y < s.coordinates) (M : Lists s m []) → FirstPut s m x y d hx hy M n → Added s m x y d (starting_at s (legalized s n) (vertices_in s m))
  added_first n hx hy M F =
      let z : total s ≤ length n = omega (arith, F.bare.long) in
      subst (λ (o : List ℕ). Added s m x y d (starting_at s o (vertices_in s m))) (sym (legalized_none s n F.lists))
      (added n z F.one_more (inr (inl (starting_bare s n (vertices_in s m) z 1 F.bare F.lists))))

-- ---- other data
module _ (s : Size) (m : List ℕ) (z : total s ≤ length m) (L : Lists s m []) (v d : ℕ) (h : v < s.vertices) where
  abbrev n : List ℕ
  n = put s vertex_data m v d

  A : SameMeshIn s m n
  A = data_mesh s m v d

  long : total s ≤ length n
  long = omega (arith, A.long)

  renewed : Standing s (starting_at s n v) → Renewed s m v d (starting_at s (legalized s n) v)
  renewed S = subst (λ (o : List ℕ). Renewed s m v d (starting_at s o v)) (sym (legalized_none s n (lists_there s m n A [] L))) (record {
    standing = S;
    map_is = (same s n v long).map_is ∙ A.map_is;
    sites_are = last_sites s n long _ ∙ data_sites s m v d z h;
    header_is = λ i l. last_header s n long _ i (omega arith) ∙ data_header s m v d i;
    last_leaves = leaves s n v long;
  })

  pub renewed_triangulated : Triangulated s m → v < vertices_in s m → Renewed s m v d (starting_at s (legalized s (put s vertex_data m v d)) v)
  renewed_triangulated T l = renewed (inr (inr (starting_triangulated s n v long (settled_there s m n A T.settled) (omega (arith, ap (λ (g : Map). g.vertices) A.map_is)))))

  pub renewed_bare : Bare s 1 m → Renewed s m v d (starting_at s (legalized s (put s vertex_data m v d)) v)
  renewed_bare B = renewed (inr (inl (starting_bare s n v long 1 (bare_there s m n A 1 B) (lists_there s m n A [] L))))

-- ---- two vertices or more are a mesh, and the next walk starts at a half edge that leaves the vertex
pub standing_triangulated : (s : Size) (n : List ℕ) → 1 < vertices_in s n → Standing s n → Triangulated s n
standing_triangulated s n h (inl (B, L)) = absurd (omega (arith, B.vertices_are))
standing_triangulated s n h (inr (inl (B, L))) = absurd (omega (arith, B.vertices_are))
standing_triangulated s n h (inr (inr T)) = T

pub last_from : (s : Size) (n : List ℕ) (v : ℕ) → Triangulated s n → v < vertices_in s n → cell s header n last_edge ≡ (map_of s n).out v → (map_of s n).origin (cell s header n last_edge) ≡ v
last_from s n v T h q = ap (map_of s n).origin q ∙ T.settled.held.holds.mesh.sound.out_origin v h
