-- A surgery that puts a vertex in, and then the changed faces put on the list: every edge that may be wrong is there.
use Rattle.std.proofs.Common.{◌≡◌, ℕ, ◌+◌, ◌%◌, ◌<◌, List, [], ◌∷◌, sym, refl, ap, ◌∙◌, subst, inl, inr, arith}
use Rattle.exact.specs.Plane.{Point}
use Rattle.exact.proofs.Lists.{In}
use Rattle.dcel.specs.Layout.{Size}
use Rattle.dcel.specs.Map.{Map}
use Rattle.dcel.specs.Patch.{Patch, patched}
use Rattle.dcel.specs.Memory.{map_of, vertices_in}
use Rattle.dcel.specs.Holds.{sites_of, with_site, Becomes}
use Rattle.dcel.specs.Geometry.{Geometric}
use Rattle.dcel.specs.Legal.{EdgeListed, Ready}
use Rattle.delaunay.specs.Places.{place_of}
use Rattle.delaunay.specs.Kept.{Lists, HalfListed, Unsettled}
use Rattle.delaunay.proofs.Settling.Beside.{SameButList, beside_vertices}
use Rattle.delaunay.proofs.Settling.Links.{lists_rewritten}
use Rattle.delaunay.proofs.Settling.Faces.{pushed_faces, FaceListed, faces_pend}
use Rattle.delaunay.proofs.Inserting.OneMore.{OneMore, site_written, places_with, places_are}

-- n is m with a vertex more, and whatever edge is wrong is on the list
pub record Put (s : Size) (m : List ℕ) (x y d : ℕ) (n : List ℕ) : Type 0 where
  pub list : List ℕ
  pub unsettled : Unsettled s n list
  pub one_more : OneMore s m x y d n

-- a half edge by another name
pub listed_as : (r : List ℕ) {a b : ℕ} → a ≡ b → EdgeListed (HalfListed r) a → EdgeListed (HalfListed r) b
listed_as r q k = subst (EdgeListed (HalfListed r)) q k

-- P of each number of a list
abbrev pub Each : (ℕ → Type 0) → List ℕ → Type 0
Each P [] = Unit {0}
Each P (e ∷ es) = P e × Each P es

in_each : (P : ℕ → Type 0) (es : List ℕ) → Each P es → (e : ℕ) → In e es → P e
in_each P [] h e k = absurd k
in_each P (f ∷ es) h e (inl q) = subst P (sym q) h.0
in_each P (f ∷ es) h e (inr k) = in_each P es h.1 e k

each_in : (P : ℕ → Type 0) (es : List ℕ) → ((e : ℕ) → In e es → P e) → Each P es
each_in P [] h = tt
each_in P (e ∷ es) h = (h e (inl refl), each_in P es (λ f k. h f (inr k)))

module _ (s : Size) (m : List ℕ) (x y d : ℕ) (h : x < s.coordinates) (k : y < s.coordinates) (p : Patch) (o : List ℕ)
    (K : Becomes s m p (with_site (sites_of s m) (vertices_in s m) (x % s.coordinates) (y % s.coordinates) d) o) where
  sites_written : sites_of s o ≡ with_site (sites_of s m) (vertices_in s m) x y d
  sites_written = K.wrote.sites_are ∙ site_written s m (vertices_in s m) x y d h k

  -- what is said of the patched mesh at the places with the vertex is so in memory
  in_memory : (P : (ℕ → Point) → Map → Type 0) → P (places_with s m x y) (patched p (map_of s m)) → P (place_of s o) (map_of s o)
  in_memory P t = subst (λ (q : ℕ → Point). P q (map_of s o)) (sym (places_are s m x y d o sites_written)) (subst (P (places_with s m x y)) (sym K.wrote.map_is) t)

  pub one_more : p.vertices ≡ vertices_in s m + 1 → (n : List ℕ) → SameButList s o n → OneMore s m x y d n
  one_more c n B =
      let V = beside_vertices s o n B in
      record {
        vertices_are = V.vertices_are ∙ ap (λ (g : Map). g.vertices) K.wrote.map_is ∙ c;
        sites_are = V.sites_are ∙ sites_written;
        header_is = λ i l. V.header_is i l ∙ K.wrote.header_is i (omega arith);
      }

  pub put_with : p.vertices ≡ vertices_in s m + 1 → Lists s m [] → Geometric (places_with s m x y) (patched p (map_of s m)) → (es : List ℕ) → Each (λ e. e < p.half_edges) es →
      ((r : List ℕ) → Each (FaceListed (patched p (map_of s m)) r) es → Ready (places_with s m x y) (patched p (map_of s m)) (HalfListed r)) → Put s m x y d (pushed_faces s o es)
  put_with c L G es b R =
      let P = faces_pend s o [] es (record { holds = K.holds; geometric = in_memory Geometric G }) (lists_rewritten s m p _ o [] K.wrote L) (λ i a. absurd a)
      (λ e a. omega (arith, in_each (λ f. f < p.half_edges) es b e a, ap (λ (g : Map). g.half_edges) K.wrote.map_is))
      (λ r old on. in_memory (λ q g. Ready q g (HalfListed r)) (R r (each_in (FaceListed (patched p (map_of s m)) r) es (λ e a. subst (λ (g : Map). FaceListed g r e) K.wrote.map_is (on e a))))) in
      record { list = P.list; unsettled = P.unsettled; one_more = one_more c (pushed_faces s o es) P.beside }
