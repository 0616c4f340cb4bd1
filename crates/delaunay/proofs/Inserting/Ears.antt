-- Between attaching a vertex outside and closing the last ear: memory with the grown mesh, and the edges of the new faces on the list.
use Rattle.std.proofs.Common.{◌≡◌, ℕ, ◌+◌, ◌*◌, ◌/◌, ◌<◌, false, ◌⊎◌, List, [], ◌∷◌, sym, refl, ap, ◌∙◌, subst, inl, inr, arith}
use Rattle.exact.specs.Plane.{Point, point, left_of}
use Rattle.exact.proofs.Lists.{In}
use Rattle.dcel.specs.Layout.{Size}
use Rattle.dcel.specs.Map.{Map, twin}
use Rattle.dcel.specs.Mesh.{Among, Mesh}
use Rattle.dcel.specs.Patch.{patched}
use Rattle.dcel.specs.Surgery.{Ear, ear_patch}
use Rattle.dcel.specs.Memory.{map_of, vertices_in, half_edges_in}
use Rattle.dcel.specs.Holds.{Holds, sites_of, Becomes}
use Rattle.dcel.specs.Operations.{ear_closed}
use Rattle.dcel.specs.Geometry.{AtRest, Geometric}
use Rattle.dcel.specs.Legal.{EdgeListed, Ready}
use Rattle.dcel.proofs.Laws.{ear_keeps}
use Rattle.dcel.proofs.Placed.{Placed}
use Rattle.dcel.proofs.Legal.Keeping.{listed_twin}
use Rattle.dcel.proofs.Horizon.Open.{Open}
use Rattle.dcel.proofs.Horizon.Steps.{sight, close}
use Rattle.dcel.proofs.Horizon.EarClosed.{EarClosed}
use Rattle.dcel.proofs.Horizon.EarClosed as Closing
use Rattle.dcel.proofs.Horizon.Worklist.{Listed, right_off_list}
use Rattle.dcel.proofs.Horizon.Worklist as Listing
use Rattle.delaunay.specs.Places.{place_of}
use Rattle.delaunay.specs.Outside.{ear_listed}
use Rattle.delaunay.specs.Walk.{left_at}
use Rattle.delaunay.specs.Kept.{AmongListed, Lists, HalfListed}
use Rattle.delaunay.proofs.Settling.Beside.{SameVertices, beside_map, beside_vertices}
use Rattle.delaunay.proofs.Settling.Links.{lists_rewritten}
use Rattle.delaunay.proofs.Settling.Pushing.{Adds}
use Rattle.delaunay.proofs.Settling.Halves.{still_on}
use Rattle.delaunay.proofs.Settling.Faces.{AllBelow, sides_of, FaceListed, sides_below, sides_listed, adds_faces}
use Rattle.delaunay.proofs.Inserting.OneMore.{OneMore, places_with, places_are, place_new}
use Rattle.delaunay.proofs.Inserting.Put.{Put, listed_as}

-- r is m with the vertex attached outside; a and b are the outer half edges to it and from it
pub record OpenIn (s : Size) (m : List ℕ) (x y d : ℕ) (r : List ℕ) (a b : ℕ) : Type 0 where
  pub holds : Holds s r
  pub one_more : OneMore s m x y d r
  pub grown_open : Open (places_with s m x y) (map_of s m) (map_of s r) a b
  pub list : List ℕ
  pub lists : Lists s r list
  pub listed_in : (i : ℕ) → AmongListed i list → 2 * i < half_edges_in s r
  pub listed : Listed (map_of s m) (map_of s r) (EdgeListed (HalfListed list))

module _ (s : Size) (m : List ℕ) (x y d : ℕ) where
  abbrev pos : ℕ → Point
  pos = places_with s m x y

  here : (r : List ℕ) → OneMore s m x y d r → place_of s r ≡ pos
  here r O = places_are s m x y d r O.sites_are

  module _ (r : List ℕ) {a b : ℕ} (O : OpenIn s m x y d r a b) where
    abbrev g : Map
    g = map_of s r

    -- the test is whether the vertex sees the half edge
    pub left_sight : (e : ℕ) → left_at s r e (point x y) ≡ sight (places_with s m x y) (map_of s r) (vertices_in s m) e
    unfolding left_at
    left_sight e = λ i. left_of (here r O.one_more i (g.origin e)) (here r O.one_more i (g.origin (twin e))) (sym (place_new s m x y) i)

    -- ---- an ear closed, its edges on the list
    module _ (e : ℕ) (may : Ear (map_of s r) e) where
      abbrev o : List ℕ
      o = ear_closed s r e

      abbrev n : List ℕ
      n = ear_listed s r e

      K : Becomes s r (ear_patch g e) (sites_of s r) o
      K = ear_keeps s r e O.holds may

      C : EarClosed g (patched (ear_patch g e) g) e
      C = Closing.ear_closed g O.holds.mesh e may

      more : half_edges_in s o ≡ half_edges_in s r + 2
      more = ap (λ (f : Map). f.half_edges) K.wrote.map_is

      below : AllBelow (half_edges_in s o) (e ∷ [])
      below i (inl q) = omega (arith, may.in_e, more)
      below i (inr k) = absurd k

      A : Adds s o O.list (sides_of (map_of s o) (e ∷ [])) n
      unfolding ear_listed
      A = adds_faces s o O.list (e ∷ []) K.holds (lists_rewritten s r _ _ o O.list K.wrote O.lists) below

      V : SameVertices s o n
      V = beside_vertices s o n A.beside

      pub ear_map : map_of s (ear_listed s r e) ≡ patched (ear_patch (map_of s r) e) (map_of s r)
      ear_map = beside_map s o n A.beside ∙ K.wrote.map_is

      face_on : FaceListed (patched (ear_patch g e) g) A.list e
      face_on = subst (λ (f : Map). FaceListed f A.list e) K.wrote.map_is (sides_listed (map_of s o) A.list (e ∷ []) A.new e (inl refl))

      on : (i : ℕ) → EdgeListed (HalfListed O.list) i ⊎ Among i e (g.next e) (g.half_edges + 1) → EdgeListed (HalfListed A.list) i
      on i (inl k) = still_on O.list A.list A.old i k
      on i (inr (inl q)) = listed_as A.list (sym q) face_on.here
      on i (inr (inr (inl q))) = listed_as A.list (C.is.next_at.0 ∙ sym q) face_on.next
      on i (inr (inr (inr q))) = listed_as A.list (C.is.prev_at.1.1.0 ∙ sym q) face_on.prev

      within : (i : ℕ) → AmongListed i O.list ⊎ ((f : ℕ) × In f (sides_of (map_of s o) (e ∷ [])) × (i ≡ f / 2)) → 2 * i < half_edges_in s n
      within i (inl k) = omega (arith, O.listed_in i k, more, V.half_edges_are)
      within i (inr (f, k, q)) = omega (arith, sides_below (map_of s o) K.holds.mesh.sound (e ∷ []) below f k, V.half_edges_are)

      pub ear_open : 0 < (map_of s m).faces → {a' b' : ℕ} → Open (places_with s m x y) (map_of s m) (patched (ear_patch (map_of s r) e) (map_of s r)) a' b' → OpenIn s m x y d (ear_listed s r e) a' b'
      ear_open some {a'} {b'} N = record {
        holds = record { long = A.beside.long ∙ K.holds.long; mesh = subst Mesh (sym (beside_map s o n A.beside)) K.holds.mesh };
        one_more = record {
          vertices_are = V.vertices_are ∙ ap (λ (f : Map). f.vertices) K.wrote.map_is ∙ O.one_more.vertices_are;
          sites_are = V.sites_are ∙ K.wrote.sites_are ∙ O.one_more.sites_are;
          header_is = λ i l. V.header_is i l ∙ K.wrote.header_is i (omega arith) ∙ O.one_more.header_is i l;
        };
        grown_open = subst (λ (f : Map). Open pos (map_of s m) f a' b') (sym ear_map) N;
        list = A.list;
        lists = A.lists;
        listed_in = λ i k. within i (A.only i k);
        listed = subst (λ (f : Map). Listed (map_of s m) f (EdgeListed (HalfListed A.list))) (sym ear_map) (λ i h k. on i (Listing.ear_listed (map_of s m) (EdgeListed (HalfListed O.list)) some C O.listed i h k));
      }

    -- ---- when nothing more is seen
    pub all_closed : (B : Placed (places_with s m x y) (map_of s m)) → AtRest (places_with s m x y) (map_of s m) → sight (places_with s m x y) (map_of s r) (vertices_in s m) ((map_of s r).next b) ≡ false →
        sight (places_with s m x y) (map_of s r) (vertices_in s m) ((map_of s r).prev a) ≡ false → Put s m x y d r
    all_closed B rest ahead behind = record {
      list = O.list;
      unsettled = record {
        held = record { holds = O.holds; geometric = subst (λ (q : ℕ → Point). Geometric q g) (sym (here r O.one_more)) (close B O.holds.mesh O.grown_open ahead behind) };
        lists = O.lists;
        listed_in = O.listed_in;
        ready = subst (λ (q : ℕ → Point). Ready q g (HalfListed O.list)) (sym (here r O.one_more)) ready;
      };
      one_more = O.one_more;
    }
      where
        ready : Ready pos g (HalfListed O.list)
        ready e h z z' f = right_off_list pos (map_of s m) g (EdgeListed (HalfListed O.list)) B.mesh.sound O.grown_open.grown rest O.listed O.holds.mesh.sound e h z z' f (λ k. f (listed_twin (HalfListed O.list) e k))
