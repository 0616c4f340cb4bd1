-- The first vertex, and the second at another place: a pair of half edges joins them.
use Rattle.std.proofs.Common.{◌≡◌, ℕ, ◌%◌, ◌<◌, List, [], sym, refl, ap, ◌∙◌, subst, arith}
use Rattle.exact.specs.Plane.{Point, point}
use Rattle.dcel.specs.Layout.{Size}
use Rattle.dcel.specs.Patch.{Patch, patch_of, patched}
use Rattle.dcel.specs.Memory.{map_of, vertices_in}
use Rattle.dcel.specs.Holds.{sites_of, with_site, Becomes}
use Rattle.dcel.specs.Start.{Bare, pair_change, Begins, first_put, second_put}
use Rattle.dcel.proofs.FirstVertices.{first_puts, second_puts}
use Rattle.dcel.proofs.Legal.Lines.{line_ready}
use Rattle.dcel.proofs.Legal.Insertions.{GeometricMesh, first_pair}
use Rattle.delaunay.specs.Places.{place_of}
use Rattle.delaunay.specs.Kept.{Lists, HalfListed}
use Rattle.delaunay.proofs.Settling.Links.{lists_rewritten}
use Rattle.delaunay.proofs.Inserting.OneMore.{OneMore, site_written, places_with, place_old, place_new}
use Rattle.delaunay.proofs.Inserting.Put.{Put, put_with}

module _ (s : Size) (m : List ℕ) (x y d : ℕ) (hx : x < s.coordinates) (hy : y < s.coordinates) (L : Lists s m []) where
  pub record FirstPut (n : List ℕ) : Type 0 where
    pub bare : Bare s 1 n
    pub lists : Lists s n []
    pub one_more : OneMore s m x y d n

  pub put_first : Bare s 0 m → 0 < s.vertices → FirstPut (first_put s m x y d)
  put_first B room =
      let n = first_put s m x y d in
      let A : Begins s m 1 (with_site (sites_of s m) 0 (x % s.coordinates) (y % s.coordinates) d) n = first_puts s m x y d B room in
      record {
        bare = A.bare;
        lists = lists_rewritten s m _ _ n [] A.wrote L;
        one_more = record {
          vertices_are = omega (arith, A.bare.vertices_are, B.vertices_are);
          sites_are = A.wrote.sites_are ∙ site_written s m 0 x y d hx hy ∙ ap (λ (v : ℕ). with_site (sites_of s m) v x y d) (sym B.vertices_are);
          header_is = λ i l. A.wrote.header_is i (omega arith);
        };
      }

  pub put_second : Bare s 1 m → 1 < s.vertices → (place_of s m 0 ≡ point x y → ⊥) → Put s m x y d (second_put s m x y d)
  put_second B room other = put_with s m x y d hx hy p n K (omega (arith, one)) L N.geometric [] tt (λ r on. line_ready (patched p (map_of s m)) N.mesh.sound (omega arith) pos (HalfListed r))
    where
      one : vertices_in s m ≡ 1
      one = B.vertices_are

      pos : ℕ → Point
      pos = places_with s m x y

      p : Patch
      p = patch_of pair_change

      n : List ℕ
      n = second_put s m x y d

      K : Becomes s m p (with_site (sites_of s m) (vertices_in s m) (x % s.coordinates) (y % s.coordinates) d) n
      K = subst (λ (v : ℕ). Becomes s m p (with_site (sites_of s m) v (x % s.coordinates) (y % s.coordinates) d) n) (sym one) (second_puts s m x y d B room)

      second : pos 1 ≡ point x y
      second = ap pos (sym one) ∙ place_new s m x y

      N : GeometricMesh pos (patched p (map_of s m))
      N = first_pair pos (map_of s m) (λ v. refl) (λ a b. other (sym (place_old s m x y 0 (omega arith)) ∙ (λ i. point (a i) (b i)) ∙ second))
