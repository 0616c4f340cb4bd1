-- A vertex more: the places with it, and the old mesh there. The others are where they were, so what held of the mesh holds still, and a place told right is so of the new vertex.
use Rattle.std.proofs.Common.{◌≡◌, ℕ, ◌+◌, ◌%◌, ◌<◌, true, List, [], ◌∷◌, refl, ◌∙◌, mod-eq_of_lt, arith}
use Rattle.exact.specs.Plane.{Point, point, left_of}
use Rattle.exact.proofs.Geometry.Tests.{left→}
use Rattle.dcel.specs.Layout.{Size, header}
use Rattle.dcel.specs.Pairs.{changed}
use Rattle.dcel.specs.Map.{Map, twin}
use Rattle.dcel.specs.Mesh.{Sound}
use Rattle.dcel.specs.Memory.{cell, map_of, x_in, y_in, vertices_in}
use Rattle.dcel.specs.Holds.{sites_of, with_site}
use Rattle.dcel.specs.Geometry.{strictly_between, Geometric, AtRest}
use Rattle.dcel.proofs.Changes.{changed_off, changed_at, elsewhere}
use Rattle.dcel.proofs.StrictlyBetween.{strictly_between→}
use Rattle.dcel.proofs.Sites.{stop_in, third_in}
use Rattle.dcel.proofs.Legal.NewVertex.{OnEdge}
use Rattle.dcel.proofs.Legal.Positions.{geometric_at, wrong_at}
use Rattle.dcel.proofs.Legal.FaceSplit.{InsideFace}
use Rattle.dcel.proofs.Legal.LineGrowth.{Past}
use Rattle.dcel.proofs.Horizon.Steps.{sight}
use Rattle.delaunay.specs.Places.{place_of}
use Rattle.delaunay.specs.Where.{on_edge, in_face, outside, beyond}
use Rattle.delaunay.specs.Worklist.{list_head}
use Rattle.delaunay.specs.Kept.{Held, RightPlace}

-- n has the vertices of m and one after them, and the words of the header past the list's
pub record OneMore (s : Size) (m : List ℕ) (x y d : ℕ) (n : List ℕ) : Type 0 where
  pub vertices_are : vertices_in s n ≡ vertices_in s m + 1
  pub sites_are : sites_of s n ≡ with_site (sites_of s m) (vertices_in s m) x y d
  pub header_is : (i : ℕ) → list_head < i → cell s header n i ≡ cell s header m i

-- coordinates below the limit are written as they are
pub site_written : (s : Size) (m : List ℕ) (v x y d : ℕ) → x < s.coordinates → y < s.coordinates →
    with_site (sites_of s m) v (x % s.coordinates) (y % s.coordinates) d ≡ with_site (sites_of s m) v x y d
site_written s m v x y d h l = λ i. with_site (sites_of s m) v (mod-eq_of_lt h i) (mod-eq_of_lt l i) d

-- the places of m, and after them the point
abbrev pub places_with : Size → List ℕ → ℕ → ℕ → ℕ → Point
places_with s m x y v = point (changed ((vertices_in s m, x) ∷ []) (x_in s m) v) (changed ((vertices_in s m, y) ∷ []) (y_in s m) v)

module _ (s : Size) (m : List ℕ) (x y : ℕ) where
  abbrev v : ℕ
  v = vertices_in s m

  abbrev g : Map
  g = map_of s m

  abbrev pos : ℕ → Point
  pos = places_with s m x y

  pub places_are : (d : ℕ) (n : List ℕ) → sites_of s n ≡ with_site (sites_of s m) (vertices_in s m) x y d → place_of s n ≡ places_with s m x y
  places_are d n q = λ i u. point ((q i).x u) ((q i).y u)

  pub place_new : places_with s m x y (vertices_in s m) ≡ point x y
  place_new = λ i. point ((changed_at ((v, x) ∷ []) (x_in s m) (tt, tt)).0 i) ((changed_at ((v, y) ∷ []) (y_in s m) (tt, tt)).0 i)

  pub place_old : (u : ℕ) → u < vertices_in s m → places_with s m x y u ≡ place_of s m u
  place_old u h = λ i. point (changed_off ((v, x) ∷ []) (x_in s m) u (elsewhere ((v, x) ∷ []) u (omega arith)) i) (changed_off ((v, y) ∷ []) (y_in s m) u (elsewhere ((v, y) ∷ []) u (omega arith)) i)

  -- ---- the old mesh
  module _ (H : Held s m) where
    S : Sound g
    S = H.holds.mesh.sound

    pub geometric_before : Geometric (places_with s m x y) (map_of s m)
    geometric_before = geometric_at (place_of s m) pos g S place_old (λ u. refl) H.geometric

    pub rest_before : AtRest (place_of s m) (map_of s m) → AtRest (places_with s m x y) (map_of s m)
    rest_before r e h z z' = wrong_at (place_of s m) pos g S place_old e h ∙ r e h z z'

    -- ---- the new vertex is where the point was told to be
    left_new : (a b : ℕ) → a < v → b < v → left_of (pos a) (pos b) (pos v) ≡ left_of (place_of s m a) (place_of s m b) (point x y)
    left_new a b h l = λ i. left_of (place_old a h i) (place_old b l i) (place_new i)

    module _ (e : ℕ) where
      abbrev a : ℕ
      a = g.origin e

      abbrev b : ℕ
      b = g.origin (twin e)

      abbrev c : ℕ
      c = g.origin (g.prev e)

      pub new_inside : RightPlace s m (point x y) (in_face e) → InsideFace (places_with s m x y) (map_of s m) geometric_before e
      new_inside w =
          let h = w.0 in
          record {
            ab = left→ (pos a) (pos b) (pos v) (left_new a b (S.origin_in e h) (stop_in S e h) ∙ w.2);
            bc = left→ (pos b) (pos c) (pos v) (left_new b c (stop_in S e h) (third_in S e h) ∙ w.3);
            ca = left→ (pos c) (pos a) (pos v) (left_new c a (third_in S e h) (S.origin_in e h) ∙ w.4);
          }

      pub new_on_edge : RightPlace s m (point x y) (on_edge e) → OnEdge (places_with s m x y) (map_of s m) geometric_before e
      new_on_edge w = strictly_between→ (pos a) (pos b) (pos v) ((λ i. strictly_between (place_old a (S.origin_in e w.0) i) (place_old b (stop_in S e w.0) i) (place_new i)) ∙ w.1)

      pub new_past : RightPlace s m (point x y) (beyond e) → Past (places_with s m x y) (map_of s m) geometric_before e
      new_past w = strictly_between→ (pos a) (pos v) (pos b) ((λ i. strictly_between (place_old a (S.origin_in e w.1) i) (place_new i) (place_old b (stop_in S e w.1) i)) ∙ w.3)

      pub new_sees : RightPlace s m (point x y) (outside e) → sight (places_with s m x y) (map_of s m) (vertices_in s m) e ≡ true
      new_sees w = left_new a b (S.origin_in e w.0) (stop_in S e w.0) ∙ w.2
