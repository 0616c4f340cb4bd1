-- A vertex outside: attached to an outer half edge that it sees, with the new face's edges on the list, and then its ears closed.
use Rattle.std.proofs.Common.{◌≡◌, ℕ, ◌+◌, ◌*◌, ◌%◌, ◌<◌, ◌≤◌, List, [], ◌∷◌, sym, refl, ap, ◌∙◌, subst, inl, inr, arith}
use Rattle.exact.specs.Plane.{Point, point}
use Rattle.dcel.specs.Layout.{Size, header}
use Rattle.dcel.specs.Map.{Map}
use Rattle.dcel.specs.Mesh.{Among, Mesh}
use Rattle.dcel.specs.Patch.{Patch, patched}
use Rattle.dcel.specs.Surgery.{Outer, attach_change, attach_patch}
use Rattle.dcel.specs.Memory.{cell, map_of, vertices_in, half_edges_in}
use Rattle.dcel.specs.Holds.{sites_of, with_site, Becomes}
use Rattle.dcel.specs.Operations.{apply_with}
use Rattle.dcel.specs.Legal.{EdgeListed}
use Rattle.dcel.proofs.Becoming.{at_most_below}
use Rattle.dcel.proofs.Laws.{attach_grows}
use Rattle.dcel.proofs.Placed.{Placed}
use Rattle.dcel.proofs.Horizon.Attached.{Attached, attached}
use Rattle.dcel.proofs.Horizon.Open.{Open}
use Rattle.dcel.proofs.Horizon.Steps.{attach}
use Rattle.dcel.proofs.Horizon.Fuel.{to_close, attach_to_close}
use Rattle.dcel.proofs.Horizon.Worklist.{Listed, attach_listed}
use Rattle.delaunay.specs.Worklist.{pushed_face}
use Rattle.delaunay.specs.Outside.{ear_fuel, ears_closed, put_outside}
use Rattle.delaunay.specs.Where.{outside}
use Rattle.delaunay.specs.Kept.{AmongListed, HalfListed, Settled, RightPlace}
use Rattle.delaunay.proofs.Settling.Beside.{beside_map, beside_vertices}
use Rattle.delaunay.proofs.Settling.Links.{lists_rewritten}
use Rattle.delaunay.proofs.Settling.Pushing.{Adds}
use Rattle.delaunay.proofs.Settling.Faces.{AllBelow, sides_of, FaceListed, sides_below, sides_listed, adds_faces, just_faces}
use Rattle.delaunay.proofs.Inserting.OneMore.{OneMore, places_with, geometric_before, rest_before, new_sees}
use Rattle.delaunay.proofs.Inserting.Put.{Put, listed_as, one_more}
use Rattle.delaunay.proofs.Inserting.Ears.{OpenIn}
use Rattle.delaunay.proofs.Inserting.EarLoops.{ahead, behind}

module _ (s : Size) (m : List ℕ) (S : Settled s m) (room : vertices_in s m < s.vertices) (x y d : ℕ) (hx : x < s.coordinates) (hy : y < s.coordinates) (e : ℕ) (w : RightPlace s m (point x y) (outside e)) where
  abbrev g : Map
  g = map_of s m

  abbrev p : Patch
  p = attach_patch g e

  abbrev o : List ℕ
  o = apply_with s attach_change m e x y d

  abbrev pos : ℕ → Point
  pos = places_with s m x y

  abbrev n : List ℕ
  n = pushed_face s o e

  M : Mesh g
  M = S.held.holds.mesh

  may : Outer g e
  may = record { in_e = w.0; outer = w.1 }

  K : Becomes s m p (with_site (sites_of s m) (vertices_in s m) (x % s.coordinates) (y % s.coordinates) d) o
  K = attach_grows s m e x y d S.held.holds may room

  below : AllBelow (half_edges_in s o) (e ∷ [])
  below i (inl q) = omega (arith, w.0, ap (λ (f : Map). f.half_edges) K.wrote.map_is)
  below i (inr k) = absurd k

  F : Adds s o [] (sides_of (map_of s o) (e ∷ [])) n
  F = adds_faces s o [] (e ∷ []) K.holds (lists_rewritten s m p _ o [] K.wrote S.lists) below

  one : OneMore s m x y d n
  one = one_more s m x y d hx hy p o K refl n F.beside

  B : Placed pos g
  B = record { mesh = M; geometric = geometric_before s m x y S.held }

  A : Attached g (patched p g) e
  A = attached g M e may

  face_on : FaceListed (patched p g) F.list e
  face_on = subst (λ (f : Map). FaceListed f F.list e) K.wrote.map_is (sides_listed (map_of s o) F.list (e ∷ []) F.new e (inl refl))

  on : (i : ℕ) → Among i e g.half_edges (g.half_edges + 2) → EdgeListed (HalfListed F.list) i
  on i (inl q) = listed_as F.list (sym q) face_on.here
  on i (inr (inl q)) = listed_as F.list (A.is.next_at.0 ∙ sym q) face_on.next
  on i (inr (inr q)) = listed_as F.list (A.is.prev_at.1.1.0 ∙ sym q) face_on.prev

  within : (i : ℕ) → AmongListed i F.list → 2 * i < half_edges_in s n
  within i k =
      let f = just_faces s o _ n F i k in
      omega (arith, f.2, sides_below (map_of s o) K.holds.mesh.sound (e ∷ []) below f.0 f.1, (beside_vertices s o n F.beside).half_edges_are)

  map_now : map_of s n ≡ patched p g
  map_now = beside_map s o n F.beside ∙ K.wrote.map_is

  attached_open : OpenIn s m x y d n (half_edges_in s m + 3) (half_edges_in s m + 1)
  attached_open = record {
    holds = record { long = F.beside.long ∙ K.holds.long; mesh = subst Mesh (sym (beside_map s o n F.beside)) K.holds.mesh };
    one_more = one;
    grown_open = subst (λ (f : Map). Open pos g f (half_edges_in s m + 3) (half_edges_in s m + 1)) (sym map_now) (attach B e may (new_sees s m x y S.held e w));
    list = F.list;
    lists = F.lists;
    listed_in = within;
    listed = subst (λ (f : Map). Listed g f (EdgeListed (HalfListed F.list))) (sym map_now) (λ i h k. on i (attach_listed A i h k));
  }

  -- the fuel is room for all half edges
  enough : to_close (map_of s n) ≤ 6 * s.vertices
  enough = omega (arith, ap to_close map_now, attach_to_close g M e may, at_most_below (6 * s.vertices) (cell s header m 1))

  pub put_outside_unsettled : Put s m x y d (put_outside s m e x y d)
  unfolding put_outside ears_closed ear_fuel
  put_outside_unsettled =
      let some : 0 < g.faces = omega (arith, M.sound.face_in e w.0) in
      let R = ahead s m x y d B some (6 * s.vertices) (6 * s.vertices) n (half_edges_in s m + 3) (half_edges_in s m + 1) attached_open enough enough in
      behind s m x y d B some (rest_before s m x y S.held S.at_rest) (6 * s.vertices) _ (half_edges_in s m + 3) _ R.reached R.few R.unseen
