-- A place is looked up: its row tells what is there, and memory that lets the next walk start there stands for the same.
use Rattle.std.proofs.Common.{◌≡◌, ℕ, ◌<◌, ◌≤◌, Bool, true, false, ◌&&◌, eqb, List, length, sym, refl, ap, ◌∙◌, subst, inl, inr, arith}
use Rattle.exact.specs.Plane.{Point, point, same_spot}
use Rattle.std.proofs.lemmas.Bool.{eqb-true, eq-eqb, and_from}
use Rattle.exact.proofs.Booleans.{true_false, eqb_same, and_left, and_right}
use Rattle.dcel.specs.Layout.{Size, header}
use Rattle.dcel.specs.Memory.{cell, half_edges_in, vertices_in}
use Rattle.dcel.specs.Start.{Bare}
use Rattle.delaunay.specs.Places.{place_of}
use Rattle.delaunay.specs.Where.{Where, on_vertex, on_edge, in_face, outside, beyond, no_edge}
use Rattle.delaunay.specs.Walk.{last_edge, where_alone, located}
use Rattle.delaunay.specs.Nearest.{resume_at, visited}
use Rattle.delaunay.specs.Kept.{Standing}
use Rattle.delaunay.proofs.AtRest.{vertices_length}
use Rattle.delaunay.proofs.PointLocation.Tests.{picked}
use Rattle.delaunay.proofs.PointLocation.Located.{located_right}
use Rattle.delaunay.proofs.NearestVertex.Resuming.{resume_in}
use Rattle.delaunay.proofs.Inserting.Told.{NoneAt}
use Rattle.triangles.specs.House.{Located}
use Rattle.triangles.specs.LookupRows.{place_row}
use Rattle.triangles.proofs.Apart.{same_place}
use Rattle.triangles.proofs.Promises.Modes.{Alike, resumed_alike, standing_long}
use Rattle.triangles.proofs.Promises.Placed.{placed, none_found, one_found}
use Rattle.triangles.proofs.Promises.Houses.{house_of}

-- ---- with one vertex at most
module _ (s : Size) (m : List ℕ) (x y : ℕ) where
  abbrev at_first : Bool
  at_first = eqb (vertices_in s m) 1 && same_spot (place_of s m 0) (point x y)

  abbrev Told : Where → Type 0
  Told w = Located (house_of s m) (point x y) (place_row s m w)

  module _ (k : ℕ) (few : k ≤ 1) (b : Bare s k m) where
    bare_located : located s m (point x y) ≡ where_alone s m (point x y)
    unfolding located
    bare_located = rw (eq-eqb (half_edges_in s m) 0 b.half_edges_are) refl

    there : at_first ≡ true → Told (on_vertex 0)
    unfolding Located
    there t =
        let one : vertices_in s m ≡ 1 = eqb-true (vertices_in s m) 1 (and_left (eqb (vertices_in s m) 1) (same_spot (place_of s m 0) (point x y)) t) in
        inl (0, refl, one_found s m x y 0 (omega arith) (same_place (place_of s m 0) x y refl (and_right (eqb (vertices_in s m) 1) (same_spot (place_of s m 0) (point x y)) t)) (λ u h q. omega arith))

    none : at_first ≡ false → NoneAt s m (point x y)
    none f v h q =
        let one : vertices_in s m ≡ 1 = omega (arith, b.vertices_are) in
        let first : v ≡ 0 = omega arith in
        true_false at_first (and_from (eqb (vertices_in s m) 1) (same_spot (place_of s m 0) (point x y)) (eq-eqb (vertices_in s m) 1 one)
        (ap (λ (r : Point). same_spot r (point x y)) (ap (place_of s m) (sym first) ∙ q) ∙ and_from (eqb x x) (eqb y y) (eqb_same x) (eqb_same y))) f

    nowhere : at_first ≡ false → Told no_edge
    unfolding Located
    nowhere f = inr (none_found s m x y (none f), inr (inr (inr (refl, omega (arith, vertices_length s m, b.vertices_are)))))

    bare_told : Told (located s m (point x y))
    unfolding where_alone
    bare_told = subst Told (sym bare_located) (picked Told at_first (on_vertex 0) no_edge there nowhere)

-- ---- whatever memory stands for
module _ (s : Size) (m : List ℕ) (x y : ℕ) where
  pub told_right : Standing s m → Located (house_of s m) (point x y) (place_row s m (located s m (point x y)))
  told_right (inl b) = bare_told s m x y 0 (omega arith) b.0
  told_right (inr (inl b)) = bare_told s m x y 1 (omega arith) b.0
  told_right (inr (inr t)) = placed s m t.settled.held x y (located s m (point x y)) (located_right s m t x y)

  resume_below : Standing s m → cell s header m last_edge < half_edges_in s m → resume_at s m (located s m (point x y)) < half_edges_in s m
  resume_below (inl b) h = absurd (omega (arith, b.0.half_edges_are))
  resume_below (inr (inl b)) h = absurd (omega (arith, b.0.half_edges_are))
  resume_below (inr (inr t)) h = resume_in s m t (point x y) (located s m (point x y)) (located_right s m t x y)

  pub visited_alike : Standing s m → Alike s m (visited s m (point x y))
  unfolding visited
  visited_alike t = resumed_alike s m (resume_at s m (located s m (point x y))) (omega (arith, standing_long s m t)) (resume_below t)

pub short_row : (s : Size) (m : List ℕ) (w : Where) → length (place_row s m w) ≤ 4
short_row s m (on_vertex v) = omega arith
short_row s m (on_edge e) = omega arith
short_row s m (in_face e) = omega arith
short_row s m (outside e) = omega arith
short_row s m (beyond e) = omega arith
short_row s m no_edge = omega arith
