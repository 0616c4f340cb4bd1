-- A nearest vertex is looked for: the row is its number, or empty if there is no vertex, and memory afterwards stands for the same.
use Rattle.std.proofs.Common.{◌≡◌, ℕ, ◌<◌, ◌≤◌, true, not, List, [], ◌∷◌, length, Some, None, Option, sym, refl, ap, ◌∙◌, subst, ap₂, inl, inr, arith}
use Rattle.exact.specs.Plane.{or, Point, point, Vertex, spot, Tri, joined, square, minus, above_0, all_numbers}
use Rattle.exact.specs.Distance.{squared}
use Rattle.std.proofs.lemmas.Bool.{cases_Bool, not_from_false}
use Rattle.exact.proofs.Booleans.{or_left, or_right}
use Rattle.exact.proofs.Lists.{every←, up_to→}
use Rattle.exact.proofs.Vertices.{vertex_number}
use Rattle.exact.proofs.Geometry.Words.{Site}
use Rattle.exact.proofs.Geometry.Squared.{no_farther←, squared_swap}
use Rattle.exact.proofs.Statements.NoneNearer.{none_nearer}
use Rattle.dcel.specs.Layout.{Size}
use Rattle.dcel.specs.Map.{Map}
use Rattle.dcel.specs.Mesh.{Sound}
use Rattle.dcel.specs.Memory.{map_of, vertices_in, half_edges_in}
use Rattle.dcel.specs.Geometry.{triangles}
use Rattle.dcel.specs.Start.{Bare}
use Rattle.dcel.proofs.Delaunay.Joined.{joined_by}
use Rattle.delaunay.specs.Places.{place_of}
use Rattle.delaunay.specs.Nearest.{nearest_edge, nearest_number, nearest_left}
use Rattle.delaunay.specs.Kept.{vertices_of, Triangulated, Standing}
use Rattle.delaunay.proofs.AtRest.{vertices_length, spot_of, spots_geometric, standing_delaunay, standing_plain}
use Rattle.delaunay.proofs.NearestVertex.Found.{nearest_right, nearest_number_is, nearest_left_is, nearest_left_alone, nearest_number_none, nearest_number_alone}
use Rattle.triangles.specs.House.{Nearest}
use Rattle.triangles.specs.LookupRows.{row_of_one}
use Rattle.triangles.proofs.Promises.Modes.{Alike, alike_itself, resumed_alike}
use Rattle.triangles.proofs.Promises.Clearing.{no_vertices}
use Rattle.triangles.proofs.Promises.Houses.{house_of}

module _ (s : Size) (m : List ℕ) (x y : ℕ) where
  abbrev p : Site
  p = record { at = point x y; whole = refl }

  abbrev vs : List Vertex
  vs = vertices_of s m

  -- by the distances of the places in memory
  no_farther : (u v : ℕ) → u < vertices_in s m → v < vertices_in s m → squared (place_of s m u) (point x y) ≤ squared (place_of s m v) (point x y) →
      not (above_0 (minus (square (point x y) (spot vs u)) (square (point x y) (spot vs v)))) ≡ true
  no_farther u v hu hv le =
      ap₂ (λ (a b : Point). not (above_0 (minus (square (point x y) a) (square (point x y) b)))) (spot_of s m u hu) (spot_of s m v hv)
      ∙ no_farther← p (record { at = place_of s m u; whole = refl }) (record { at = place_of s m v; whole = refl }) (omega (arith, squared_swap (place_of s m u) (point x y), squared_swap (place_of s m v) (point x y)))

  -- ---- one vertex
  only_one : Bare s 1 m → Nearest (house_of s m) (point x y) (0 ∷ [])
  unfolding Nearest
  only_one b = (
    omega (arith, vertices_length s m, b.vertices_are),
    every← (λ v. not (above_0 (minus (square (point x y) (spot vs 0)) (square (point x y) v.at)))) vs (λ v i.
        let r = vertex_number vs v i in
        let l : r.0 < vertices_in s m = omega (arith, r.1, vertices_length s m) in
        let first : r.0 ≡ 0 = omega (arith, b.vertices_are) in
        ap (λ (u : Vertex). not (above_0 (minus (square (point x y) (spot vs 0)) (square (point x y) u.at)))) (sym r.2)
        ∙ no_farther 0 r.0 (omega (arith, b.vertices_are)) l (rw first (omega arith))),
  )

  -- ---- a triangulation: no neighbour is nearer than the vertex that was found, so none is
  module _ (T : Triangulated s m) (hx : x < s.coordinates) (hy : y < s.coordinates) where
    abbrev M : Map
    M = map_of s m

    abbrev ts : List Tri
    ts = triangles M

    abbrev S : Sound M
    S = T.settled.held.holds.mesh.sound

    abbrev e : ℕ
    e = nearest_edge s m (point x y)

    abbrev v : ℕ
    v = M.origin e

    in_e : e < half_edges_in s m
    in_e = (nearest_right s m T x y hx hy).0

    in_v : v < vertices_in s m
    in_v = S.origin_in e in_e

    farther? : (k : ℕ) → k < length vs → or (not (joined vs ts v k)) (not (above_0 (minus (square (point x y) (spot vs v)) (square (point x y) (spot vs k))))) ≡ true
    farther? k l = elim (cases_Bool (joined vs ts v k)) [
      | inr f ↦ or_left (not (joined vs ts v k)) _ (not_from_false (joined vs ts v k) f)
      | inl t ↦
          let r = joined_by vs S (spots_geometric s m T.settled.held) (sym (vertices_length s m)) v k t in let j = r.1 in
          let near : squared (place_of s m v) (point x y) ≤ squared (place_of s m k) (point x y) = rw j.to_is at ((nearest_right s m T x y hx hy).1 r.0 j.in_e j.from_is) in
          or_right (not (joined vs ts v k)) _ (no_farther v k in_v (omega (arith, vertices_length s m)) near)
    ]

    pub found_nearest : Nearest (house_of s m) (point x y) (v ∷ [])
    unfolding Nearest
    found_nearest = (
      omega (arith, vertices_length s m, in_v),
      none_nearer vs ts (point x y) v (standing_plain s m (inr (inr T))) (standing_delaunay s m (inr (inr T))) (omega (arith, vertices_length s m, in_v))
          (every← (λ k. or (not (joined vs ts v k)) (not (above_0 (minus (square (point x y) (spot vs v)) (square (point x y) (spot vs k)))))) (all_numbers vs) (λ k i. farther? k (up_to→ (length vs) k i))),
    )

  -- ---- whatever memory stands for
  abbrev Told : Option ℕ → Type 0
  Told o = Nearest (house_of s m) (point x y) (row_of_one o)

  pub told_nearest : Standing s m → x < s.coordinates → y < s.coordinates → Told (nearest_number s m (point x y))
  unfolding Nearest
  told_nearest (inl b) hx hy = subst Told (sym (nearest_number_none s m (point x y) b.0.half_edges_are b.0.vertices_are)) (no_vertices s m b.0)
  told_nearest (inr (inl b)) hx hy = subst Told (sym (nearest_number_alone s m (point x y) b.0.half_edges_are (λ z. omega (arith, b.0.vertices_are)))) (only_one b.0)
  told_nearest (inr (inr T)) hx hy = subst Told (sym (nearest_number_is s m (point x y) (λ z. omega (arith, T.last_in)))) (found_nearest T hx hy)

  pub left_alike : Standing s m → x < s.coordinates → y < s.coordinates → Alike s m (nearest_left s m (point x y))
  left_alike (inl b) hx hy = rw (nearest_left_alone s m (point x y) b.0.half_edges_are) (alike_itself s m)
  left_alike (inr (inl b)) hx hy = rw (nearest_left_alone s m (point x y) b.0.half_edges_are) (alike_itself s m)
  left_alike (inr (inr T)) hx hy =
      rw (nearest_left_is s m (point x y) (λ z. omega (arith, T.last_in))) (resumed_alike s m (nearest_edge s m (point x y)) (omega (arith, T.settled.held.holds.long)) (λ h. (nearest_right s m T x y hx hy).0))

pub short_row : (o : Option ℕ) → length (row_of_one o) ≤ 4
short_row None = omega arith
short_row (Some v) = omega arith
