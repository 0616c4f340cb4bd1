-- Memory that stands for a triangulation holds a Delaunay triangulation of its vertices.
use Rattle.std.proofs.Common.{◌≡◌, ℕ, ◌<◌, ◌≤◌, true, eqb, List, length, sym, ap, ◌∙◌, subst, ap₂, inl, inr, arith}
use Rattle.exact.specs.Plane.{every, up_to, Vertex, vertex, vertex_at, spot, same_spot, Delaunay}
use Rattle.std.proofs.lemmas.Bool.{eqb-true}
use Rattle.exact.proofs.Booleans.{and_left, and_right}
use Rattle.exact.proofs.Enumerations.{each_at}
use Rattle.exact.proofs.Lists.{every←, each_in, each_length, up_to_length}
use Rattle.exact.proofs.Vertices.{spot_whole, all_apart←}
use Rattle.exact.proofs.Statements.Words.{Plain}
use Rattle.exact.proofs.Statements.OnLine.{few_on_line, line_delaunay}
use Rattle.dcel.specs.Layout.{Size, vertex_data}
use Rattle.dcel.specs.Geometry.{Geometric, triangles}
use Rattle.dcel.specs.Memory.{cell, map_of, x_in, y_in, vertices_in}
use Rattle.dcel.specs.Start.{Bare}
use Rattle.dcel.proofs.Delaunay.AtRest.{no_triangles, rest_is_delaunay}
use Rattle.dcel.proofs.Legal.Positions.{geometric_at, wrong_at}
use Rattle.delaunay.specs.Kept.{vertices_of, Held, Settled, Standing}
use Rattle.delaunay.specs.Places.{place_of}

module _ (s : Size) (m : List ℕ) where
  pub vertices_length : length (vertices_of s m) ≡ vertices_in s m
  vertices_length = each_length _ (up_to (vertices_in s m)) ∙ up_to_length (vertices_in s m)

  pub vertex_of : (v : ℕ) → v < vertices_in s m → vertex_at (vertices_of s m) v ≡ vertex (x_in s m v) (y_in s m v) (cell s vertex_data m v)
  vertex_of v h = each_at _ (vertices_in s m) v h

  pub spot_of : (v : ℕ) → v < vertices_in s m → spot (vertices_of s m) v ≡ place_of s m v
  spot_of v h = ap (λ (u : Vertex). u.at) (vertex_of v h)

  vertices_whole : every (λ v. eqb v.at.w 1) (vertices_of s m) ≡ true
  vertices_whole = every← (λ v. eqb v.at.w 1) (vertices_of s m) (λ v i. let r = each_in _ (up_to (vertices_in s m)) v i in ap (λ (u : Vertex). eqb u.at.w 1) r.2)

  -- every spot is a whole number, also past the end
  spots_whole : (v : ℕ) → (spot (vertices_of s m) v).w ≡ 1
  spots_whole = spot_whole (vertices_of s m) vertices_whole

  -- a mesh with its vertices at their places, by the list of vertices
  pub spots_geometric : Held s m → Geometric (spot (vertices_of s m)) (map_of s m)
  spots_geometric h = geometric_at (place_of s m) (spot (vertices_of s m)) (map_of s m) h.holds.mesh.sound spot_of spots_whole h.geometric

  settled_delaunay : Settled s m → Delaunay (vertices_of s m) (triangles (map_of s m))
  settled_delaunay h =
      let M = h.held.holds.mesh in
      rest_is_delaunay (vertices_of s m) (map_of s m) (sym vertices_length) M (spots_geometric h.held)
      (λ e l z z'. wrong_at (place_of s m) (spot (vertices_of s m)) (map_of s m) M.sound spot_of e l ∙ h.at_rest e l z z')

  bare_delaunay : (k : ℕ) → k ≤ 1 → Bare s k m → Delaunay (vertices_of s m) (triangles (map_of s m))
  bare_delaunay k h b =
      subst (Delaunay (vertices_of s m)) (sym (no_triangles (map_of s m) b.faces_few))
      (line_delaunay (vertices_of s m) (few_on_line (vertices_of s m) (omega (arith, vertices_length, b.vertices_are))))

  pub standing_delaunay : Standing s m → Delaunay (vertices_of s m) (triangles (map_of s m))
  standing_delaunay (inl b) = bare_delaunay 0 (omega arith) b.0
  standing_delaunay (inr (inl b)) = bare_delaunay 1 (omega arith) b.0
  standing_delaunay (inr (inr t)) = settled_delaunay t.settled

  -- no two vertices share a place
  plain_if : ((u v : ℕ) → u < vertices_in s m → v < vertices_in s m → (place_of s m u).x ≡ (place_of s m v).x → (place_of s m u).y ≡ (place_of s m v).y → u ≡ v) → Plain (vertices_of s m)
  plain_if apart = (
    all_apart← (vertices_of s m) (λ i j l k e.
        let hi : i < vertices_in s m = omega (arith, vertices_length) in let hj : j < vertices_in s m = omega (arith, vertices_length) in
        let a = place_of s m i in let b = place_of s m j in
        let t : same_spot a b ≡ true = sym (ap₂ same_spot (spot_of i hi) (spot_of j hj)) ∙ e in
        apart i j hi hj (eqb-true a.x b.x (and_left (eqb a.x b.x) (eqb a.y b.y) t)) (eqb-true a.y b.y (and_right (eqb a.x b.x) (eqb a.y b.y) t))),
    vertices_whole,
  )

  pub standing_plain : Standing s m → Plain (vertices_of s m)
  standing_plain (inl b) = plain_if (λ u v h l x y. absurd (omega (arith, b.0.vertices_are)))
  standing_plain (inr (inl b)) = plain_if (λ u v h l x y. omega (arith, b.0.vertices_are))
  standing_plain (inr (inr t)) = plain_if t.settled.held.geometric.apart
