-- The walk over a list of triangles of a list of vertices: an edge is a triangle with the corner where the edge begins.
use Rattle.std.proofs.Common.{◌≡◌, ℕ, suc, ◌*◌, ◌<◌, ◌≤◌, false, ◌⊎◌, List, length, neg_ℤ, sym, ap, ◌∙◌, subst, inl, inr}
use Rattle.exact.specs.Plane.{each, Point, Vertex, spot, Tri, all_numbers}
use Rattle.exact.proofs.Lists.{In, in_each, each_in, each_length, up_to←, up_to_length}
use Rattle.exact.proofs.Vertices.{site, Turn, at_one, at_two, at_three, next, next_round, corner, Edge, rot}
use Rattle.exact.proofs.Algebra.Signs.{Sign, ◌by◌}
use Rattle.exact.proofs.Geometry.Words.{Site, W_sign}
use Rattle.exact.proofs.Geometry.Faces.{Triangle, incircle_of, InFace, Beyond, rot_below, rot_out, rot_circle, rot_left}
use Rattle.exact.proofs.Walk.Edges.{Power, Across, Triangles}
use Rattle.exact.proofs.Walk.Measure.{measure, measure_bound}
use Rattle.exact.proofs.Walk.Lemma.{Crossed, Arrived, walk}

pub record Side : Type 0 where
  pub tri : Tri
  pub turn : Turn

abbrev pub side : Tri → Turn → Side
side t k = record { tri = t; turn = k }

abbrev pub next_side : Side → Side
next_side s = side s.tri (next s.turn)

module _ (vs : List Vertex) (ones : (i : ℕ) → (spot vs i).w ≡ 1) (ts : List Tri) (good : (t : Tri) → In t ts → Triangle vs t) where
  abbrev pub start : Side → Site
  start s = site vs ones (corner s.turn s.tri)

  abbrev pub Listed : Side → Type 0
  Listed s = In s.tri ts

  abbrev pub first_sides : List Side
  first_sides = each (λ t. side t at_one) ts

  abbrev pub corners : List Site
  corners = each (site vs ones) (all_numbers vs)

  in_first : (s : Side) → Listed s → In s first_sides ⊎ (In (next_side s) first_sides ⊎ In (next_side (next_side s)) first_sides)
  in_first s i = go s.turn
    where
      here : In (side s.tri at_one) first_sides
      here = in_each (λ t. side t at_one) ts s.tri i

      go : (k : Turn) → In (side s.tri k) first_sides ⊎ (In (side s.tri (next k)) first_sides ⊎ In (side s.tri (next (next k))) first_sides)
      go at_one = inl here
      go at_two = inr (inr here)
      go at_three = inr (inl here)

  pub list_triangles : Triangles start next_side Listed first_sides corners
  list_triangles = record {
    next_inner = λ s i. i;
    round = λ s i. ap (side s.tri) (next_round s.turn);
    left = λ s i. let t = s.tri in let k = s.turn in rot_left vs t ones (corner k t) (corner (next k) t) (corner (next (next k)) t) (rot t k) (good t i);
    face_inner = λ s h. let r = each_in (λ t. side t at_one) ts s h in subst (λ (t : Tri). In t ts) (sym (ap (λ (z : Side). z.tri) r.2)) r.1;
    in_faces = in_first;
    in_vertices = λ s i. let t = s.tri in let k = s.turn in
        in_each (site vs ones) (all_numbers vs) (corner k t) (up_to← (length vs) (corner k t) (rot_below vs t (corner k t) (corner (next k) t) (corner (next (next k)) t) (rot t k) (good t i)));
  }

  pub list_measure_bound : (x : Point) (s : Side) → measure start next_side first_sides corners x s < suc (length ts) * suc (length vs)
  list_measure_bound x s =
      subst (λ (n : ℕ). measure start next_side first_sides corners x s < suc n * suc (length vs)) (each_length (λ t. side t at_one) ts)
      (subst (λ (n : ℕ). measure start next_side first_sides corners x s < suc (length first_sides) * suc n) (each_length (site vs ones) (all_numbers vs) ∙ up_to_length (length vs))
      (measure_bound start next_side first_sides corners x s))

  -- u is across the edge k of t, and its third corner is not inside the circle of t
  pub record Neighbour (t : Tri) (k : Turn) (u : Tri) : Type 0 where
    pub here : In u ts
    pub edge : Edge u (corner (next k) t) (corner k t)
    pub clear : Sign false (neg_ℤ (incircle_of vs t (spot vs (corner (next (next edge.turn_at)) u))))

  pub power_side : (t : Tri) (k : Turn) (y : Point) → Power start next_side (side t k) y ≡ incircle_of vs t y
  power_side t k y = rot_circle vs t ones (corner k t) (corner (next k) t) (corner (next (next k)) t) (rot t k) y

  pub across_side : (t : Tri) (k : Turn) (u : Tri) (n : Neighbour t k u) → Across start next_side (side t k) (side u n.edge.turn_at)
  across_side t k u n = record {
    starts = ap (site vs ones) n.edge.from;
    ends = ap (site vs ones) n.edge.to;
    clear = n.clear by ap neg_ℤ (power_side t k (spot vs (corner (next (next n.edge.turn_at)) u)));
  }

  module _ (x : Point) (place : 1 ≤ x.w) where
    pub walk_list : (C : Type 0) (Good : Tri → Type 0) → ((t : Tri) → In t ts → Good t → (k : Turn) → Beyond vs t x k → C ⊎ ((u : Tri) × Good u × Neighbour t k u)) →
        (t : Tri) → In t ts → Good t → C ⊎ ((u : Tri) × In u ts × Good u × InFace vs u false x)
    walk_list C Good step t i g = done (walk list_triangles x (W_sign x place) C (λ s. Good s.tri) (λ s i g. g) onward (side t at_one) i g)
      where
        crossed : (s : Side) → C ⊎ ((u : Tri) × Good u × Neighbour s.tri s.turn u) → C ⊎ Crossed start next_side Listed (λ s. Good s.tri) s
        crossed s (inl c) = inl c
        crossed s (inr n) = inr (record { to = side n.0 n.2.edge.turn_at; inner = n.2.here; good = n.1; across = across_side s.tri s.turn n.0 n.2 })

        onward : (s : Side) → Listed s → Good s.tri → Beyond vs s.tri x s.turn → C ⊎ Crossed start next_side Listed (λ s. Good s.tri) s
        onward s i g r = crossed s (step s.tri i g s.turn r)

        done : C ⊎ Arrived start next_side Listed (λ s. Good s.tri) x → C ⊎ ((u : Tri) × In u ts × Good u × InFace vs u false x)
        done (inl c) = inl c
        done (inr a) =
            let u = a.edge.tri in let k = a.edge.turn in
            inr (u, a.inner, a.good, rot_out vs u (corner k u) (corner (next k) u) (corner (next (next k)) u) (rot u k) x a.has)
