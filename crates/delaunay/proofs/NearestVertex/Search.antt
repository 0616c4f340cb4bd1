-- The search ends, with fuel left, at a vertex that has no neighbour nearer to the place: each turn leaves one half edge of the round fewer, or the distance falls and a new round begins.
use Rattle.std.proofs.Common.{◌≡◌, ℕ, suc, ◌+◌, ◌-◌, ◌*◌, ◌<◌, ◌≤◌, Bool, true, false, eqb, ltb, ◌⊎◌, List, [], ◌∷◌, length, Some, None, sym, refl, ap, ◌∙◌, subst, inl, inr, mul-le-mul, arith}
use Rattle.exact.specs.Plane.{pick, Point}
use Rattle.exact.specs.Distance.{squared}
use Rattle.std.proofs.lemmas.Bool.{cases_Bool, ltb-true, ltb-false, eqb-true, eqb-false}
use Rattle.exact.proofs.Lists.{In}
use Rattle.dcel.specs.Layout.{Size, header}
use Rattle.dcel.specs.Map.{Map, twin}
use Rattle.dcel.specs.Mesh.{Sound, Round}
use Rattle.dcel.specs.Memory.{cell, map_of, half_edges_in, half_edge_count}
use Rattle.dcel.proofs.Becoming.{at_most_below}
use Rattle.delaunay.specs.Places.{place_of}
use Rattle.delaunay.specs.Iterate.{iterate}
use Rattle.delaunay.specs.Nearest.{Look, look, far_from, looked, nearest_fuel, searched}
use Rattle.delaunay.proofs.Loops.{Goes, iterate_rests}
use Rattle.delaunay.proofs.Rounds.{turn, Turned, turned_in, turned_origin, turned_few, all_turned}

-- the loop stopped: nothing nearer there, and the round is done
still_if : (a b : Bool) (x y : Look) → pick a (Some x) (pick b None (Some y)) ≡ None → (a ≡ false) × (b ≡ true)
still_if true b x y e = let z : ◌≡◌ {A = ℕ} 0 1 = cc in absurd (omega arith)
still_if false true x y e = (refl, refl)
still_if false false x y e = let z : ◌≡◌ {A = ℕ} 0 1 = cc in absurd (omega arith)

-- turns left: those of this round, and a whole round for each smaller distance
abbrev left_after : ℕ → ℕ → ℕ → ℕ
left_after half_edges far seen = far * suc half_edges + (half_edges - seen)

nearer_fewer : (h d f n : ℕ) → d < f → left_after h d 1 < left_after h f n
nearer_fewer h d f n l = omega (arith, mul-le-mul {n₁ = suc d} {m₁ = suc h} {n₂ = f} {m₂ = suc h} l (omega arith))

within_fuel : (h f v b : ℕ) → h ≤ v → f ≤ b → left_after h f 1 ≤ (b + 1) * (v + 1)
within_fuel h f v b p q = omega (arith, mul-le-mul {n₁ = f} {m₁ = suc h} {n₂ = b} {m₂ = v + 1} q (omega arith))

module _ (s : Size) (m : List ℕ) (S : Sound (map_of s m)) (R : Round (map_of s m)) (p : Point) where
  abbrev M : Map
  M = map_of s m

  -- a round under way: what was looked along before, none of it to a vertex that is nearer
  pub record Looking (k : ℕ) (l : Look) : Type 0 where
    pub before : List ℕ
    pub first : l.since < half_edges_in s m
    pub turned : Turned M l.since l.edge before
    pub far_is : l.far ≡ far_from s m p l.since
    pub not_nearer : (g : ℕ) → In g before → l.far ≤ far_from s m p (twin g)
    pub left : left_after (half_edges_in s m) l.far (suc (length before)) ≡ k

  begun : (e : ℕ) → e < half_edges_in s m → Looking (left_after (half_edges_in s m) (far_from s m p e) 1) (look e e (far_from s m p e))
  begun e h = record { before = []; first = h; turned = refl; far_is = refl; not_nearer = λ g i. absurd i; left = refl }

  -- nor is the end of this one
  none_nearer : (k : ℕ) (l : Look) (L : Looking k l) → ltb (far_from s m p (twin l.edge)) l.far ≡ false → (g : ℕ) → In g (l.edge ∷ L.before) → l.far ≤ far_from s m p (twin g)
  none_nearer k l L x g (inl q) = subst (λ (j : ℕ). l.far ≤ far_from s m p (twin j)) (sym q) (ltb-false (far_from s m p (twin l.edge)) l.far x)
  none_nearer k l L x g (inr i) = L.not_nearer g i

  turned_on : (k : ℕ) (l : Look) → Looking k l → (looked s m p l ≡ None) ⊎ Goes (looked s m p) Looking k l
  unfolding looked
  turned_on k l L =
      let e = l.edge in
      let d = far_from s m p (twin e) in
      let n = turn M e in
      let here : e < half_edges_in s m = turned_in M S l.since L.first L.before e L.turned e (inl refl) in
      elim (cases_Bool (ltb d l.far)) [
        | inl x ↦
            inr (record {
              turns = left_after (half_edges_in s m) d 1;
              to = look (twin e) (twin e) d;
              fewer = subst (λ (j : ℕ). left_after (half_edges_in s m) d 1 < j) L.left (nearer_fewer (half_edges_in s m) d l.far (suc (length L.before)) (ltb-true d l.far x));
              on = rw x;
              kept = begun (twin e) (S.twin_in e here);
            })
        | inr x ↦ elim (cases_Bool (eqb n l.since)) [
          | inl y ↦ inl (rw (x, y))
          | inr y ↦
              let more : Turned M l.since n (e ∷ L.before) = (refl, eqb-false n l.since y, L.turned) in
              inr (record {
                turns = left_after (half_edges_in s m) l.far (suc (suc (length L.before)));
                to = look n l.since l.far;
                fewer = omega (arith, turned_few M S l.since L.first (e ∷ L.before) n more, L.left);
                on = rw (x, y);
                kept = record { before = e ∷ L.before; first = L.first; turned = more; far_is = L.far_is; not_nearer = none_nearer k l L x; left = refl };
              })
        ]
      ]

  -- ---- at the end
  module _ (l : Look) (k : ℕ) (L : Looking k l) (still : looked s m p l ≡ None) where
    ended : (ltb (far_from s m p (twin l.edge)) l.far ≡ false) × (eqb (turn M l.edge) l.since ≡ true)
    unfolding looked
    ended = still_if (ltb (far_from s m p (twin l.edge)) l.far) (eqb (turn M l.edge) l.since) _ _ still

    edge_in : l.edge < half_edges_in s m
    edge_in = turned_in M S l.since L.first L.before l.edge L.turned l.edge (inl refl)

    start_is : M.origin l.edge ≡ M.origin l.since
    start_is = turned_origin M S l.since L.first L.before l.edge L.turned

    far_there : l.far ≡ far_from s m p l.edge
    unfolding far_from
    far_there = L.far_is ∙ ap (λ (v : ℕ). squared (place_of s m v) p) (sym start_is)

    no_neighbour : (g : ℕ) → g < half_edges_in s m → M.origin g ≡ M.origin l.edge → far_from s m p l.edge ≤ far_from s m p (twin g)
    no_neighbour g h q =
        let again = eqb-true (turn M l.edge) l.since ended.1 in
        omega (arith, far_there, none_nearer k l L ended.0 g (all_turned M S l.since L.first L.before l.edge L.turned again R g h (q ∙ start_is)))

  -- ---- the whole search, from any half edge
  module _ (e : ℕ) (h : e < half_edges_in s m) (near : far_from s m p e ≤ 2 * (s.coordinates * s.coordinates)) where
    enough : left_after (half_edges_in s m) (far_from s m p e) 1 ≤ nearest_fuel s
    unfolding nearest_fuel
    enough = within_fuel (half_edges_in s m) (far_from s m p e) (6 * s.vertices) (2 * (s.coordinates * s.coordinates)) (at_most_below (6 * s.vertices) (cell s header m half_edge_count)) near

    pub searched_right : (searched s m p e < half_edges_in s m)
        × ((g : ℕ) → g < half_edges_in s m → (map_of s m).origin g ≡ (map_of s m).origin (searched s m p e) → far_from s m p (searched s m p e) ≤ far_from s m p (twin g))
    unfolding searched
    searched_right =
        let l = iterate (looked s m p) (nearest_fuel s) (look e e (far_from s m p e)) in
        let r = iterate_rests (looked s m p) Looking turned_on (nearest_fuel s) _ (look e e (far_from s m p e)) enough (begun e h) in
        (edge_in l r.turns r.kept r.still, no_neighbour l r.turns r.kept r.still)
