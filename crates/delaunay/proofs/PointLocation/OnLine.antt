-- Where a place is, told right on a line: beside it, past its end, at a vertex or strictly between two.
use Rattle.std.proofs.Common.{◌≡◌, ℕ, ◌<◌, ◌≤◌, Bool, true, false, not, ◌&&◌, eqb, ◌⊎◌, List, neg_ℤ, Some, None, refl, ap, inl, inr, arith}
use Rattle.std.proofs.lemmas.Int.{ints}
use Rattle.exact.specs.Plane.{pick, same_spot}
use Rattle.std.proofs.lemmas.Bool.{cases_Bool, eqb-true, eqb-false}
use Rattle.exact.proofs.Algebra.Signs.{Sign, ◌by◌, clash_below, is_zero}
use Rattle.exact.proofs.Geometry.Words.{Site, Dot, On, Between, dist²_sign}
use Rattle.exact.proofs.Geometry.Tests.{left←}
use Rattle.exact.proofs.Geometry.Identities.Sides.{swap, orders}
use Rattle.exact.proofs.Geometry.Identities.Dots.{dot_swap, dist²_sum}
use Rattle.exact.proofs.Geometry.Spots.{same_at, same_spot→, not_same_spot→}
use Rattle.exact.proofs.Geometry.Line.{between_one}
use Rattle.dcel.specs.Layout.{Size, edge_next}
use Rattle.dcel.specs.Map.{twin}
use Rattle.dcel.specs.Mesh.{Sound}
use Rattle.dcel.specs.Memory.{cell, map_of}
use Rattle.dcel.specs.Geometry.{Geometric}
use Rattle.dcel.proofs.Twins.{twin_twin}
use Rattle.dcel.proofs.StrictlyBetween.{strictly_between←}
use Rattle.dcel.proofs.NoFace.{all_outer}
use Rattle.dcel.proofs.Sites.{start, stop, stop_in, ends_apart}
use Rattle.delaunay.specs.Places.{place_of}
use Rattle.delaunay.specs.Where.{Where}
use Rattle.delaunay.specs.Iterate.{iterate}
use Rattle.delaunay.specs.Walk.{left_at, right_at, passed, went_on, line_fuel, along_line, where_on_line, where_by_line}
use Rattle.delaunay.specs.Kept.{RightPlace}
use Rattle.delaunay.proofs.Loops.{Goes, iterate_rests}
use Rattle.delaunay.proofs.PointLocation.Tests.{picked, left_at→, not_left_at→, right_at→, not_right_at→, passed→, not_passed→}
use Rattle.delaunay.proofs.PointLocation.Fuel.{line_fuel_enough}
use Rattle.delaunay.proofs.PointLocation.Line.{left_ahead, left_ahead_bound, fewer_ahead, Following, follow}

-- the loop stopped though the place is past the end: there the line ends
at_end_if : (a b : Bool) (n : ℕ) → pick (a && not b) (Some n) None ≡ None → a ≡ true → b ≡ true
at_end_if a true n e p = refl
at_end_if true false n e p = let z : ◌≡◌ {A = ℕ} 0 1 = cc in absurd (omega arith)
at_end_if false false n e p = let z : ◌≡◌ {A = ℕ} 0 1 = cc in absurd (omega arith)

module _ (s : Size) (m : List ℕ) (S : Sound (map_of s m)) (G : Geometric (place_of s m) (map_of s m)) (flat : (map_of s m).faces ≤ 1) (p : Site) where
  abbrev Told : Where → Type 0
  Told = RightPlace s m p.at

  abbrev Follows : ℕ → Type 0
  Follows = Following S G flat p

  abbrev Ahead : ℕ → ℕ → Type 0
  Ahead k e = Follows e × (left_ahead S G flat e ≡ k)

  turn : (k e : ℕ) → Ahead k e → (went_on s m p.at e ≡ None) ⊎ Goes (went_on s m p.at) Ahead k e
  unfolding went_on
  turn k e a =
      let n = cell s edge_next m e in
      let past? = passed s m p.at e in
      let end? = eqb n (twin e) in
      elim (cases_Bool past?) [
        | inr x ↦ inl (rw x)
        | inl x ↦ elim (cases_Bool end?) [
          | inl y ↦ inl (rw (x, y))
          | inr y ↦
              let on = eqb-false n (twin e) y in
              inr (record {
                turns = left_ahead S G flat n;
                to = n;
                fewer = omega (arith, fewer_ahead S G flat e a.0.below on, a.1);
                on = rw (x, y);
                kept = (follow S G flat p e a.0 (passed→ s m e p.at x) on, refl);
              })
        ]
      ]

  -- the last half edge that the loop comes to
  module _ (e : ℕ) (f : Follows e) (still : went_on s m p.at e ≡ None) where
    abbrev a : Site
    a = start G e

    abbrev b : Site
    b = stop G e

    turned : passed s m p.at e ≡ true → (map_of s m).next e ≡ twin e
    unfolding went_on
    turned x = let n = cell s edge_next m e in eqb-true n (twin e) (at_end_if (passed s m p.at e) (eqb n (twin e)) n still x)

    past_it : passed s m p.at e ≡ true → Between a p b
    past_it x = let o = f.on_line in record { on = omega (arith, ints, orders a b p); opposite = passed→ s m e p.at x }

    within : passed s m p.at e ≡ false → same_spot b.at p.at ≡ false → same_spot a.at p.at ≡ false → Between a b p
    within x y z = elim (between_one a b p f.on_line (ends_apart S G e f.below) (not_same_spot→ a p z) (not_same_spot→ b p y)) [
      | inl k ↦ k
      | inr r ↦ elim r [
        | inl k ↦ absurd (clash_below (Dot b a p) (not_passed→ s m e p.at x) k.opposite)
        | inr k ↦ absurd (clash_below (Dot a b p) f.not_behind (k.opposite by ap neg_ℤ (dot_swap a.at b.at p.at)))
      ]
    ]

    on_line_right : Told (where_on_line s m p.at e)
    unfolding where_on_line
    on_line_right =
        picked Told (passed s m p.at e) _ _
        (λ x. (flat, f.below, turned x, strictly_between← a.at p.at b.at (past_it x)))
        (λ x. picked Told (same_spot b.at p.at) _ _
        (λ y. (stop_in S e f.below, same_at b p (same_spot→ b p y)))
        (λ y. picked Told (same_spot a.at p.at) _ _
        (λ z. (S.origin_in e f.below, same_at a p (same_spot→ a p z)))
        (λ z. (f.below, strictly_between← a.at b.at p.at (within x y z)))))

  along_right : (e : ℕ) → Follows e → Told (where_on_line s m p.at (along_line s m p.at e))
  unfolding along_line
  along_right e f =
      let r = iterate_rests (went_on s m p.at) Ahead turn (line_fuel s) (left_ahead S G flat e) e enough (f, refl) in
      on_line_right (iterate (went_on s m p.at) (line_fuel s) e) r.kept.0 r.still
    where
      enough : left_ahead S G flat e ≤ line_fuel s
      enough = omega (arith, left_ahead_bound S G flat e, line_fuel_enough s m)

  -- ---- from either half of an edge
  module _ (e : ℕ) (h : e < (map_of s m).half_edges) where
    abbrev a₀ : Site
    a₀ = start G e

    abbrev b₀ : Site
    b₀ = stop G e

    forth : On a₀ b₀ p → passed s m p.at (twin e) ≡ false → Follows e
    forth o x = record { below = h; on_line = o; not_behind = rw (twin_twin e) at (not_passed→ s m (twin e) p.at x) }

    -- behind both ends it cannot be
    back : On a₀ b₀ p → passed s m p.at (twin e) ≡ true → Follows (twin e)
    back o x = record { below = S.twin_in e h; on_line = rw (twin_twin e) (omega (arith, ints, orders a₀ b₀ p)); not_behind = rw (twin_twin e) ahead }
      where
        behind : Sign true (neg_ℤ (Dot a₀ b₀ p))
        behind = rw (twin_twin e) at (passed→ s m (twin e) p.at x)

        ahead : Sign false (Dot b₀ a₀ p)
        ahead = omega (arith, ints, behind, dist²_sum a₀ p b₀, dist²_sign a₀.at b₀.at, dot_swap a₀.at b₀.at p.at, dot_swap b₀.at a₀.at p.at)

    pub by_line_right : RightPlace s m p.at (where_by_line s m p.at e)
    unfolding where_by_line
    by_line_right =
        picked Told (left_at s m e p.at) _ _
        (λ x. (h, all_outer S flat e h, left← a₀.at b₀.at p.at (left_at→ s m e p.at x)))
        (λ x. picked Told (right_at s m e p.at) _ _
        (λ y. (S.twin_in e h, all_outer S flat (twin e) (S.twin_in e h), rw (twin_twin e) (left← b₀.at a₀.at p.at (right_at→ s m e p.at y by swap b₀ a₀ p))))
        (λ y. let o = is_zero (not_right_at→ s m e p.at y) (not_left_at→ s m e p.at x) in
        picked (λ g. Told (where_on_line s m p.at (along_line s m p.at g))) (passed s m p.at (twin e)) (twin e) e
        (λ z. along_right (twin e) (back o z)) (λ z. along_right e (forth o z))))
