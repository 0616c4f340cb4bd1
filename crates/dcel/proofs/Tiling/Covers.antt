-- Where there is a face, the faces cover the hull: a place strictly inside it is counted by some face, and any other is a little beside such a place.
use Rattle.std.proofs.Common.{◌≡◌, ℕ, suc, ◌-◌, ◌<◌, ◌≤◌, true, false, sym, ◌∙◌, arith, inl, inr}
use Rattle.std.proofs.lemmas.Bool.{cases_eq, cases_lt}
use Rattle.exact.specs.Plane.{Point}
use Rattle.exact.specs.Sums.{sum}
use Rattle.exact.proofs.Sums.{sum_zero, only, only_same, only_other, sum_one}
use Rattle.exact.proofs.Algebra.Signs.{◌by◌, clash_below}
use Rattle.exact.proofs.Geometry.Words.{W_sign, orient}
use Rattle.exact.proofs.Geometry.Identities.Sides.{swap_place}
use Rattle.exact.proofs.Geometry.Moves.{toward, toward_place, reach, left_moves, closed_back}
use Rattle.exact.proofs.Geometry.Crossings.{crossing→}
use Rattle.dcel.specs.Map.{Map}
use Rattle.dcel.specs.Mesh.{Sound}
use Rattle.dcel.specs.Geometry.{from, to, apex, Geometric}
use Rattle.dcel.proofs.Fibres.{fibre, some_term}
use Rattle.dcel.proofs.Sites.{start, stop}
use Rattle.dcel.proofs.Tiling.Faces.{InFace, edge_inner, middle_of, middle_place}
use Rattle.dcel.proofs.Tiling.Balance.{forth, outer_forth, excess, balance, excess_in}
use Rattle.dcel.proofs.Tiling.Hull.{InHull, middle_in_hull, some_outer}
use Rattle.dcel.proofs.Tiling.Rounds.{comes_back}

-- p is in some closed face
pub record Covered (pos : ℕ → Point) (m : Map) (p : Point) : Type 0 where
  pub it : ℕ
  pub inner : 0 < it
  pub below : it < m.faces
  pub here : InFace pos m false it p

module _ {pos : ℕ → Point} {m : Map} (S : Sound m) (G : Geometric pos m) (some : 1 < m.faces) where
  -- no outer half edge goes to the right below a place strictly inside the hull
  none_forth : (p : Point) → InHull pos m true p → outer_forth pos m p ≡ 0
  unfolding fibre
  none_forth p inner = sum_zero (λ e. only 0 (m.face e) (forth pos m p e)) m.half_edges (λ e h. elim (cases_eq (m.face e) 0) [
    | inl z ↦ only_same 0 (m.face e) (forth pos m p e) (sym z) ∙ elim (cases_lt 0 (forth pos m p e)) [
      | inl c ↦ absurd (clash_below (orient (from pos m e) (to pos m e) p) (crossing→ (from pos m e) (to pos m e) p c).2 (inner e h z by sym (swap_place (stop G e) (start G e) p)))
      | inr n ↦ omega (arith, n)
    ]
    | inr f ↦ only_other 0 (m.face e) (forth pos m p e) (λ q. f (sym q))
  ])

  covers_inner : (p : Point) → 1 ≤ p.w → InHull pos m true p → Covered pos m p
  covers_inner p pw inner =
      let w = W_sign p pw in let o = some_outer S G some in
      let r = some_term (λ i. excess pos m p (suc i)) (m.faces - 1) (omega (arith, balance S G p w (omega arith), none_forth p inner, comes_back S G p w inner o.0 o.1 o.2)) in
      let l : 0 < suc r.0 = omega arith in let h : suc r.0 < m.faces = omega (arith, r.1) in
      record { it = suc r.0; inner = l; below = h; here = excess_in S G p w (suc r.0) l h r.2 }

  pub covers : (p : Point) → 1 ≤ p.w → InHull pos m false p → Covered pos m p
  covers p pw inner =
      let e = m.edge 1 in let h = S.edge_in 1 (omega arith) some in let z = edge_inner S 1 (omega arith) some in
      let q = middle_of G e h z in
      let far = λ (f : ℕ). reach (from pos m (m.edge f)) (to pos m (m.edge f)) (apex pos m (m.edge f)) q in
      let n = sum far m.faces in
      let c = covers_inner (toward n p q) (toward_place p q n (middle_place G e h z)) (λ d k y. left_moves (to pos m d) (from pos m d) p q n (inner d k y) (middle_in_hull S G e h z d k y)) in
      record {
        it = c.it;
        inner = c.inner;
        below = c.below;
        here = closed_back (from pos m (m.edge c.it)) (to pos m (m.edge c.it)) (apex pos m (m.edge c.it)) q p n (sum_one far m.faces c.it c.below) c.here;
      }
