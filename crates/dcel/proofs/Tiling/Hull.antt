-- A mesh with a face and its hull: what is on the inner side of all outer half edges. There are outer half edges, none has an outer twin, and the middle of a face is strictly inside.
use Rattle.std.proofs.Common.{◌≡◌, ℕ, suc, ◌-◌, ◌<◌, Bool, true, false, ◌≢◌, sym, inl, inr, arith}
use Rattle.std.proofs.lemmas.Int.{ints}
use Rattle.exact.specs.Plane.{Point, left_of}
use Rattle.exact.proofs.Sums.{only, sum_one}
use Rattle.exact.proofs.Algebra.Signs.{Sign, ◌by◌, split, is_zero, clash_zero}
use Rattle.exact.proofs.Geometry.Words.{W_sign, orient, On}
use Rattle.exact.proofs.Geometry.Tests.{not_left→}
use Rattle.exact.proofs.Geometry.Identities.Sides.{swap_place}
use Rattle.exact.proofs.Geometry.Triangles.{apart_swap}
use Rattle.exact.proofs.Geometry.Line.{on_three}
use Rattle.exact.proofs.Geometry.Moves.{orient_middle}
use Rattle.dcel.specs.Map.{Map, twin}
use Rattle.dcel.specs.Mesh.{Sound}
use Rattle.dcel.specs.Geometry.{from, to, apex, Geometric}
use Rattle.dcel.proofs.Twins.{twin_twin}
use Rattle.dcel.proofs.Fibres.{only_some, fibre, some_term}
use Rattle.dcel.proofs.Sites.{site, start, stop, third, face_left, outer_right, outer_left, stop_in, third_in, ends_apart}
use Rattle.dcel.proofs.Tiling.Faces.{edge_inner, middle_of, middle_place, middle_inside}
use Rattle.dcel.proofs.Tiling.Balance.{excess, back, balance, inside_excess}

-- strict: strictly inside the hull; not strict: in it or on its border
abbrev pub InHull : (ℕ → Point) → Map → Bool → Point → Type 0
InHull pos m s p = (e : ℕ) → e < m.half_edges → m.face e ≡ 0 → Sign s (orient (to pos m e) (from pos m e) p)

-- by tests: the place is left of no outer half edge
pub in_hull← : {pos : ℕ → Point} {m : Map} → Geometric pos m → (p : Point) → ((e : ℕ) → e < m.half_edges → m.face e ≡ 0 → left_of (from pos m e) (to pos m e) p ≡ false) → InHull pos m false p
in_hull← {pos} {m} G p t e h z = not_left→ (from pos m e) (to pos m e) p (t e h z) by swap_place (stop G e) (start G e) p

module _ {pos : ℕ → Point} {m : Map} (S : Sound m) (G : Geometric pos m) where
  -- the corners of a face are not all on the line of a half edge
  not_flat : (e : ℕ) → e < m.half_edges → (d : ℕ) → d < m.half_edges → m.face d ≢ 0 → On (stop G e) (start G e) (start G d) → On (stop G e) (start G e) (stop G d) → On (stop G e) (start G e) (third G d) → ⊥
  not_flat e k d h z p q r =
      clash_zero (face_left G d h z) (on_three (stop G e) (start G e) (start G d) (stop G d) (third G d) (apart_swap (start G e) (stop G e) (ends_apart S G e k)) p q r)

  -- else all three corners would be on the line of an outer half edge
  pub middle_in_hull : (d : ℕ) (h : d < m.half_edges) (z : m.face d ≢ 0) → InHull pos m true (middle_of G d h z)
  middle_in_hull d h z e k y =
      let i = outer_left G e k y (m.origin d) (S.origin_in d h) in
      let j = outer_left G e k y (m.origin (twin d)) (stop_in S d h) in
      let l = outer_left G e k y (m.origin (m.prev d)) (third_in S d h) in
      let q = orient_middle (to pos m e) (from pos m e) (from pos m d) (to pos m d) (apex pos m d) in
      elim (split (orient (to pos m e) (from pos m e) (middle_of G d h z))) [
        | inl s ↦ s
        | inr n ↦ absurd (not_flat e k d h z (omega (arith, ints)) (omega (arith, ints)) (omega (arith, ints)))
      ]

  module _ (some : 1 < m.faces) where
    abbrev e₁ : ℕ
    e₁ = m.edge 1

    in₁ : e₁ < m.half_edges
    in₁ = S.edge_in 1 (omega arith) some

    inner₁ : m.face e₁ ≢ 0
    inner₁ = edge_inner S 1 (omega arith) some

    -- over the middle of a face comes one back
    pub some_outer : (e : ℕ) × (e < m.half_edges) × (m.face e ≡ 0)
    unfolding fibre
    some_outer =
        let q = middle_of G e₁ in₁ inner₁ in let w = W_sign q (middle_place G e₁ in₁ inner₁) in
        let x = inside_excess S G q w 1 (omega arith) some (middle_inside G e₁ in₁ inner₁) in
        let r = some_term (λ e. only 0 (m.face e) (back pos m q e)) m.half_edges (omega (arith, balance S G q w (omega arith), sum_one (λ i. excess pos m q (suc i)) (m.faces - 1) 0 (omega arith))) in
        (r.0, r.1, sym (only_some 0 (m.face r.0) (back pos m q r.0) r.2).0)

    -- else all vertices would be on its line
    pub two_sides : (e : ℕ) → e < m.half_edges → m.face e ≡ 0 → m.face (twin e) ≢ 0
    two_sides e h z y = not_flat e h e₁ in₁ inner₁ (line (m.origin e₁) (S.origin_in e₁ in₁)) (line (m.origin (twin e₁)) (stop_in S e₁ in₁)) (line (m.origin (m.prev e₁)) (third_in S e₁ in₁))
      where
        line : (x : ℕ) → x < m.vertices → On (stop G e) (start G e) (site G x)
        line x l = is_zero (outer_left G e h z x l) (rw (twin_twin e) at (outer_right G (twin e) (S.twin_in e h) y x l))
