-- The first half edge that p sees: where the one before it is not seen, all vertices are right of or on the line from there to p.
use Rattle.std.proofs.Common.{◌≡◌, ℕ, ◌<◌, ◌≤◌, neg_ℤ, sym, ap, ◌∙◌, subst, inl, inr, arith}
use Rattle.std.proofs.lemmas.Bool.{cases_lt}
use Rattle.std.proofs.lemmas.Int.{ints}
use Rattle.exact.specs.Plane.{Point}
use Rattle.exact.proofs.Algebra.Signs.{◌by◌, split}
use Rattle.exact.proofs.Geometry.Words.{Site, Orient, Dist², Right, RightOn, Between}
use Rattle.exact.proofs.Geometry.Identities.Sides.{swap}
use Rattle.exact.proofs.Geometry.Tangents.{tangent_start_at}
use Rattle.exact.proofs.Geometry.Line.{line_tangent_start}
use Rattle.dcel.specs.Map.{Map, twin}
use Rattle.dcel.specs.Mesh.{Sound}
use Rattle.dcel.specs.Surgery.{Outer}
use Rattle.dcel.proofs.Twins.{twin_twin}
use Rattle.dcel.proofs.Neighbours.{Neighbours, neighbours}
use Rattle.dcel.proofs.StrictlyBetween.{not_strictly_between→}
use Rattle.dcel.proofs.Placed.{Placed, site, start, stop, right_on, ends_apart, beside, all_outer, on_line}
use Rattle.dcel.proofs.Horizon.Rim.{p, off_line, Visible, Hidden, same_visible}

module _ {pos : ℕ → Point} {m : Map} (B : Placed pos m) where
  abbrev S : Sound m
  S = B.mesh.sound

  abbrev at : ℕ → Site
  at = site B

  abbrev P : Site
  P = p B

  -- ---- u → s is seen, and t → u, which comes before it, is not
  module _ (x : ℕ) (o : Outer m x) (seen : Visible B x) (h : Hidden B (m.prev x)) where
    abbrev y : ℕ
    y = m.prev x

    abbrev u : ℕ
    u = m.origin x

    near : Neighbours m x
    near = neighbours m S x o.in_e

    oy : Outer m y
    oy = record { in_e = near.prev_in; outer = near.face_prev ∙ o.outer }

    to_u : (z : ℕ) → z < m.vertices → RightOn (start B y) (at u) (at z)
    to_u z l = right_on B y oy z l by ap (λ (c : ℕ). neg_ℤ (Orient (start B y) (at c) (at z))) near.origin_here

    hidden : RightOn (start B y) (at u) P
    hidden = h by ap (λ (c : ℕ). neg_ℤ (Orient (start B y) (at c) P)) near.origin_here

    turns_back : m.faces ≤ 1 → m.next (twin x) ≡ twin (twin x)
    turns_back f =
        let q : twin y ≡ x = same_visible B (twin y) x (all_outer B f (twin y) (S.twin_in y oy.in_e)) o (sym near.origin_here) there seen in
        let r : y ≡ twin x = sym (twin_twin y) ∙ ap twin q in
        sym (ap m.next r) ∙ near.next_prev ∙ sym (twin_twin x)
      where
        strict : Right (start B y) (stop B y) P
        strict = elim (split (neg_ℤ (Orient (start B y) (stop B y) P))) [ inl k ↦ k | inr k ↦ absurd (off_line B f x o seen y oy.in_e (omega (arith, ints))) ]

        there : Visible B (twin y)
        there = (strict by swap (stop B y) (start B y) P) by ap (λ (c : ℕ). Orient (stop B y) (at (m.origin c)) P) (twin_twin y)

    pub tangent_start : (z : ℕ) → z < m.vertices → RightOn (at u) P (at z)
    tangent_start z l = elim (cases_lt 1 m.faces) [
      | inl f ↦ (let k = beside B f x o in
          tangent_start_at (start B y) (at u) (stop B x) P (at k.0) (at z) hidden seen (to_u (m.origin (twin x)) (S.origin_in (twin x) (S.twin_in x o.in_e))) (ends_apart B y oy.in_e by ap (λ (c : ℕ). Dist² (start B y) (at c)) near.origin_here) (to_u k.0 k.1) k.2 (to_u z l) (right_on B x o z l))
      | inr f ↦ (let g : m.faces ≤ 1 = omega arith in
          line_tangent_start (at u) (stop B x) P (at z) seen (on_line B g x o.in_e z l) (none g))
    ]
      where
        none : m.faces ≤ 1 → Between (stop B x) (at z) (at u) → ⊥
        none g =
            subst (λ (c : ℕ). Between (stop B x) (at z) (at (m.origin c)) → ⊥) (twin_twin x)
            (not_strictly_between→ (pos (m.origin (twin x))) (pos z) (pos (m.origin (twin (twin x)))) (B.geometric.ends g (twin x) (S.twin_in x o.in_e) (turns_back g) z l))
