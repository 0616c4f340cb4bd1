-- The last half edge that p sees: where the one that follows it is not seen, all vertices are right of or on the line from p to there.
use Rattle.std.proofs.Common.{◌≡◌, ℕ, ◌<◌, ◌≤◌, neg_ℤ, sym, ap, ◌∙◌, arith, inl, inr}
use Rattle.std.proofs.lemmas.Bool.{cases_lt}
use Rattle.exact.specs.Plane.{Point}
use Rattle.exact.proofs.Algebra.Signs.{◌by◌, weak}
use Rattle.exact.proofs.Geometry.Words.{Site, Orient, Dist², RightOn}
use Rattle.exact.proofs.Geometry.Identities.Sides.{swap}
use Rattle.exact.proofs.Geometry.Tangents.{tangent_end_at}
use Rattle.exact.proofs.Geometry.Line.{line_tangent_end}
use Rattle.dcel.specs.Map.{Map, twin}
use Rattle.dcel.specs.Mesh.{Sound}
use Rattle.dcel.specs.Surgery.{Outer}
use Rattle.dcel.proofs.Twins.{twin_twin}
use Rattle.dcel.proofs.Neighbours.{Neighbours, neighbours}
use Rattle.dcel.proofs.StrictlyBetween.{not_strictly_between→}
use Rattle.dcel.proofs.Placed.{Placed, site, start, stop, right_on, ends_apart, beside, all_outer, on_line}
use Rattle.dcel.proofs.Horizon.Rim.{p, Visible, Hidden, same_hidden}

module _ {pos : ℕ → Point} {m : Map} (B : Placed pos m) where
  abbrev S : Sound m
  S = B.mesh.sound

  abbrev at : ℕ → Site
  at = site B

  abbrev P : Site
  P = p B

  -- ---- x → v is seen, and v → w, which follows it, is not
  module _ (x : ℕ) (o : Outer m x) (seen : Visible B x) (h : Hidden B (m.next x)) where
    abbrev y : ℕ
    y = m.next x

    abbrev v : ℕ
    v = m.origin (twin x)

    near : Neighbours m x
    near = neighbours m S x o.in_e

    oy : Outer m y
    oy = record { in_e = near.next_in; outer = near.face_next ∙ o.outer }

    from_v : (z : ℕ) → z < m.vertices → RightOn (at v) (stop B y) (at z)
    from_v z l = right_on B y oy z l by ap (λ (c : ℕ). neg_ℤ (Orient (at c) (stop B y) (at z))) (sym near.origin_next)

    hidden : RightOn (at v) (stop B y) P
    hidden = h by ap (λ (c : ℕ). neg_ℤ (Orient (at c) (stop B y) P)) (sym near.origin_next)

    -- on a line one turns back there
    turns_back : m.faces ≤ 1 → m.next x ≡ twin x
    turns_back f =
        let ot : Outer m (twin x) = all_outer B f (twin x) (S.twin_in x o.in_e) in
        let ht : Hidden B (twin x) = back by ap (λ (c : ℕ). neg_ℤ (Orient (at v) (at (m.origin c)) P)) (twin_twin x) in
        same_hidden B x o seen y (twin x) oy ot near.origin_next h ht
      where
        back : RightOn (at v) (start B x) P
        back = weak seen by sym (swap (start B x) (at v) P)

    pub tangent_end : (z : ℕ) → z < m.vertices → RightOn P (at v) (at z)
    tangent_end z l = elim (cases_lt 1 m.faces) [
      | inl f ↦ (let k = beside B f x o in
          tangent_end_at (start B x) (at v) (stop B y) P (at k.0) (at z) seen hidden (right_on B x o (m.origin (twin y)) (S.origin_in (twin y) (S.twin_in y oy.in_e))) (ends_apart B y oy.in_e by ap (λ (c : ℕ). Dist² (at c) (stop B y)) (sym near.origin_next)) k.2 (from_v k.0 k.1) (right_on B x o z l) (from_v z l))
      | inr f ↦ (let g : m.faces ≤ 1 = omega arith in
          line_tangent_end (start B x) (at v) P (at z) seen (on_line B g x o.in_e z l) (not_strictly_between→ (pos (m.origin x)) (pos z) (pos v) (B.geometric.ends g x o.in_e (turns_back g) z l)))
    ]
