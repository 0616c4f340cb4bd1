-- The triangle of a face starts at its smallest corner: `from_least` turns three numbers so, and the list of vertices has it as a triangle.
use Rattle.std.proofs.Common.{◌≡◌, ℕ, ◌<◌, Bool, true, false, ◌&&◌, ltb, ◌≢◌, List, length, sym, refl, ◌∙◌, arith}
use Rattle.exact.specs.Plane.{pick, Vertex, spot, Tri, tri}
use Rattle.std.proofs.lemmas.Bool.{ltb-true, ltb-false}
use Rattle.exact.proofs.Vertices.{Rot, rot₁, rot₂, rot₃}
use Rattle.exact.proofs.Algebra.Signs.{◌by◌}
use Rattle.exact.proofs.Geometry.Faces.{Triangle, rot_orient}
use Rattle.dcel.specs.Map.{Map, twin}
use Rattle.dcel.specs.Mesh.{Sound}
use Rattle.dcel.specs.Geometry.{Geometric, from_least, face_tri}
use Rattle.dcel.proofs.Neighbours.{in_triangle}
use Rattle.dcel.proofs.Sites.{face_left, stop_in, third_in}
use Rattle.dcel.proofs.Tiling.Faces.{edge_inner}

-- t has the corners a, b, c in turn, and starts at the smallest
pub record Least (a b c : ℕ) (t : Tri) : Type 0 where
  pub turned : Rot t a b c
  pub least_two : t.one < t.two
  pub least_three : t.one < t.three

pub least : (a b c : ℕ) → a ≢ b → b ≢ c → c ≢ a → Least a b c (from_least a b c)
unfolding from_least
least a b c ab bc ca = go (ltb a b) (ltb a c) (ltb b c) (ltb b a) refl refl refl refl
  where
    last : c < a → c < b → Least a b c (tri c a b)
    last ca cb = record { turned = rot₂; least_two = ca; least_three = cb }

    go : (p q r s : Bool) → ltb a b ≡ p → ltb a c ≡ q → ltb b c ≡ r → ltb b a ≡ s → Least a b c (pick (p && q) (tri a b c) (pick (r && s) (tri b c a) (tri c a b)))
    go true true r s e f g h = record { turned = rot₁; least_two = ltb-true a b e; least_three = ltb-true a c f }
    go true false true true e f g h = record { turned = rot₃; least_two = ltb-true b c g; least_three = ltb-true b a h }
    go true false true false e f g h = last (omega (arith, ltb-false a c f, ca)) (omega (arith, ltb-true a b e, ltb-false a c f))
    go true false false s e f g h = last (omega (arith, ltb-false a c f, ca)) (omega (arith, ltb-true a b e, ltb-false a c f))
    go false q true true e f g h = record { turned = rot₃; least_two = ltb-true b c g; least_three = ltb-true b a h }
    go false q true false e f g h = absurd (omega (arith, ltb-false a b e, ltb-false b a h, ab))
    go false q false s e f g h = last (omega (arith, ltb-false a b e, ltb-false b c g, ab, bc)) (omega (arith, ltb-false b c g, bc))

pub face_least : {m : Map} → Sound m → (f : ℕ) → 0 < f → f < m.faces → Least (m.origin (m.edge f)) (m.origin (twin (m.edge f))) (m.origin (m.prev (m.edge f))) (face_tri m f)
unfolding face_tri
face_least {m} S f l h =
    let e = m.edge f in let k = in_triangle m S e (S.edge_in f l h) (edge_inner S f l h) in
    rw k.origin_next (least (m.origin e) (m.origin (twin e)) (m.origin (m.prev e)) (S.no_loop e k.in_e)
    (λ q. S.no_loop (m.next e) k.next_in (k.origin_next ∙ q ∙ k.origin_prev)) (λ q. S.no_loop (m.prev e) k.prev_in (q ∙ k.origin_here)))

rot_bounds : (n : ℕ) (t : Tri) (a b c : ℕ) → Rot t a b c → a < n → b < n → c < n → (t.two < n) × (t.three < n)
rot_bounds n t a b c rot₁ ha hb hc = (hb, hc)
rot_bounds n t a b c rot₂ ha hb hc = (ha, hb)
rot_bounds n t a b c rot₃ ha hb hc = (hc, ha)

pub face_triangle : (vs : List Vertex) {m : Map} → Sound m → Geometric (spot vs) m → m.vertices ≡ length vs → (f : ℕ) → 0 < f → f < m.faces → Triangle vs (face_tri m f)
face_triangle vs {m} S G len f l h =
    let e = m.edge f in let k = S.edge_in f l h in let t = face_least S f l h in
    let a = m.origin e in let b = m.origin (twin e) in let c = m.origin (m.prev e) in
    let r = rot_bounds m.vertices (face_tri m f) a b c t.turned (S.origin_in e k) (stop_in S e k) (third_in S e k) in
    record {
      least_two = t.least_two;
      least_three = t.least_three;
      two_below = omega (arith, r.0);
      three_below = omega (arith, r.1);
      turns_left = face_left G e k (edge_inner S f l h) by sym (rot_orient vs (face_tri m f) G.whole a b c t.turned);
    }
