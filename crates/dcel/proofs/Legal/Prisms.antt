-- The prism below a face: what it is as an integer, that it is the same from each corner, and how large it may be.
use Rattle.std.proofs.Common.{◌≡◌, ℕ, suc, ◌-◌, ◌*◌, ◌<◌, ◌≤◌, true, ◌≢◌, ℤ, pos as whole, ◌+ℤ◌, ◌*ℤ◌, sym, refl, ap, ◌∙◌, mul-le-mul, le_trans, sub-le, arith}
use Rattle.std.proofs.lemmas.Int.{ints}
use Rattle.exact.specs.Plane.{Point, side}
use Rattle.exact.proofs.Algebra.Integers.{value_is}
use Rattle.exact.proofs.Algebra.Signs.{Sign, ◌by◌}
use Rattle.exact.proofs.Geometry.Words.{X, Y, orient, Site, Height, Left, Volume}
use Rattle.exact.proofs.Geometry.Identities.Sides.{turn}
use Rattle.exact.proofs.Geometry.Identities.Circles.{volume_turn}
use Rattle.dcel.specs.Map.{Map}
use Rattle.dcel.specs.Mesh.{Sound}
use Rattle.dcel.specs.Geometry.{Geometric}
use Rattle.dcel.specs.Volume.{height, prism, prism_at, volume}
use Rattle.dcel.proofs.Sites.{site, face_left}
use Rattle.dcel.proofs.Legal.Corners.{corners_of_face}
use Rattle.dcel.proofs.SumChanges.{sum_small}

area_is : (p q r : Point) → Sign true (orient p q r) → orient p q r ≡ whole ((side p q r).up - (side p q r).down)
unfolding orient
area_is p q r h = omega (arith, ints, h.bound, value_is (side p q r))

pub prism_is : (a b c : Site) → Left a b c → Volume a b c ≡ whole (prism a.at b.at c.at)
unfolding prism X Y
prism_is a b c h = ap (λ (z : ℤ). z *ℤ (Height a +ℤ Height b +ℤ Height c)) (area_is a.at b.at c.at h)

pub prism_turn : (a b c : Site) → Left a b c → prism a.at b.at c.at ≡ prism b.at c.at a.at
prism_turn a b c h = let e = sym (prism_is a b c h) ∙ volume_turn a b c ∙ prism_is b c a (h by sym (turn a b c)) in cc

-- from any half edge of a face
pub face_prism : (pos : ℕ → Point) (m : Map) (S : Sound m) → Geometric pos m → (e : ℕ) → e < m.half_edges → m.face e ≢ 0 → prism_at pos m (m.edge (m.face e)) ≡ prism_at pos m e
face_prism pos m S G e h z = (corners_of_face Sized turned m S e h z (face_left G x in_x (λ q. z (sym face_x ∙ q)), refl)).1
  where
    s : ℕ → Site
    s = site G

    x : ℕ
    x = m.edge (m.face e)

    in_x : x < m.half_edges
    in_x = S.edge_in (m.face e) (omega arith) (S.face_in e h)

    face_x : m.face x ≡ m.face e
    face_x = S.edge_face (m.face e) (omega arith) (S.face_in e h)

    Sized : ℕ → ℕ → ℕ → Type 0
    Sized a b c = Left (s a) (s b) (s c) × (prism_at pos m x ≡ prism (pos a) (pos b) (pos c))

    turned : (a b c : ℕ) → Sized a b c → Sized b c a
    turned a b c k = (k.0 by sym (turn (s a) (s b) (s c)), k.1 ∙ prism_turn (s a) (s b) (s c) k.0)

-- ---- coordinates of at most B
pub record Bounded (B : ℕ) (p : Point) : Type 0 where
  pub x_at_most : p.x ≤ B
  pub y_at_most : p.y ≤ B
  pub whole : p.w ≡ 1

module _ (B : ℕ) where
  times_one : (a w : ℕ) → a ≤ B → w ≡ 1 → a * w ≤ B
  times_one a w l q = omega (arith, ap (λ (k : ℕ). a * k) q)

  area_small : (p q r : Point) → Bounded B p → Bounded B q → Bounded B r → (side p q r).up ≤ 4 * (B * B)
  area_small p q r hp hq hr =
      omega (
        arith,
        mul-le-mul (times_one q.x p.w hq.x_at_most hp.whole) (times_one r.y p.w hr.y_at_most hp.whole),
        mul-le-mul (times_one p.x q.w hp.x_at_most hq.whole) (times_one p.y r.w hp.y_at_most hr.whole),
        mul-le-mul (times_one q.y p.w hq.y_at_most hp.whole) (times_one p.x r.w hp.x_at_most hr.whole),
        mul-le-mul (times_one p.y q.w hp.y_at_most hq.whole) (times_one r.x p.w hr.x_at_most hp.whole),
      )

  height_small : (p : Point) → Bounded B p → height p ≤ 2 * (B * B)
  height_small p h = omega (arith, mul-le-mul h.x_at_most h.x_at_most, mul-le-mul h.y_at_most h.y_at_most)

  pub prism_small : (p q r : Point) → Bounded B p → Bounded B q → Bounded B r → prism p q r ≤ 4 * (B * B) * (6 * (B * B))
  unfolding prism
  prism_small p q r hp hq hr = mul-le-mul (le_trans (sub-le (side p q r).up (side p q r).down) (area_small p q r hp hq hr)) (omega (arith, height_small p hp, height_small q hq, height_small r hr))

  pub volume_small : (pos : ℕ → Point) (m : Map) → Sound m → ((v : ℕ) → v < m.vertices → Bounded B (pos v)) → volume pos m ≤ (m.faces - 1) * (4 * (B * B) * (6 * (B * B)))
  unfolding volume
  volume_small pos m S h = sum_small (λ i. prism_at pos m (m.edge (suc i))) (4 * (B * B) * (6 * (B * B))) (m.faces - 1) (λ i l.
      let e = S.edge_in (suc i) (omega arith) (omega arith) in
      prism_small _ _ _ (h _ (S.origin_in _ e)) (h _ (S.origin_in _ (S.twin_in _ e))) (h _ (S.origin_in _ (S.prev_in _ e))))
