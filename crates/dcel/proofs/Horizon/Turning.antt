-- Faces turn to the left, and still do after a vertex is attached or an ear is closed, if the new face does.
use Rattle.std.proofs.Common.{◌≡◌, ℕ, ◌<◌, true, ◌≢◌, sym, ap, ◌∙◌, inl, inr}
use Rattle.exact.specs.Plane.{Point, left_of}
use Rattle.exact.proofs.Algebra.Signs.{◌by◌}
use Rattle.exact.proofs.Geometry.Words.{Site, Left}
use Rattle.exact.proofs.Geometry.Identities.Sides.{turn}
use Rattle.exact.proofs.Geometry.Tests.{left←}
use Rattle.dcel.specs.Map.{Map, twin}
use Rattle.dcel.specs.Mesh.{Sound}
use Rattle.dcel.specs.Geometry.{from, to, apex}
use Rattle.dcel.proofs.Horizon.Kept.{Kept}
use Rattle.dcel.proofs.Horizon.Attached.{Attached}
use Rattle.dcel.proofs.Horizon.Attached as Attach
use Rattle.dcel.proofs.Horizon.EarClosed.{EarClosed}
use Rattle.dcel.proofs.Horizon.EarClosed as Ear

abbrev pub Turning : (ℕ → Point) → Map → Type 0
Turning pos m = (x : ℕ) → x < m.half_edges → m.face x ≢ 0 → left_of (from pos m x) (to pos m x) (apex pos m x) ≡ true

module _ (pos : ℕ → Point) (whole : (v : ℕ) → (pos v).w ≡ 1) where
  abbrev site : ℕ → Site
  site v = record { at = pos v; whole = whole v }

  -- the half edge x of n has these corners, which turn to the left
  corners : (n : Map) (x : ℕ) {a b c : ℕ} → n.origin x ≡ a → n.origin (twin x) ≡ b → n.origin (n.prev x) ≡ c → Left (site a) (site b) (site c) → left_of (from pos n x) (to pos n x) (apex pos n x) ≡ true
  corners n x {a} {b} {c} q r t l = (λ i. left_of (pos (q i)) (pos (r i)) (pos (t i))) ∙ left← (pos a) (pos b) (pos c) l

  at : (n : Map) {x y : ℕ} → x ≡ y → left_of (from pos n y) (to pos n y) (apex pos n y) ≡ true → left_of (from pos n x) (to pos n x) (apex pos n x) ≡ true
  at n q l = (λ i. left_of (from pos n (q i)) (to pos n (q i)) (apex pos n (q i))) ∙ l

  -- what is of an old face turns to the left as it did
  still_left : (m n : Map) → Sound m → ((x : ℕ) → x < m.half_edges → n.origin x ≡ m.origin x) → (x : ℕ) → x < m.half_edges → Kept m n x →
      left_of (from pos m x) (to pos m x) (apex pos m x) ≡ true → left_of (from pos n x) (to pos n x) (apex pos n x) ≡ true
  still_left m n S o x h k l =
      let q = o x h in let r = o (twin x) (S.twin_in x h) in let t = ap n.origin k.prev_kept ∙ o (m.prev x) (S.prev_in x h) in
      (λ i. left_of (pos (q i)) (pos (r i)) (pos (t i))) ∙ l

  module _ {m n : Map} {e : ℕ} (K : Attached m n e) where
    pub attach_left : Turning pos m → Left (site (m.origin e)) (site (m.origin (twin e))) (site m.vertices) → Turning pos n
    attach_left l t x h z = elim (Attach.inner_then K x h z) [
      | inl k ↦ still_left m n K.sound (Attach.origin_old K) x k.0 (Attach.attach_keeps K x k.0 k.1) (l x k.0 k.1)
      | inr k ↦ elim k [
        | inl q ↦ at n q (corners n e u w (ap n.origin (Attach.prev_e K) ∙ Attach.origin_pu K) t)
        | inr k ↦ elim k [
          | inl q ↦ at n q (corners n (Attach.wp K) (Attach.origin_wp K) (ap n.origin (Attach.twin_wp K) ∙ Attach.origin_pw K) (ap n.origin (Attach.prev_wp K) ∙ u) (t by sym (turn (site (m.origin e)) (site (m.origin (twin e))) (site m.vertices))))
          | inr q ↦ at n q (corners n (Attach.pu K) (Attach.origin_pu K) (ap n.origin (Attach.twin_pu K) ∙ Attach.origin_up K) (ap n.origin (Attach.prev_pu K) ∙ Attach.origin_wp K) (t by turn (site m.vertices) (site (m.origin e)) (site (m.origin (twin e)))))
        ]
      ]
    ]
      where
        u : n.origin e ≡ m.origin e
        u = Attach.origin_old K e K.may.in_e

        w : n.origin (twin e) ≡ m.origin (twin e)
        w = Attach.origin_old K (twin e) (K.sound.twin_in e K.may.in_e)

  module _ {m n : Map} {e : ℕ} (K : EarClosed m n e) where
    pub ear_left : Turning pos m → Left (site (m.origin e)) (site (m.origin (twin e))) (site (m.origin (twin (m.next e)))) → Turning pos n
    ear_left l t x h z = elim (Ear.inner_then K x h z) [
      | inl k ↦ still_left m n K.sound (Ear.origin_old K) x k.0 (Ear.ear_keeps K x k.0 k.1) (l x k.0 k.1)
      | inr k ↦ elim k [
        | inl q ↦ at n q (corners n e u v (ap n.origin (Ear.prev_e K) ∙ Ear.origin_wu K) t)
        | inr k ↦ elim k [
          | inl q ↦ at n q (corners n vw v' w (ap n.origin (Ear.prev_vw K) ∙ u) (t by sym (turn (site (m.origin e)) (site (m.origin (twin e))) (site (m.origin (twin vw))))))
          | inr q ↦ at n q (corners n (Ear.wu K) (Ear.origin_wu K) (ap n.origin (Ear.twin_wu K) ∙ Ear.origin_uw K) (ap n.origin (Ear.prev_wu K) ∙ v') (t by turn (site (m.origin (twin vw))) (site (m.origin e)) (site (m.origin (twin e)))))
        ]
      ]
    ]
      where
        vw : ℕ
        vw = m.next e

        in_e : e < m.half_edges
        in_e = K.may.in_e

        u : n.origin e ≡ m.origin e
        u = Ear.origin_old K e in_e

        v : n.origin (twin e) ≡ m.origin (twin e)
        v = Ear.origin_old K (twin e) (K.sound.twin_in e in_e)

        v' : n.origin vw ≡ m.origin (twin e)
        v' = Ear.origin_old K vw (K.sound.next_in e in_e) ∙ K.sound.origin_next e in_e

        w : n.origin (twin vw) ≡ m.origin (twin vw)
        w = Ear.origin_old K (twin vw) (K.sound.twin_in vw (K.sound.next_in e in_e))
