-- What is said of the corners of each face holds after a flip, if it holds of the two new faces.
use Rattle.std.proofs.Common.{◌≡◌, ℕ, ◌<◌, ◌≢◌, sym, ap, ◌∙◌, subst, arith}
use Rattle.dcel.specs.Map.{Map, twin}
use Rattle.dcel.specs.Mesh.{Mesh}
use Rattle.dcel.specs.Surgery.{Flippable, flip_patch}
use Rattle.dcel.proofs.Twins.{twin_twin}
use Rattle.dcel.proofs.Fits.{IsPatched}
use Rattle.dcel.proofs.PatchCorners.{faces_keep}
use Rattle.dcel.proofs.EdgeFlip.{here, across, tails_apart, origin_same, relinks, fits}

module _ (m : Map) (M : Mesh m) (e : ℕ) (may : Flippable m e) where
  abbrev ba : ℕ
  ba = twin e

  abbrev ca : ℕ
  ca = m.prev e

  abbrev bc : ℕ
  bc = m.next e

  abbrev db : ℕ
  db = m.prev ba

  abbrev ad : ℕ
  ad = m.next ba

  pub flip_faces : (P : ℕ → ℕ → ℕ → Type 0) → ((a b c : ℕ) → P a b c → P b c a) →
      ((x : ℕ) → x < m.half_edges → m.face x ≢ 0 → P (m.origin x) (m.origin (m.next x)) (m.origin (m.next (m.next x)))) →
      P (m.origin db) (m.origin ca) (m.origin e) → P (m.origin ca) (m.origin db) (m.origin ba) →
      (n : Map) → IsPatched m n (flip_patch m e) → (x : ℕ) → x < n.half_edges → n.face x ≢ 0 → P (n.origin x) (n.origin (n.next x)) (n.origin (n.next (n.next x)))
  flip_faces P rotate old one two n d =
      let apart = tails_apart m M e may in
      let near = here m M e may in
      let far = across m M e may in
      let same = origin_same m M e may n d in
      let a_ad : n.origin ad ≡ m.origin e = same ad (omega arith) (omega arith) ∙ far.origin_next ∙ ap m.origin (twin_twin e) in
      let b_bc : n.origin bc ≡ m.origin ba = same bc (omega arith) (omega arith) ∙ near.origin_next in
      let c_ca : n.origin ca ≡ m.origin ca = same ca (omega arith) (omega arith) in
      let d_db : n.origin db ≡ m.origin db = same db (omega arith) (omega arith) in
      let first : P (n.origin e) (n.origin ca) (n.origin ad) = rw (d.origin_at.0, c_ca, a_ad) one in
      let second : P (n.origin ba) (n.origin db) (n.origin bc) = rw (d.origin_at.1.0, d_db, b_bc) two in
      let at : (u v w : ℕ) → n.next v ≡ w → P (n.origin u) (n.origin v) (n.origin w) → n.face u ≢ 0 → P (n.origin u) (n.origin v) (n.origin (n.next v)) =
      λ u v w q h z. subst (λ y. P (n.origin u) (n.origin v) (n.origin y)) (sym q) h in
      let x = d.next_at in
      faces_keep m n M.sound (flip_patch m e) d (relinks m M e may) (fits m M e may n d) P old (
        at _ _ _ x.1.0 first,
        (
          at _ _ _ x.1.1.0 (rotate _ _ _ first),
          (
            at _ _ _ x.0 (rotate _ _ _ (rotate _ _ _ first)),
            (at _ _ _ x.1.1.1.1.0 second, (at _ _ _ x.1.1.1.1.1.0 (rotate _ _ _ second), (at _ _ _ x.1.1.1.0 (rotate _ _ _ (rotate _ _ _ second)), tt))),
          ),
        ),
      )
