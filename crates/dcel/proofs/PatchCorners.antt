-- What is said of the corners of faces, of the ends of outer half edges, and of the four corners at an edge between two faces stays where a patch changes nothing.
use Rattle.std.proofs.Common.{◌≡◌, ℕ, ◌<◌, ◌≢◌, sym, ap, ◌∙◌, subst, inl, inr, ⊎_elim}
use Rattle.dcel.specs.Pairs.{All, Source}
use Rattle.dcel.specs.Map.{Map, twin}
use Rattle.dcel.specs.Mesh.{Sound}
use Rattle.dcel.specs.Patch.{Patch}
use Rattle.dcel.proofs.Changes.{at_source, both, source?}
use Rattle.dcel.proofs.Fits.{IsPatched, Relinks, Fits}
use Rattle.dcel.proofs.PatchSound.{stays, old_tail, face_old}
use Rattle.dcel.proofs.Twins.{twin_twin}

module _ (m n : Map) (S : Sound m) (p : Patch) (d : IsPatched m n p) (r : Relinks m p) (w : Fits m n p) where
  origin_same : (e : ℕ) → e < m.half_edges → (Source (m.prev e) p.links → ⊥) → n.origin e ≡ m.origin e
  origin_same e h f = d.origin_off e (λ k. f ((at_source _ p.origins w.origin_fits e k).1.1 h).0)

  origin_after : (e : ℕ) → e < m.half_edges → (Source e p.links → ⊥) → n.origin (m.next e) ≡ m.origin (m.next e)
  origin_after e h f = origin_same (m.next e) (S.next_in e h) (λ k. f (subst (λ x. Source x p.links) (S.prev_next e h) k))

  pub record Same (e : ℕ) : Type 0 where
    pub old : e < m.half_edges
    pub inner : m.face e ≢ 0
    pub one : n.origin e ≡ m.origin e
    pub two : n.origin (n.next e) ≡ m.origin (m.next e)
    pub three : n.origin (n.next (n.next e)) ≡ m.origin (m.next (m.next e))

  pub same_corners : (e : ℕ) → e < n.half_edges → n.face e ≢ 0 → (Source e p.links → ⊥) → Same e
  same_corners e h z f =
      let s = stays m n S p d r w e h z f in
      let i1 = S.next_in e s.old in
      let i2 = S.next_in (m.next e) i1 in
      record {
        old = s.old;
        inner = s.inner;
        one = ap n.origin (sym (S.three e s.old s.inner)) ∙ origin_after (m.next (m.next e)) i2 s.off_2 ∙ ap m.origin (S.three e s.old s.inner);
        two = ap n.origin s.once ∙ origin_after e s.old f;
        three = ap n.origin (ap n.next s.once ∙ s.twice) ∙ origin_after (m.next e) i1 s.off_1;
      }

  pub faces_keep : (P : ℕ → ℕ → ℕ → Type 0) → ((e : ℕ) → e < m.half_edges → m.face e ≢ 0 → P (m.origin e) (m.origin (m.next e)) (m.origin (m.next (m.next e)))) →
      All (λ e g. n.face e ≢ 0 → P (n.origin e) (n.origin g) (n.origin (n.next g))) p.links →
      (e : ℕ) → e < n.half_edges → n.face e ≢ 0 → P (n.origin e) (n.origin (n.next e)) (n.origin (n.next (n.next e)))
  faces_keep P o a e h z = ⊎_elim by off (source? e p.links)
    where
      by : Source e p.links → P (n.origin e) (n.origin (n.next e)) (n.origin (n.next (n.next e)))
      by k = let x = at_source _ p.links (both _ _ p.links d.next_at a) e k in subst (λ y. P (n.origin e) (n.origin y) (n.origin (n.next y))) (sym x.1.0) (x.1.1 z)

      off : (Source e p.links → ⊥) → P (n.origin e) (n.origin (n.next e)) (n.origin (n.next (n.next e)))
      off f = let s = same_corners e h z f in rw (s.one, s.two, s.three) (o e s.old s.inner)

  pub outer_keep : (Q : ℕ → ℕ → Type 0) → ((e : ℕ) → e < m.half_edges → m.face e ≡ 0 → Q (m.origin e) (m.origin (twin e))) →
      All (λ e g. n.face e ≡ 0 → Q (n.origin e) (n.origin (twin e))) p.links → All (λ e v. n.face e ≡ 0 → Q (n.origin e) (n.origin (twin e))) p.origins →
      (e : ℕ) → e < n.half_edges → n.face e ≡ 0 → Q (n.origin e) (n.origin (twin e))
  outer_keep Q o a b e h z = elim (source? e p.links) [ inl k ↦ (at_source _ p.links a e k).1 z | inr f ↦ elim (source? e p.origins) [ inl k ↦ (at_source _ p.origins b e k).1 z | inr g ↦ off f g ] ]
    where
      off : (Source e p.links → ⊥) → (Source e p.origins → ⊥) → Q (n.origin e) (n.origin (twin e))
      off f g =
          let i = old_tail m n S p d r w e h f in
          let c = d.origin_off (twin e) (λ k. f (subst (λ x. Source x p.links) (twin_twin e) ((at_source _ p.origins w.origin_fits (twin e) k).1.1 (S.twin_in e i)).1)) in
          rw (d.origin_off e g, c) (o e i (sym (face_old m n S p d r w e i f) ∙ z))

  -- W: the edges of which nothing is said
  pub edges_keep : (R : ℕ → ℕ → ℕ → ℕ → Type 0) (W W' : ℕ → Type 0) → ((e : ℕ) → W e → W' e) → ((e : ℕ) → W' (twin e) → W' e) → All (λ e g. W' e) p.links →
      ((e : ℕ) → e < m.half_edges → m.face e ≢ 0 → m.face (twin e) ≢ 0 → (W e → ⊥) → R (m.origin e) (m.origin (m.next e)) (m.origin (m.next (m.next e))) (m.origin (m.next (m.next (twin e))))) →
      (e : ℕ) → e < n.half_edges → n.face e ≢ 0 → n.face (twin e) ≢ 0 → (W' e → ⊥) → R (n.origin e) (n.origin (n.next e)) (n.origin (n.next (n.next e))) (n.origin (n.next (n.next (twin e))))
  edges_keep R W W' sub sym_W a o e h z z' f =
      let off : (x : ℕ) → (W' x → ⊥) → Source x p.links → ⊥ = λ x g k. g (at_source _ p.links a x k).1 in
      let s = same_corners e h z (off e f) in
      let t = same_corners (twin e) (w.twins e h) z' (off (twin e) (λ x. f (sym_W e x))) in
      rw (s.one, s.two, s.three, t.three) (o e s.old s.inner t.inner (λ x. f (sub e x)))
