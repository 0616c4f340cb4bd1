-- What is read from a map after an ear has been closed at e = uv, which vw follows.
use Rattle.std.proofs.Common.{◌≡◌, ℕ, ◌+◌, ◌<◌, ◌≢◌, ◌⊎◌, sym, ap, ◌∙◌, inl, inr, arith}
use Rattle.std.proofs.lemmas.Bool.{cases_eq, cases_lt}
use Rattle.dcel.specs.Pairs.{reversed}
use Rattle.dcel.specs.Map.{Map, twin}
use Rattle.dcel.specs.Mesh.{Among, Sound, Mesh}
use Rattle.dcel.specs.Patch.{patched}
use Rattle.dcel.specs.Surgery.{Ear, ear_patch}
use Rattle.dcel.proofs.Changes.{elsewhere}
use Rattle.dcel.proofs.Fits.{IsPatched, is_patched}
use Rattle.dcel.proofs.EarClose.{ear_surgery}
use Rattle.dcel.proofs.Neighbours.{Neighbours, neighbours, new_pairs}
use Rattle.dcel.proofs.Horizon.Kept.{Kept}

pub record EarClosed (m n : Map) (e : ℕ) : Type 0 where
  pub sound : Sound m
  pub may : Ear m e
  pub is : IsPatched m n (ear_patch m e)

pub ear_closed : (m : Map) (M : Mesh m) (e : ℕ) → Ear m e → EarClosed m (patched (ear_patch m e) m) e
ear_closed m M e may = record { sound = M.sound; may = may; is = is_patched m (ear_patch m e) (ear_surgery m M e may).distinct }

module _ {m n : Map} {e : ℕ} (K : EarClosed m n e) where
  abbrev S : Sound m
  S = K.sound

  abbrev may : Ear m e
  may = K.may

  abbrev d : IsPatched m n (ear_patch m e)
  d = K.is

  abbrev vw : ℕ
  vw = m.next e

  abbrev pub uw : ℕ
  uw = m.half_edges

  abbrev pub wu : ℕ
  wu = m.half_edges + 1

  near : Neighbours m e
  near = neighbours m S e may.in_e

  far : Neighbours m vw
  far = neighbours m S vw near.next_in

  -- ---- the new pair and the new face
  pub twin_uw : twin uw ≡ wu
  twin_uw = (new_pairs m S).t0

  pub twin_wu : twin wu ≡ uw
  twin_wu = (new_pairs m S).t1

  pub origin_uw : n.origin uw ≡ m.origin e
  origin_uw = d.origin_at.0

  pub origin_wu : n.origin wu ≡ m.origin (twin vw)
  origin_wu = d.origin_at.1.0

  pub face_e : n.face e ≡ m.faces
  face_e = d.face_at.0

  pub face_vw : n.face vw ≡ m.faces
  face_vw = d.face_at.1.0

  pub face_wu : n.face wu ≡ m.faces
  face_wu = d.face_at.1.1.0

  pub face_uw : n.face uw ≡ 0
  face_uw = d.face_at.1.1.1.0

  pub next_uw : n.next uw ≡ m.next vw
  next_uw = d.next_at.1.1.1.1.0

  pub prev_uw : n.prev uw ≡ m.prev e
  prev_uw = d.prev_at.1.1.1.0

  pub next_before : n.next (m.prev e) ≡ uw
  next_before = d.next_at.1.1.1.0

  pub prev_e : n.prev e ≡ wu
  prev_e = d.prev_at.1.1.0

  pub prev_vw : n.prev vw ≡ e
  prev_vw = d.prev_at.0

  pub prev_wu : n.prev wu ≡ vw
  prev_wu = d.prev_at.1.0

  -- ---- what was there
  pub origin_old : (x : ℕ) → x < m.half_edges → n.origin x ≡ m.origin x
  origin_old x h = d.origin_off x (elsewhere (ear_patch m e).origins x (omega arith))

  pub face_old : (x : ℕ) → x < m.half_edges → x ≢ e → x ≢ vw → n.face x ≡ m.face x
  face_old x h a b = d.face_off x (elsewhere (ear_patch m e).sides x (omega arith))

  pub next_old : (x : ℕ) → x < m.half_edges → x ≢ e → x ≢ vw → x ≢ m.prev e → n.next x ≡ m.next x
  next_old x h a b c = d.next_off x (elsewhere (ear_patch m e).links x (omega arith))

  pub prev_old : (x : ℕ) → x < m.half_edges → x ≢ e → x ≢ vw → x ≢ m.next vw → n.prev x ≡ m.prev x
  prev_old x h a b c = d.prev_off x (elsewhere (reversed (ear_patch m e).links) x (omega arith))

  pub edge_old : (f : ℕ) → f ≢ m.faces → n.edge f ≡ m.edge f
  edge_old f h = d.edge_off f (elsewhere (ear_patch m e).edges f (omega arith))

  pub out_old : (v : ℕ) → n.out v ≡ m.out v
  out_old v = d.out_off v (λ k. k)

  pub ear_keeps : (x : ℕ) → x < m.half_edges → m.face x ≢ 0 → Kept m n x
  ear_keeps x h z =
      let a : x ≢ e = λ q. z (ap m.face q ∙ may.outer) in
      let b : x ≢ vw = λ q. z (ap m.face q ∙ near.face_next ∙ may.outer) in
      let c : x ≢ m.prev e = λ q. z (ap m.face q ∙ near.face_prev ∙ may.outer) in
      let c' : x ≢ m.next vw = λ q. z (ap m.face q ∙ far.face_next ∙ near.face_next ∙ may.outer) in
      record { next_kept = next_old x h a b c; prev_kept = prev_old x h a b c'; face_kept = face_old x h a b }

  -- what is inner was so, or is a side of the new face
  pub inner_then : (x : ℕ) → x < n.half_edges → n.face x ≢ 0 → ((x < m.half_edges) × (m.face x ≢ 0)) ⊎ Among x e vw wu
  inner_then x h z = elim (cases_eq x e) [
    | inl q ↦ inr (inl q)
    | inr a ↦ elim (cases_eq x vw) [
      | inl q ↦ inr (inr (inl q))
      | inr b ↦ elim (cases_lt x m.half_edges) [
        | inl l ↦ inl (l, λ q. z (face_old x l a b ∙ q))
        | inr l ↦ elim (cases_eq x uw) [ inl q ↦ absurd (z (ap n.face q ∙ face_uw)) | inr q ↦ inr (inr (inr (omega (arith, d.half_edges_is)))) ]
      ]
    ]
  ]

  -- what is outer is the new pair's first half edge, or was outer and is no side of the new face
  pub record StillOuter (x : ℕ) : Type 0 where
    pub old : x < m.half_edges
    pub not_e : x ≢ e
    pub not_vw : x ≢ vw
    pub outer : m.face x ≡ 0

  pub outer_then : (x : ℕ) → x < n.half_edges → n.face x ≡ 0 → (x ≡ uw) ⊎ StillOuter x
  outer_then x h z = elim (cases_lt x m.half_edges) [
    | inl l ↦ inr (still l)
    | inr l ↦ elim (cases_eq x uw) [ inl q ↦ inl q | inr q ↦ absurd (side x (omega (arith, d.half_edges_is)) face_wu z) ]
  ]
    where
      side : (x : ℕ) {y : ℕ} → x ≡ y → n.face y ≡ m.faces → n.face x ≡ 0 → ⊥
      side x q f z = let r = sym (ap n.face q) ∙ z in omega (arith, S.face_in e may.in_e)

      still : x < m.half_edges → StillOuter x
      still l =
          let a : x ≢ e = λ q. side x q face_e z in
          let b : x ≢ vw = λ q. side x q face_vw z in
          record { old = l; not_e = a; not_vw = b; outer = sym (face_old x l a b) ∙ z }
