-- What is read from a map after a new vertex p has been attached at e = uw.
use Rattle.std.proofs.Common.{◌≡◌, ℕ, ◌+◌, ◌<◌, ◌≢◌, ◌⊎◌, sym, ap, ◌∙◌, inl, inr, arith}
use Rattle.std.proofs.lemmas.Bool.{cases_eq, cases_lt}
use Rattle.dcel.specs.Pairs.{reversed}
use Rattle.dcel.specs.Map.{Map, twin}
use Rattle.dcel.specs.Mesh.{Among, Sound, Mesh}
use Rattle.dcel.specs.Patch.{patched}
use Rattle.dcel.specs.Surgery.{Outer, attach_patch}
use Rattle.dcel.proofs.Changes.{elsewhere}
use Rattle.dcel.proofs.Fits.{IsPatched, is_patched}
use Rattle.dcel.proofs.OuterAttach.{attach_surgery}
use Rattle.dcel.proofs.Neighbours.{Neighbours, neighbours, new_pairs}
use Rattle.dcel.proofs.Horizon.Kept.{Kept}

pub record Attached (m n : Map) (e : ℕ) : Type 0 where
  pub sound : Sound m
  pub may : Outer m e
  pub is : IsPatched m n (attach_patch m e)

pub attached : (m : Map) (M : Mesh m) (e : ℕ) → Outer m e → Attached m (patched (attach_patch m e) m) e
attached m M e may = record { sound = M.sound; may = may; is = is_patched m (attach_patch m e) (attach_surgery m M e may).distinct }

module _ {m n : Map} {e : ℕ} (K : Attached m n e) where
  abbrev S : Sound m
  S = K.sound

  abbrev may : Outer m e
  may = K.may

  abbrev d : IsPatched m n (attach_patch m e)
  d = K.is

  abbrev pub wp : ℕ
  wp = m.half_edges

  abbrev pub pw : ℕ
  pw = m.half_edges + 1

  abbrev pub pu : ℕ
  pu = m.half_edges + 2

  abbrev pub up : ℕ
  up = m.half_edges + 3

  near : Neighbours m e
  near = neighbours m S e may.in_e

  -- ---- the new pairs and the new face
  pub twin_wp : twin wp ≡ pw
  twin_wp = (new_pairs m S).t0

  pub twin_pw : twin pw ≡ wp
  twin_pw = (new_pairs m S).t1

  pub twin_pu : twin pu ≡ up
  twin_pu = (new_pairs m S).t2

  pub origin_wp : n.origin wp ≡ m.origin (twin e)
  origin_wp = d.origin_at.0

  pub origin_pw : n.origin pw ≡ m.vertices
  origin_pw = d.origin_at.1.0

  pub origin_pu : n.origin pu ≡ m.vertices
  origin_pu = d.origin_at.1.1.0

  pub origin_up : n.origin up ≡ m.origin e
  origin_up = d.origin_at.1.1.1.0

  pub face_e : n.face e ≡ m.faces
  face_e = d.face_at.0

  pub face_wp : n.face wp ≡ m.faces
  face_wp = d.face_at.1.0

  pub face_pu : n.face pu ≡ m.faces
  face_pu = d.face_at.1.1.0

  pub face_up : n.face up ≡ 0
  face_up = d.face_at.1.1.1.0

  pub face_pw : n.face pw ≡ 0
  face_pw = d.face_at.1.1.1.1.0

  pub next_up : n.next up ≡ pw
  next_up = d.next_at.1.1.1.1.0

  pub next_pw : n.next pw ≡ m.next e
  next_pw = d.next_at.1.1.1.1.1.0

  pub prev_up : n.prev up ≡ m.prev e
  prev_up = d.prev_at.1.1.1.0

  pub prev_e : n.prev e ≡ pu
  prev_e = d.prev_at.1.1.0

  pub prev_wp : n.prev wp ≡ e
  prev_wp = d.prev_at.0

  pub prev_pu : n.prev pu ≡ wp
  prev_pu = d.prev_at.1.0

  -- ---- what was there
  pub origin_old : (x : ℕ) → x < m.half_edges → n.origin x ≡ m.origin x
  origin_old x h = d.origin_off x (elsewhere (attach_patch m e).origins x (omega arith))

  pub face_old : (x : ℕ) → x < m.half_edges → x ≢ e → n.face x ≡ m.face x
  face_old x h a = d.face_off x (elsewhere (attach_patch m e).sides x (omega arith))

  pub next_old : (x : ℕ) → x < m.half_edges → x ≢ e → x ≢ m.prev e → n.next x ≡ m.next x
  next_old x h a b = d.next_off x (elsewhere (attach_patch m e).links x (omega arith))

  prev_old : (x : ℕ) → x < m.half_edges → x ≢ e → x ≢ m.next e → n.prev x ≡ m.prev x
  prev_old x h a b = d.prev_off x (elsewhere (reversed (attach_patch m e).links) x (omega arith))

  pub edge_old : (f : ℕ) → f ≢ m.faces → n.edge f ≡ m.edge f
  edge_old f h = d.edge_off f (elsewhere (attach_patch m e).edges f (omega arith))

  pub out_old : (v : ℕ) → v ≢ m.vertices → n.out v ≡ m.out v
  out_old v h = d.out_off v (elsewhere (attach_patch m e).outs v (omega arith))

  pub attach_keeps : (x : ℕ) → x < m.half_edges → m.face x ≢ 0 → Kept m n x
  attach_keeps x h z =
      let a : x ≢ e = λ q. z (ap m.face q ∙ may.outer) in
      let b : x ≢ m.prev e = λ q. z (ap m.face q ∙ near.face_prev ∙ may.outer) in
      let c : x ≢ m.next e = λ q. z (ap m.face q ∙ near.face_next ∙ may.outer) in
      record { next_kept = next_old x h a b; prev_kept = prev_old x h a c; face_kept = face_old x h a }

  -- what is inner was so, or is a side of the new face
  pub inner_then : (x : ℕ) → x < n.half_edges → n.face x ≢ 0 → ((x < m.half_edges) × (m.face x ≢ 0)) ⊎ Among x e wp pu
  inner_then x h z = elim (cases_eq x e) [
    | inl q ↦ inr (inl q)
    | inr a ↦ elim (cases_lt x m.half_edges) [
      | inl l ↦ inl (l, λ q. z (face_old x l a ∙ q))
      | inr l ↦ elim (cases_eq x wp) [
        | inl q ↦ inr (inr (inl q))
        | inr b ↦ elim (cases_eq x pu) [
          | inl q ↦ inr (inr (inr q))
          | inr c ↦ elim (cases_eq x pw) [ inl q ↦ absurd (z (ap n.face q ∙ face_pw)) | inr f ↦ absurd (z (ap n.face (omega (arith, d.half_edges_is)) ∙ face_up)) ]
        ]
      ]
    ]
  ]

  -- what is outer ends or begins at p, or was outer and is not e
  pub outer_then : (x : ℕ) → x < n.half_edges → n.face x ≡ 0 → (x ≡ up) ⊎ ((x ≡ pw) ⊎ ((x < m.half_edges) × (x ≢ e) × (m.face x ≡ 0)))
  outer_then x h z = elim (cases_lt x m.half_edges) [
    | inl l ↦ (let a : x ≢ e = λ q. side q face_e in inr (inr (l, a, sym (face_old x l a) ∙ z)))
    | inr l ↦ elim (cases_eq x up) [
      | inl q ↦ inl q
      | inr a ↦ elim (cases_eq x pw) [
        | inl q ↦ inr (inl q)
        | inr b ↦ elim (cases_eq x wp) [ inl q ↦ absurd (side q face_wp) | inr c ↦ absurd (side (omega (arith, d.half_edges_is)) face_pu) ]
      ]
    ]
  ]
    where
      side : {y : ℕ} → x ≡ y → n.face y ≡ m.faces → ⊥
      side q f = let r = sym (ap n.face q) ∙ z in omega (arith, S.face_in e may.in_e)
