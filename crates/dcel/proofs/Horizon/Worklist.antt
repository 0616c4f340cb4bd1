-- The edges that must be looked at after a vertex has been added outside: the sides of the new faces. Every other edge lies between two old faces, and is right if it was.
use Rattle.std.proofs.Common.{◌≡◌, ℕ, ◌+◌, ◌<◌, ◌≤◌, false, ◌≢◌, ◌⊎◌, ap, ◌∙◌, inl, inr, arith}
use Rattle.exact.specs.Plane.{Point, inside_circle}
use Rattle.dcel.specs.Map.{Map, twin}
use Rattle.dcel.specs.Mesh.{Among, Sound}
use Rattle.dcel.specs.Geometry.{wrong, AtRest}
use Rattle.dcel.proofs.Horizon.Attached.{Attached}
use Rattle.dcel.proofs.Horizon.Attached as Attach
use Rattle.dcel.proofs.Horizon.EarClosed.{EarClosed, inner_then, ear_keeps}
use Rattle.dcel.proofs.Horizon.Grown.{Grown}

-- L has every half edge of a new face
abbrev pub Listed : Map → Map → (ℕ → Type 0) → Type 0
Listed m₀ m L = (x : ℕ) → x < m.half_edges → m₀.faces ≤ m.face x → L x

pub attach_listed : {m n : Map} {e : ℕ} → Attached m n e → Listed m n (λ x. Among x e m.half_edges (m.half_edges + 2))
attach_listed {m} {n} {e} K x h f = elim (Attach.inner_then K x h (λ z. omega (arith, K.sound.face_in e K.may.in_e))) [
  | inl k ↦ absurd (omega (arith, K.sound.face_in x k.0, (Attach.attach_keeps K x k.0 k.1).face_kept))
  | inr k ↦ k
]

pub ear_listed : (m₀ : Map) {m n : Map} {e : ℕ} (L : ℕ → Type 0) → 0 < m₀.faces → EarClosed m n e → Listed m₀ m L → Listed m₀ n (λ x. L x ⊎ Among x e (m.next e) (m.half_edges + 1))
ear_listed m₀ L some K l x h f = elim (inner_then K x h (λ z. omega arith)) [
  | inl k ↦ inl (l x k.0 (omega (arith, (ear_keeps K x k.0 k.1).face_kept)))
  | inr k ↦ inr k
]

-- what is not on the list, from either side, is right
pub right_off_list : (pos : ℕ → Point) (m₀ m : Map) (L : ℕ → Type 0) → Sound m₀ → Grown pos m₀ m → AtRest pos m₀ → Listed m₀ m L → Sound m →
    (x : ℕ) → x < m.half_edges → m.face x ≢ 0 → m.face (twin x) ≢ 0 → (L x → ⊥) → (L (twin x) → ⊥) → wrong pos m x ≡ false
right_off_list pos m₀ m L S₀ g rest l S x h z z' k k' =
    let i = old x h z k in let i' = old (twin x) (S.twin_in x h) z' k' in
    let a = g.origin_old x i.0 in let b = g.origin_old (twin x) i'.0 in
    let c = apex x i.0 i.1 in let d = apex (twin x) i'.0 i'.1 in
    (λ t. inside_circle (pos (a t)) (pos (b t)) (pos (c t)) (pos (d t))) ∙ rest x i.0 i.1 i'.1
  where
    old : (y : ℕ) → y < m.half_edges → m.face y ≢ 0 → (L y → ⊥) → (y < m₀.half_edges) × (m₀.face y ≢ 0)
    old y h z n = elim (g.old_or_new y h z) [ inl o ↦ o | inr f ↦ absurd (n (l y h f)) ]

    apex : (y : ℕ) → y < m₀.half_edges → m₀.face y ≢ 0 → m.origin (m.prev y) ≡ m₀.origin (m₀.prev y)
    apex y h z = ap m.origin (g.kept y h z).prev_kept ∙ g.origin_old (m₀.prev y) (S₀.prev_in y h)
