-- A vertex more: it has the number that follows the last, and is where no other is.
use Rattle.std.proofs.Common.{◌≡◌, ℕ, ◌+◌, ◌<◌, ◌≤◌, sym, arith, inl, inr, below_more}
use Rattle.std.proofs.lemmas.Bool.{cases_lt}
use Rattle.exact.specs.Plane.{Point}
use Rattle.exact.proofs.Geometry.Words.{Between}
use Rattle.dcel.specs.Map.{Map}
use Rattle.dcel.specs.Geometry.{Geometric}
use Rattle.dcel.proofs.Sites.{site, start, stop}

-- the place of the number that follows the last vertex is that of no vertex
abbrev pub Fresh : (ℕ → Point) → Map → Type 0
Fresh pos m = (v : ℕ) → v < m.vertices → (pos v).x ≡ (pos m.vertices).x → (pos v).y ≡ (pos m.vertices).y → ⊥

-- the old vertices and the new one
pub each_vertex : (P : ℕ → Type 0) (k n : ℕ) → n ≡ k + 1 → ((v : ℕ) → v < k → P v) → P k → (v : ℕ) → v < n → P v
each_vertex P k n q old new = rw q (below_more P k old new)

-- two numbers below, of which at most the last is new
pub apart_with_one : (pos : ℕ → Point) (k n : ℕ) → n ≤ k + 1 →
    ((u v : ℕ) → u < k → v < k → (pos u).x ≡ (pos v).x → (pos u).y ≡ (pos v).y → u ≡ v) → ((u v : ℕ) → u < k → k ≤ v → v < n → (pos u).x ≡ (pos v).x → (pos u).y ≡ (pos v).y → ⊥) →
    (u v : ℕ) → u < n → v < n → (pos u).x ≡ (pos v).x → (pos u).y ≡ (pos v).y → u ≡ v
apart_with_one pos k n one old new u v lu lv x y = elim (cases_lt u k) [
  | inl a ↦ elim (cases_lt v k) [ inl b ↦ old u v a b x y | inr b ↦ absurd (new u v a (omega arith) lv x y) ]
  | inr a ↦ elim (cases_lt v k) [ inl b ↦ absurd (new v u b (omega arith) lu (sym x) (sym y)) | inr b ↦ omega arith ]
]

-- the new vertex is strictly between the ends of e
abbrev pub OnEdge : (pos : ℕ → Point) (m : Map) → Geometric pos m → ℕ → Type 0
OnEdge pos m G e = Between (start G e) (stop G e) (site G m.vertices)
