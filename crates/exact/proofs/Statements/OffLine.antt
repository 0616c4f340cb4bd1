-- Vertices that are not on one line: for each there is another, and each line through two of different height leaves one out.
use Rattle.std.proofs.Common.{◌≡◌, ℕ, zero, suc, ◌<◌, true, false, ◌⊎◌, List, length, ℤ, pos, negsuc, ◌-ℤ◌, ◌*ℤ◌, neg_ℤ, refl, ap, ◌∙◌, ap₂, inl, inr, arith}
use Rattle.exact.specs.Plane.{Vertex, spot, on_a_line}
use Rattle.exact.proofs.Vertices.{site}
use Rattle.exact.proofs.Algebra.Signs.{Sign, right_zero, cancel_zero, clash_zero}
use Rattle.exact.proofs.Geometry.Words.{orient, Site, Orient}
use Rattle.exact.proofs.Geometry.OneLine.{off_line}
use Rattle.exact.proofs.Geometry.Levels.{Rise, level_line}
use Rattle.exact.proofs.Statements.Heights.{Heights, Above}

abbrev pub Nonzero : ℤ → Type 0
Nonzero z = Sign true z ⊎ Sign true (neg_ℤ z)

pub nonzero : (z : ℤ) → Nonzero z → z ≡ pos 0 → ⊥
nonzero z (inl h) e = clash_zero h e
nonzero z (inr h) e = clash_zero h (ap neg_ℤ e)

pub zero_or_not : (z : ℤ) → Nonzero z ⊎ (z ≡ pos 0)
zero_or_not (pos zero) = inr refl
zero_or_not (pos (suc n)) = inl (inl (record { bound = omega arith }))
zero_or_not (negsuc n) = inl (inr (record { bound = omega arith }))

pub another : (vs : List Vertex) → on_a_line vs ≡ false → (m : ℕ) → (z : ℕ) × (z < length vs) × ¬ (z ≡ m)
another vs off zero = (1, (off_line vs off).2, λ e. omega arith)
another vs off (suc m) = (0, omega (arith, (off_line vs off).2), λ e. omega arith)

-- a vertex off the line through m and g
pub off_pair : (vs : List Vertex) (ones : (i : ℕ) → (spot vs i).w ≡ 1) → on_a_line vs ≡ false → (up : Heights vs) (m g : ℕ) → Above vs up g m →
    (z : ℕ) × (z < length vs) × Nonzero (Orient (site vs ones m) (site vs ones g) (site vs ones z))
off_pair vs ones off up m g h = elim (zero_or_not (side 0)) [
  | inl a ↦ (0, omega (arith, o.2), a)
  | inr a ↦ elim (zero_or_not (side 1)) [
    | inl b ↦ (1, o.2, b)
    | inr b ↦ elim (zero_or_not (side o.0)) [
      | inl c ↦ (o.0, o.1, c)
      | inr c ↦ absurd (nonzero (Orient (P 0) (P 1) (P o.0)) o.3 (cancel_zero h (level_line up.u up.v (P m) (P g) (P 0) (P 1) (P o.0)
          ∙ flat (Rise up.u up.v (P 0) (P 1)) (Rise up.u up.v (P 0) (P o.0)) (side 0) (side 1) (side o.0) a b c)))
    ]
  ]
]
  where
    P : ℕ → Site
    P i = site vs ones i

    side : ℕ → ℤ
    side z = Orient (site vs ones m) (site vs ones g) (site vs ones z)

    o : (k : ℕ) × (k < length vs) × (1 < length vs) × Nonzero (orient (spot vs 0) (spot vs 1) (spot vs k))
    o = off_line vs off

    flat : (p q i j k : ℤ) → i ≡ pos 0 → j ≡ pos 0 → k ≡ pos 0 → p *ℤ (k -ℤ i) -ℤ q *ℤ (j -ℤ i) ≡ pos 0
    flat p q i j k a b c = ap₂ ◌-ℤ◌ (right_zero p (k -ℤ i) (ap₂ ◌-ℤ◌ c a)) (right_zero q (j -ℤ i) (ap₂ ◌-ℤ◌ b a))
