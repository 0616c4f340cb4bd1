-- Vertices by a height of their own, u · x + v · y, different for each; the same upside down; the highest; and that there is such a height.
use Rattle.std.proofs.Common.{◌≡◌, ℕ, zero, suc, ◌<◌, ◌≤◌, true, false, eqb, ◌⊎◌, List, length, ℤ, pos, ◌-ℤ◌, neg_ℤ, sym, ◌∙◌, subst, inl, inr, arith}
use Rattle.std.proofs.lemmas.Int.{ints}
use Rattle.exact.specs.Plane.{Vertex, spot, all_apart}
use Rattle.std.proofs.lemmas.Bool.{cases_Bool, eqb-true, eqb-false}
use Rattle.exact.proofs.Algebra.Signs.{Sign, split_below, strict_or_zero}
use Rattle.exact.proofs.Geometry.Levels.{level, level_neg, bound_y, levels_apart}

pub record Heights (vs : List Vertex) : Type 0 where
  pub u : ℤ
  pub v : ℤ
  pub distinct : (i j : ℕ) → i < length vs → j < length vs → level u v (spot vs i) ≡ level u v (spot vs j) → i ≡ j

module _ (vs : List Vertex) (up : Heights vs) where
  abbrev pub height : ℕ → ℤ
  height i = level up.u up.v (spot vs i)

  abbrev pub Above : ℕ → ℕ → Type 0
  Above a b = Sign true (height a -ℤ height b)

  -- ---- one of two is above
  pub above_strict : (a b : ℕ) → a < length vs → b < length vs → ¬ (a ≡ b) → Sign false (height a -ℤ height b) → Above a b
  above_strict a b l m ne h = elim (strict_or_zero (height a -ℤ height b) h) [
    | inl s ↦ s
    | inr e ↦ absurd (ne (up.distinct a b l m (equal (height a) (height b) e)))
  ]
    where
      equal : (p q : ℤ) → p -ℤ q ≡ pos 0 → p ≡ q
      equal p q e = omega (arith, ints)

  pub above_either : (a b : ℕ) → a < length vs → b < length vs → ¬ (a ≡ b) → Above a b ⊎ Above b a
  above_either a b l m ne = elim (split_below (height a -ℤ height b)) [
    | inl h ↦ inl (above_strict a b l m ne h)
    | inr h ↦ inr (turned (height a) (height b) h)
  ]
    where
      turned : (p q : ℤ) → Sign true (neg_ℤ (p -ℤ q)) → Sign true (q -ℤ p)
      turned p q h = omega (arith, ints)

  pub not_above_both : (a b : ℕ) → Above a b → Above b a → ⊥
  not_above_both a b = never (height a) (height b)
    where
      never : (p q : ℤ) → Sign true (p -ℤ q) → Sign true (q -ℤ p) → ⊥
      never p q h l = omega (arith, ints)

  pub above_different : (a b : ℕ) → Above a b → ¬ (a ≡ b)
  above_different a b h e = let s : Above b b = subst (λ (i : ℕ). Above i b) e h in not_above_both b b s s

  pub above_trans : (a b c : ℕ) → Above a b → Above b c → Above a c
  above_trans a b c = through (height a) (height b) (height c)
    where
      through : (p q r : ℤ) → Sign true (p -ℤ q) → Sign true (q -ℤ r) → Sign true (p -ℤ r)
      through p q r h l = omega (arith, ints)

  -- ---- the highest up to n
  pub highest : (n : ℕ) → n < length vs → (m : ℕ) × (m ≤ n) × ((i : ℕ) → i ≤ n → ¬ (i ≡ m) → Above m i)
  highest zero l = (0, omega arith, λ i k ne. absurd (ne (omega arith)))
  highest (suc n) l = go (highest n (omega arith))
    where
      go : (m : ℕ) × (m ≤ n) × ((i : ℕ) → i ≤ n → ¬ (i ≡ m) → Above m i) → (m : ℕ) × (m ≤ suc n) × ((i : ℕ) → i ≤ suc n → ¬ (i ≡ m) → Above m i)
      go r = elim (above_either r.0 (suc n) (omega (arith, r.1)) l (λ e. omega (arith, r.1))) [
        | inl h ↦ (
          r.0,
          omega (arith, r.1),
          λ i k ne. elim (cases_Bool (eqb i (suc n))) [
            | inl e ↦ subst (λ (j : ℕ). Above r.0 j) (sym (eqb-true i (suc n) e)) h
            | inr e ↦ r.2 i (omega (arith, eqb-false i (suc n) e)) ne
          ],
        )
        | inr h ↦ (
          suc n,
          omega arith,
          λ i k ne. elim (cases_Bool (eqb i r.0)) [
            | inl e ↦ subst (λ (j : ℕ). Above (suc n) j) (sym (eqb-true i r.0 e)) h
            | inr e ↦ above_trans (suc n) r.0 i h (r.2 i (omega arith) (eqb-false i r.0 e))
          ],
        )
      ]

-- ---- upside down
abbrev pub upside_down : (vs : List Vertex) → Heights vs → Heights vs
upside_down vs up = record { u = neg_ℤ up.u; v = neg_ℤ up.v; distinct = λ i j l m e. up.distinct i j l m (equal (height vs up i) (height vs up j) (sym (level_neg up.u up.v (spot vs i)) ∙ e ∙ level_neg up.u up.v (spot vs j))) }
  where
    equal : (p q : ℤ) → neg_ℤ p ≡ neg_ℤ q → p ≡ q
    equal p q e = omega (arith, ints)

pub above_down : (vs : List Vertex) (up : Heights vs) (a b : ℕ) → Above vs up a b → Above vs (upside_down vs up) b a
above_down vs up a b h = omega (arith, ints, level_neg up.u up.v (spot vs a), level_neg up.u up.v (spot vs b))

pub down_above : (vs : List Vertex) (up : Heights vs) (a b : ℕ) → Above vs (upside_down vs up) a b → Above vs up b a
down_above vs up a b h = omega (arith, ints, level_neg up.u up.v (spot vs a), level_neg up.u up.v (spot vs b))

-- ---- K · x + y for K above every y
pub some_heights : (vs : List Vertex) → all_apart vs ≡ true → Heights vs
some_heights vs apart = let K = bound_y vs in record { u = pos K.0; v = pos 1; distinct = levels_apart vs apart K.0 K.1 }
