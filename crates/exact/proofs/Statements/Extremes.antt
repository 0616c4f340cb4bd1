-- At the highest and the lowest vertex no triangle rises, also upside down; at every other one some triangle does, the one way or the other.
use Rattle.std.proofs.Common.{◌≡◌, ℕ, zero, suc, ◌+◌, ◌<◌, Bool, true, false, not, ◌&&◌, eqb, ◌⊎◌, List, length, pos, ◌+ℤ◌, neg_ℤ, sym, refl, ap, ◌∙◌, subst, ap₂, inl, inr, arith}
use Rattle.exact.specs.Plane.{or, Vertex, Tri, on_a_line, all_numbers}
use Rattle.std.proofs.lemmas.Bool.{cases_Bool, false_from_ne_true, eqb-true, eqb-false}
use Rattle.exact.proofs.Lists.{up_to→, count}
use Rattle.exact.proofs.Vertices.{site, rot_next}
use Rattle.exact.proofs.Algebra.Signs.{◌by◌, right_zero, cancel_zero}
use Rattle.exact.proofs.Geometry.Words.{Site, Orient}
use Rattle.exact.proofs.Geometry.Identities.Sides.{turn, swap, start_on}
use Rattle.exact.proofs.Geometry.Faces.{rot_below}
use Rattle.exact.proofs.Geometry.Levels.{Rise, level_flat}
use Rattle.exact.proofs.Statements.Tilings.{ProperTiling}
use Rattle.exact.proofs.Statements.Heights.{Heights, Above, above_either, above_different, not_above_both, highest, upside_down, above_down, down_above}
use Rattle.exact.proofs.Statements.Rising.{rising}
use Rattle.exact.proofs.Statements.MiddleCorners.{has_rising?, has_rising→, has_rising←}
use Rattle.exact.proofs.Statements.OffLine.{Nonzero, nonzero, zero_or_not, off_pair, another}
use Rattle.exact.proofs.Geometry.OneLine.{off_line}
use Rattle.exact.proofs.Statements.Counting.{count_same, count_or, count_number}

module _ (vs : List Vertex) (ts : List Tri) (T : ProperTiling vs ts) (up : Heights vs) where
  pub highest_none : (m : ℕ) → ((i : ℕ) → i < length vs → ¬ (i ≡ m) → Above vs up m i) → has_rising? vs up ts m ≡ false
  highest_none m high = false_from_ne_true (has_rising? vs up ts m) (λ y.
      let w = has_rising→ vs up ts m y in let g = w.high in
      not_above_both vs up g m w.above (high g (rot_below vs w.tri g w.low m (rot_next w.tri m g w.low w.turned) (T.triangle w.tri w.here)) (above_different vs up g m w.above)))

  pub lowest_none : (m : ℕ) → ((i : ℕ) → i < length vs → ¬ (i ≡ m) → Above vs up i m) → has_rising? vs up ts m ≡ false
  lowest_none m low = false_from_ne_true (has_rising? vs up ts m) (λ y.
      let w = has_rising→ vs up ts m y in let h = w.low in let t = w.tri in
      not_above_both vs up m h w.below (low h (rot_below vs t h m w.high (rot_next t w.high h m (rot_next t m w.high h w.turned)) (T.triangle t w.here)) (λ e. above_different vs up m h w.below (sym e))))

module _ (vs : List Vertex) (ts : List Tri) (T : ProperTiling vs ts) (off : on_a_line vs ≡ false) (up : Heights vs) where
  abbrev P : ℕ → Site
  P i = site vs T.ones i

  abbrev down : Heights vs
  down = upside_down vs up

  abbrev SomeRises : ℕ → Type 0
  SomeRises m = (has_rising? vs up ts m ≡ true) ⊎ (has_rising? vs down ts m ≡ true)

  by_pair : (m g h : ℕ) → m < length vs → g < length vs → h < length vs → Above vs up g m → Above vs up m h → Nonzero (Orient (P m) (P g) (P h)) → SomeRises m
  by_pair m g h lm lg lh hg hh (inl s) = inl (has_rising← vs up ts m (rising vs ts T up m g h lm lg lh hg hh s))
  by_pair m g h lm lg lh hg hh (inr s) =
      inr (has_rising← vs down ts m (rising vs ts T down m h g lm lh lg (above_down vs up m h hh) (above_down vs up g m hg) (s by turn (P m) (P h) (P g) ∙ swap (P h) (P g) (P m) ∙ ap neg_ℤ (sym (turn (P m) (P g) (P h))))))

  -- one above m, one below
  pub between_rises : (m g h : ℕ) → m < length vs → g < length vs → h < length vs → Above vs up g m → Above vs up m h → SomeRises m
  between_rises m g h lm lg lh hg hh = elim (zero_or_not (Orient (P m) (P g) (P h))) [
    | inl s ↦ by_pair m g h lm lg lh hg hh s
    | inr e ↦ other e (off_pair vs T.ones off up m g hg)
  ]
    where
      -- all three on a line: with a vertex off it
      other : Orient (P m) (P g) (P h) ≡ pos 0 → (z : ℕ) × (z < length vs) × Nonzero (Orient (P m) (P g) (P z)) → SomeRises m
      other e o = elim (above_either vs up z m l lm (λ k. nonzero (Orient (P m) (P g) (P z)) n (ap (λ (i : ℕ). Orient (P m) (P g) (P i)) k ∙ start_on (P m) (P g)))) [
        | inr k ↦ by_pair m g z lm lg l hg k n
        | inl k ↦ elim (zero_or_not (Orient (P m) (P z) (P h))) [
          | inl s ↦ by_pair m z h lm l lh k hh s
          | inr s ↦ absurd (nonzero (Orient (P m) (P g) (P z)) n (cancel_zero hh (level_flat up.u up.v (P m) (P g) (P h) (P z)
              ∙ ap₂ ◌+ℤ◌ (right_zero (Rise up.u up.v (P m) (P g)) (Orient (P m) (P z) (P h)) s) (right_zero (Rise up.u up.v (P z) (P m)) (Orient (P m) (P g) (P h)) e))))
        ]
      ]
        where
          z : ℕ
          z = o.0

          l : z < length vs
          l = o.1

          n : Nonzero (Orient (P m) (P g) (P z))
          n = o.2

  -- ---- so there are two where none rises
  abbrev pub none? : ℕ → Bool
  none? i = not (has_rising? vs up ts i) && not (has_rising? vs down ts i)

  none_both : (p q : Bool) → p ≡ false → q ≡ false → not p && not q ≡ true
  none_both p q e f = rw (e, f)

  none_one : (p q : Bool) → (p ≡ true) ⊎ (q ≡ true) → not p && not q ≡ false
  none_one p q (inl e) = rw e
  none_one true q (inr e) = refl
  none_one false q (inr e) = rw e

  none_is : (t b : ℕ) → t < length vs → b < length vs → ((i : ℕ) → i < length vs → ¬ (i ≡ t) → Above vs up t i) → ((i : ℕ) → i < length vs → ¬ (i ≡ b) → Above vs up i b) →
      (i : ℕ) → i < length vs → none? i ≡ or (eqb t i) (eqb b i)
  none_is t b lt lb high low i l = go (cases_Bool (eqb t i)) (cases_Bool (eqb b i))
    where
      go : (eqb t i ≡ true) ⊎ (eqb t i ≡ false) → (eqb b i ≡ true) ⊎ (eqb b i ≡ false) → none? i ≡ or (eqb t i) (eqb b i)
      go (inl e) f =
          let h : (k : ℕ) → k < length vs → ¬ (k ≡ i) → Above vs up i k = subst (λ (j : ℕ). (k : ℕ) → k < length vs → ¬ (k ≡ j) → Above vs up j k) (eqb-true t i e) high in
          none_both (has_rising? vs up ts i) (has_rising? vs down ts i) (highest_none vs ts T up i h) (lowest_none vs ts T down i (λ k lk n. above_down vs up i k (h k lk n))) ∙ sym (ap (λ (x : Bool). or x (eqb b i)) e)
      go (inr e) (inl f) =
          let h : (k : ℕ) → k < length vs → ¬ (k ≡ i) → Above vs up k i = subst (λ (j : ℕ). (k : ℕ) → k < length vs → ¬ (k ≡ j) → Above vs up k j) (eqb-true b i f) low in
          none_both (has_rising? vs up ts i) (has_rising? vs down ts i) (lowest_none vs ts T up i h) (highest_none vs ts T down i (λ k lk n. above_down vs up k i (h k lk n))) ∙ sym (ap₂ or e f)
      go (inr e) (inr f) =
          none_one (has_rising? vs up ts i) (has_rising? vs down ts i) (between_rises i t b l lt lb (high i l (λ k. eqb-false t i e (sym k))) (low i l (λ k. eqb-false b i f (sym k)))) ∙ sym (ap₂ or e f)

  pub count_none_rises : count none? (all_numbers vs) ≡ 2
  count_none_rises = go (length vs) refl
    where
      at_ends : (t b : ℕ) → t < length vs → b < length vs → ((i : ℕ) → i < length vs → ¬ (i ≡ t) → Above vs up t i) → ((i : ℕ) → i < length vs → ¬ (i ≡ b) → Above vs up i b) → count none? (all_numbers vs) ≡ 2
      at_ends t b lt lb high low =
          let o = another vs off t in
          let ne : ¬ (t ≡ b) = λ e. not_above_both vs up t o.0 (high o.0 o.1 o.2) (subst (λ (j : ℕ). Above vs up o.0 j) (sym e) (low o.0 o.1 (λ k. o.2 (k ∙ sym e)))) in
          count_same none? (λ i. or (eqb t i) (eqb b i)) (all_numbers vs) (λ i m. none_is t b lt lb high low i (up_to→ (length vs) i m))
          ∙ count_or (eqb t) (eqb b) (all_numbers vs) (λ i m p q. ne (eqb-true t i p ∙ sym (eqb-true b i q)))
          ∙ ap₂ ◌+◌ (count_number (length vs) t lt) (count_number (length vs) b lb)

      go : (n : ℕ) → length vs ≡ n → count none? (all_numbers vs) ≡ 2
      go zero e = absurd (omega (arith, (off_line vs off).2))
      go (suc n) e =
          let a = highest vs up n (omega arith) in let b = highest vs down n (omega arith) in
          at_ends a.0 b.0 (omega (arith, a.1)) (omega (arith, b.1)) (λ i l ne. a.2 i (omega arith) ne) (λ i l ne. down_above vs up b.0 i (b.2 i (omega arith) ne))
