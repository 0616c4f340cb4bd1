-- Each triangle rises or falls, by the height of its corners; so there are as many that rise as vertices at which one rises.
use Rattle.std.proofs.Common.{◌≡◌, ℕ, ◌+◌, ◌<◌, Bool, true, false, not, ◌&&◌, eqb, List, length, ◌-ℤ◌, sym, refl, ap, ◌∙◌, subst, inl, inr, arith}
use Rattle.std.proofs.lemmas.Bool.{false≢true, false_from_ne_true, and_from, eqb-true, eq-eqb}
use Rattle.exact.specs.Plane.{or, pick, any, Vertex, spot, Tri, no_twice, all_numbers}
use Rattle.exact.proofs.Booleans.{bit, and_left, and_right}
use Rattle.exact.proofs.Lists.{In, any→, any←, count}
use Rattle.exact.proofs.Vertices.{Rot, rot₁, rot₂, rot₃}
use Rattle.exact.proofs.Algebra.IntegerTests.{above?, above?→, above?←}
use Rattle.exact.proofs.Geometry.Faces.{Triangle, rot_below, left_different}
use Rattle.exact.proofs.Statements.Tilings.{ProperTiling}
use Rattle.exact.proofs.Statements.Heights.{Heights, height, Above, above_either, above_trans, not_above_both, upside_down, above_down}
use Rattle.exact.proofs.Statements.Rising.{RisingAt, rising_once}
use Rattle.exact.proofs.Statements.Counting.{count_numbers}

-- ---- of three, a up from the first to the second, and so on round: two at least
abbrev majority : Bool → Bool → Bool → Bool
majority p q r = or (p && q) (or (r && p) (q && r))

abbrev middle_by : Bool → Bool → Bool → ℕ → ℕ → ℕ → ℕ
middle_by p q r a b c = pick (p && q) a (pick (r && p) b c)

majority_not : (p q r : Bool) → bit (majority p q r) + bit (majority (not p) (not q) (not r)) ≡ 1
majority_not true true true = refl
majority_not true true false = refl
majority_not true false true = refl
majority_not true false false = refl
majority_not false true true = refl
majority_not false true false = refl
majority_not false false true = refl
majority_not false false false = refl

module _ (vs : List Vertex) (up : Heights vs) where
  higher? : ℕ → ℕ → Bool
  higher? a b = above? (height vs up a -ℤ height vs up b)

  higher?→ : (a b : ℕ) → higher? a b ≡ true → Above vs up a b
  unfolding higher?
  higher?→ a b = above?→ (height vs up a -ℤ height vs up b)

  higher?← : (a b : ℕ) → Above vs up a b → higher? a b ≡ true
  unfolding higher?
  higher?← a b = above?← (height vs up a -ℤ height vs up b)

  not_higher?← : (a b : ℕ) → Above vs up b a → higher? a b ≡ false
  unfolding higher?
  not_higher?← a b h = false_from_ne_true (above? (height vs up a -ℤ height vs up b)) (λ e. not_above_both vs up a b (above?→ (height vs up a -ℤ height vs up b) e) h)

  pub rises? : Tri → Bool
  rises? t = majority (higher? t.two t.one) (higher? t.one t.three) (higher? t.three t.two)

  pub middle_corner : Tri → ℕ
  middle_corner t = middle_by (higher? t.two t.one) (higher? t.one t.three) (higher? t.three t.two) t.one t.two t.three

  pub rises→ : (ts : List Tri) (t : Tri) → In t ts → rises? t ≡ true → (w : RisingAt vs ts up (middle_corner t)) × (w.tri ≡ t)
  unfolding rises? middle_corner
  rises→ ts t i h = go (higher? t.two t.one) (higher? t.one t.three) (higher? t.three t.two) refl refl refl h
    where
      go : (p q r : Bool) → higher? t.two t.one ≡ p → higher? t.one t.three ≡ q → higher? t.three t.two ≡ r → majority p q r ≡ true →
          (w : RisingAt vs ts up (middle_by p q r t.one t.two t.three)) × (w.tri ≡ t)
      go true true r ep eq er m = (record { tri = t; here = i; high = t.two; low = t.three; turned = rot₁; above = higher?→ t.two t.one ep; below = higher?→ t.one t.three eq }, refl)
      go true false true ep eq er m = (record { tri = t; here = i; high = t.three; low = t.one; turned = rot₂; above = higher?→ t.three t.two er; below = higher?→ t.two t.one ep }, refl)
      go true false false ep eq er m = absurd (false≢true m)
      go false true true ep eq er m = (record { tri = t; here = i; high = t.one; low = t.two; turned = rot₃; above = higher?→ t.one t.three eq; below = higher?→ t.three t.two er }, refl)
      go false true false ep eq er m = absurd (false≢true m)
      go false false true ep eq er m = absurd (false≢true m)
      go false false false ep eq er m = absurd (false≢true m)

  pub rises← : (t : Tri) (m g h : ℕ) → Rot t m g h → Above vs up g m → Above vs up m h → (rises? t ≡ true) × (middle_corner t ≡ m)
  unfolding rises? middle_corner
  rises← t m g h rot₁ hg hh = rw (higher?← t.two t.one hg, higher?← t.one t.three hh) (refl, refl)
  rises← t m g h rot₂ hg hh = rw (higher?← t.two t.one hh, not_higher?← t.one t.three (above_trans vs up t.three t.two t.one hg hh), higher?← t.three t.two hg) (refl, refl)
  rises← t m g h rot₃ hg hh = rw (not_higher?← t.two t.one (above_trans vs up t.one t.three t.two hg hh), higher?← t.one t.three hg, higher?← t.three t.two hh) (refl, refl)

  -- ---- is there one that rises at m?
  pub has_rising? : List Tri → ℕ → Bool
  has_rising? ts m = any (λ t. rises? t && eqb m (middle_corner t)) ts

  pub has_rising→ : (ts : List Tri) (m : ℕ) → has_rising? ts m ≡ true → RisingAt vs ts up m
  unfolding has_rising?
  has_rising→ ts m h =
      let r = any→ (λ t. rises? t && eqb m (middle_corner t)) ts h in let t = r.0 in
      subst (λ (k : ℕ). RisingAt vs ts up k) (sym (eqb-true m (middle_corner t) (and_right (rises? t) (eqb m (middle_corner t)) r.2))) (rises→ ts t r.1 (and_left (rises? t) (eqb m (middle_corner t)) r.2)).0

  pub has_rising← : (ts : List Tri) (m : ℕ) → RisingAt vs ts up m → has_rising? ts m ≡ true
  unfolding has_rising?
  has_rising← ts m w =
      let t = w.tri in let r = rises← t m w.high w.low w.turned w.above w.below in
      any← (λ t. rises? t && eqb m (middle_corner t)) ts t w.here (and_from (rises? t) (eqb m (middle_corner t)) r.0 (eq-eqb m (middle_corner t) (sym r.1)))

pub count_rising : (vs : List Vertex) (ts : List Tri) → ProperTiling vs ts → no_twice ts ≡ true → (up : Heights vs) → count (rises? vs up) ts ≡ count (has_rising? vs up ts) (all_numbers vs)
unfolding has_rising?
count_rising vs ts T nt up = count_numbers (rises? vs up) (middle_corner vs up) (length vs) ts nt below once
  where
    below : (t : Tri) → In t ts → rises? vs up t ≡ true → middle_corner vs up t < length vs
    below t i h = let w = (rises→ vs up ts t i h).0 in rot_below vs w.tri (middle_corner vs up t) w.high w.low w.turned (T.triangle w.tri w.here)

    once : (t u : Tri) → In t ts → In u ts → rises? vs up t ≡ true → rises? vs up u ≡ true → middle_corner vs up t ≡ middle_corner vs up u → t ≡ u
    once t u i j p q e =
        let a = rises→ vs up ts t i p in
        let b : (w : RisingAt vs ts up (middle_corner vs up t)) × (w.tri ≡ u) = subst (λ (k : ℕ). (w : RisingAt vs ts up k) × (w.tri ≡ u)) (sym e) (rises→ vs up ts u j q) in
        sym a.1 ∙ rising_once vs ts T up (middle_corner vs up t) a.0 b.0 ∙ b.1

-- ---- each triangle rises, or it does so upside down
higher?_down : (vs : List Vertex) (up : Heights vs) (a b : ℕ) → a < length vs → b < length vs → ¬ (a ≡ b) → higher? vs (upside_down vs up) a b ≡ not (higher? vs up a b)
higher?_down vs up a b l m ne = elim (above_either vs up a b l m ne) [
  | inl h ↦ not_higher?← vs (upside_down vs up) a b (above_down vs up a b h) ∙ sym (ap not (higher?← vs up a b h))
  | inr h ↦ higher?← vs (upside_down vs up) a b (above_down vs up b a h) ∙ sym (ap not (not_higher?← vs up a b h))
]

pub rises_or_falls : (vs : List Vertex) → ((i : ℕ) → (spot vs i).w ≡ 1) → (up : Heights vs) (t : Tri) → Triangle vs t → bit (rises? vs up t) + bit (rises? vs (upside_down vs up) t) ≡ 1
unfolding rises?
rises_or_falls vs ones up t g =
    let one_below : t.one < length vs = omega (arith, g.least_two, g.two_below) in
    let d = left_different vs ones t.one t.two t.three g.turns_left in
    rw (higher?_down vs up t.two t.one g.two_below one_below (λ e. d.0 (sym e)), higher?_down vs up t.one t.three one_below g.three_below (λ e. d.2 (sym e)), higher?_down vs up t.three t.two g.three_below g.two_below (λ e. d.1 (sym e)))
    (majority_not (higher? vs up t.two t.one) (higher? vs up t.one t.three) (higher? vs up t.three t.two))
