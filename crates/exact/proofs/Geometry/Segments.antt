-- The test `on_segment`: on the segment and no end of it is strictly between the ends.
use Rattle.std.proofs.Common.{◌≡◌, ℕ, ◌*◌, ◌≤◌, Bool, true, false, ◌&&◌, leb, [], ◌∷◌, pos, ◌+ℤ◌, ◌-ℤ◌, ◌*ℤ◌, neg_ℤ, sym, refl, ap, ◌∙◌, ap₂, inl, inr, arith}
use Rattle.std.proofs.lemmas.Int.{ints}
use Rattle.exact.specs.Plane.{in_line, between, on_segment}
use Rattle.std.proofs.lemmas.Bool.{and_from, leb-true, le-leb}
use Rattle.exact.proofs.Booleans.{and_left, and_right, and3→, and3←, or→, or_left, or_right}
use Rattle.exact.proofs.Algebra.Ring.{ring}
use Rattle.exact.proofs.Algebra.Signs.{Sign, ◌⊙◌, ◌by◌, split, clash, cancel_neg}
use Rattle.exact.proofs.Geometry.Words.{X, Y, Δx, Δy, Site, Orient, Dist², Dot, Apart, Between, signs}
use Rattle.exact.proofs.Geometry.Identities.Dots.{dot_Δ, Δx_site, Δy_site}
use Rattle.exact.proofs.Geometry.Reading.{sites, geometry}
use Rattle.exact.proofs.Geometry.Tests.{in_line→, in_line←}
use Rattle.exact.proofs.Geometry.Triangles.{apart_swap}
use Rattle.exact.proofs.Geometry.Betweenness.{between_start_apart, beyond_dot}

-- ---- one coordinate: z is between a and b, the ends with them, if (a − z)(b − z) is not above 0
abbrev Opposite : ℕ → ℕ → ℕ → Type 0
Opposite a b z = Sign false (neg_ℤ ((pos a -ℤ pos z) *ℤ (pos b -ℤ pos z)))

between→ : (a b z : ℕ) → between a b z ≡ true → Opposite a b z
between→ a b z e = elim (or→ (leb a z && leb z b) (leb b z && leb z a) e) [
  | inl h ↦ rising (leb-true a z (and_left (leb a z) (leb z b) h)) (leb-true z b (and_right (leb a z) (leb z b) h))
  | inr h ↦ falling (leb-true b z (and_left (leb b z) (leb z a) h)) (leb-true z a (and_right (leb b z) (leb z a) h))
]
  where
    rising : a ≤ z → z ≤ b → Opposite a b z
    rising h l = let p : Sign false (neg_ℤ (pos a -ℤ pos z)) = omega (arith, ints) in let q : Sign false (pos b -ℤ pos z) = omega (arith, ints) in search signs

    falling : b ≤ z → z ≤ a → Opposite a b z
    falling h l = let p : Sign false (pos a -ℤ pos z) = omega (arith, ints) in let q : Sign false (neg_ℤ (pos b -ℤ pos z)) = omega (arith, ints) in search signs

between← : (a b z : ℕ) → Opposite a b z → between a b z ≡ true
between← a b z h = elim (split (pos a -ℤ pos z)) [
  | inl p ↦ elim (split (pos b -ℤ pos z)) [
    | inl q ↦ absurd (clash (p ⊙ q) h)
    | inr q ↦ falling (omega (arith, ints)) (omega (arith, ints))
  ]
  | inr p ↦ elim (split (neg_ℤ (pos b -ℤ pos z))) [
    | inl q ↦ elim (split (neg_ℤ (pos a -ℤ pos z))) [
      | inl r ↦ let m : Sign true ((pos a -ℤ pos z) *ℤ (pos b -ℤ pos z)) = search signs in absurd (clash m h)
      | inr r ↦ falling (omega (arith, ints)) (omega (arith, ints))
    ]
    | inr q ↦ rising (omega (arith, ints)) (omega (arith, ints))
  ]
]
  where
    falling : b ≤ z → z ≤ a → between a b z ≡ true
    falling l m = or_right (leb a z && leb z b) (leb b z && leb z a) (and_from (leb b z) (leb z a) (le-leb b z l) (le-leb z a m))

    rising : a ≤ z → z ≤ b → between a b z ≡ true
    rising l m = or_left (leb a z && leb z b) (leb b z && leb z a) (and_from (leb a z) (leb z b) (le-leb a z l) (le-leb z b m))

-- ---- both coordinates, by the product
dot_x : (z a b : Site) → Dist² z a *ℤ (Δx z.at a.at *ℤ Δx z.at b.at) ≡ Dot z a b *ℤ (Δx z.at a.at *ℤ Δx z.at a.at) -ℤ Δx z.at a.at *ℤ Δy z.at a.at *ℤ Orient a b z
dot_x z a b = ring (sites (z ∷ a ∷ b ∷ [])) (search geometry depth 20 fits 5000) refl

dot_y : (z a b : Site) → Dist² z a *ℤ (Δy z.at a.at *ℤ Δy z.at b.at) ≡ Dot z a b *ℤ (Δy z.at a.at *ℤ Δy z.at a.at) +ℤ Δx z.at a.at *ℤ Δy z.at a.at *ℤ Orient a b z
dot_y z a b = ring (sites (z ∷ a ∷ b ∷ [])) (search geometry depth 20 fits 5000) refl

times_one : (n w : ℕ) → w ≡ 1 → n * w ≡ n
times_one n w e = ap (λ (m : ℕ). n * m) e ∙ omega arith

module _ (a b z : Site) where
  abbrev x? : Bool
  x? = between (a.at.x * z.at.w) (b.at.x * z.at.w) z.at.x

  abbrev y? : Bool
  y? = between (a.at.y * z.at.w) (b.at.y * z.at.w) z.at.y

  -- z has w = 1
  x_is : x? ≡ between a.at.x b.at.x z.at.x
  x_is = ap₂ (λ (m n : ℕ). between m n z.at.x) (times_one a.at.x z.at.w z.whole) (times_one b.at.x z.at.w z.whole)

  y_is : y? ≡ between a.at.y b.at.y z.at.y
  y_is = ap₂ (λ (m n : ℕ). between m n z.at.y) (times_one a.at.y z.at.w z.whole) (times_one b.at.y z.at.w z.whole)

  Δx_is : Δx z.at a.at *ℤ Δx z.at b.at ≡ (pos a.at.x -ℤ pos z.at.x) *ℤ (pos b.at.x -ℤ pos z.at.x)
  unfolding X
  Δx_is = ap₂ ◌*ℤ◌ (Δx_site z a) (Δx_site z b)

  Δy_is : Δy z.at a.at *ℤ Δy z.at b.at ≡ (pos a.at.y -ℤ pos z.at.y) *ℤ (pos b.at.y -ℤ pos z.at.y)
  unfolding Y
  Δy_is = ap₂ ◌*ℤ◌ (Δy_site z a) (Δy_site z b)

  pub on_segment→ : on_segment a.at b.at z.at ≡ true → Apart a z → Apart b z → Between a b z
  on_segment→ e az bz =
      let t = and3→ (in_line a.at b.at z.at) x? y? e in
      let line = in_line→ a.at b.at z.at t.0 in
      let x₀ = between→ a.at.x b.at.x z.at.x (sym x_is ∙ t.1) by ap neg_ℤ Δx_is in let y₀ = between→ a.at.y b.at.y z.at.y (sym y_is ∙ t.2) by ap neg_ℤ Δy_is in
      let below : Sign false (neg_ℤ (Dot z a b)) = search signs by ap neg_ℤ (dot_Δ z.at a.at b.at) in
      elim (split (neg_ℤ (Dot z a b))) [
        | inl h ↦ record { on = line; opposite = h }
        | inr h ↦ absurd (clash (beyond_dot a b z line az bz (λ m. clash m.opposite h)) below)
      ]

  pub on_segment← : Between a b z → on_segment a.at b.at z.at ≡ true
  on_segment← h =
      let o = h.on in let d = h.opposite in let za = apart_swap a z (between_start_apart a b z h) in
      let x₀ : Sign false (neg_ℤ (Δx z.at a.at *ℤ Δx z.at b.at)) = cancel_neg (Δx z.at a.at *ℤ Δx z.at b.at) za (search signs by ap neg_ℤ (dot_x z a b)) in
      let y₀ : Sign false (neg_ℤ (Δy z.at a.at *ℤ Δy z.at b.at)) = cancel_neg (Δy z.at a.at *ℤ Δy z.at b.at) za (search signs by ap neg_ℤ (dot_y z a b)) in
      and3← (in_line a.at b.at z.at) x? y? (in_line← a.at b.at z.at o) (x_is ∙ between← a.at.x b.at.x z.at.x (x₀ by ap neg_ℤ (sym Δx_is))) (y_is ∙ between← a.at.y b.at.y z.at.y (y₀ by ap neg_ℤ (sym Δy_is)))
