-- A site on a line has two sides: what is across it from the same site is not across it from each other.
use Rattle.std.proofs.Common.{true, ◌⊎◌, ℤ, ◌-ℤ◌, inl, inr, arith}
use Rattle.std.proofs.lemmas.Int.{ints}
use Rattle.exact.proofs.Algebra.Signs.{Sign}
use Rattle.exact.proofs.Geometry.Words.{Site, On, Apart, Between}
use Rattle.exact.proofs.Geometry.LineOrder.{Along, between_order}

-- o is between u and v, of integers
abbrev Across : ℤ → ℤ → ℤ → Type 0
Across u v o = (Sign true (o -ℤ u) × Sign true (v -ℤ o)) ⊎ (Sign true (o -ℤ v) × Sign true (u -ℤ o))

two_sides : (x y z o : ℤ) → Across x z o → Across y z o → Across x y o → ⊥
two_sides x y z o (inl (p, q)) (inl (r, s)) (inl (t, u)) = omega (arith, ints)
two_sides x y z o (inl (p, q)) (inl (r, s)) (inr (t, u)) = omega (arith, ints)
two_sides x y z o (inl (p, q)) (inr (r, s)) k = omega (arith, ints)
two_sides x y z o (inr (p, q)) (inl (r, s)) k = omega (arith, ints)
two_sides x y z o (inr (p, q)) (inr (r, s)) (inl (t, u)) = omega (arith, ints)
two_sides x y z o (inr (p, q)) (inr (r, s)) (inr (t, u)) = omega (arith, ints)

pub not_across : (a b : Site) → Apart a b → (x y z o : Site) → On a b x → On a b y → On a b o → Between x z o → Between y z o → Between x y o → ⊥
not_across a b ab x y z o ox oy oo xz yz xy = two_sides (Along a b x) (Along a b y) (Along a b z) (Along a b o) (between_order a b ab x z o ox oo xz) (between_order a b ab y z o oy oo yz) (between_order a b ab x y o ox oo xy)
