-- The list f 1, f 2, .., f (n − 1): what is in it.
use Rattle.std.proofs.Common.{◌≡◌, ℕ, suc, ◌-◌, ◌<◌, List, subst, arith}
use Rattle.exact.specs.Plane.{each, up_to}
use Rattle.exact.proofs.Lists.{In, in_each, each_in, up_to→, up_to←}

module _ {A : Type 0} (f : ℕ → A) (n : ℕ) where
  abbrev pub numbered : List A
  numbered = each (λ i. f (suc i)) (up_to (n - 1))

  pub numbered← : (k : ℕ) → 0 < k → k < n → In (f k) numbered
  numbered← k l h =
      let back : suc (k - 1) ≡ k = omega arith in
      subst (λ (i : ℕ). In (f i) numbered) back (in_each (λ i. f (suc i)) (up_to (n - 1)) (k - 1) (up_to← (n - 1) (k - 1) (omega arith)))

  pub numbered→ : (a : A) → In a numbered → (k : ℕ) × (0 < k) × (k < n) × (a ≡ f k)
  numbered→ a i =
      let r = each_in (λ i. f (suc i)) (up_to (n - 1)) a i in
      (suc r.0, omega arith, omega (arith, up_to→ (n - 1) r.0 r.1), r.2)
