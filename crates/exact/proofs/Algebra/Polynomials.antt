-- Polynomials over ℤ in a normal form, and their values. `layer h t` is h + X · t, where X is the first variable and h has only the others.
-- Zeros are pruned everywhere, so a polynomial whose value is always 0 computes to `none`.
use Rattle.std.proofs.Common.{◌≡◌, zero, suc, List, [], ◌∷◌, ℤ, pos, negsuc, ◌+ℤ◌, ◌-ℤ◌, ◌*ℤ◌, neg_ℤ, sym, refl, ap, ◌∙◌, ap₂, arith}
use Rattle.std.proofs.Math.IntN.{+ℤ_assoc, +ℤ_idl, +ℤ_idr, *ℤ_comm, zero-*ℤ, *ℤ-zero}
use Rattle.std.proofs.lemmas.Int.{ints}
use Rattle.exact.proofs.Algebra.Integers.{*ℤ_assoc, *ℤ-+ℤ, +ℤ-*ℤ, +ℤ_exchange}

pub data Polynomial : Type 0 where
  none : Polynomial
  number : ℤ → Polynomial
  layer : Polynomial → Polynomial → Polynomial

abbrev pub first : List ℤ → ℤ
first [] = pos 0
first (v ∷ ρ) = v

abbrev pub rest : List ℤ → List ℤ
rest [] = []
rest (v ∷ ρ) = ρ

abbrev pub eval : Polynomial → List ℤ → ℤ
eval none ρ = pos 0
eval (number c) ρ = c
eval (layer h t) ρ = eval h (rest ρ) +ℤ first ρ *ℤ eval t ρ

-- the constructors with zeros pruned
abbrev pub as_number : ℤ → Polynomial
as_number (pos zero) = none
as_number (pos (suc n)) = number (pos (suc n))
as_number (negsuc n) = number (negsuc n)

abbrev pub as_layer : Polynomial → Polynomial → Polynomial
as_layer none none = none
as_layer none (number c) = layer none (number c)
as_layer none (layer h t) = layer none (layer h t)
as_layer (number a) none = number a
as_layer (number a) (number c) = layer (number a) (number c)
as_layer (number a) (layer h t) = layer (number a) (layer h t)
as_layer (layer h t) q = layer (layer h t) q

abbrev pub add_number : ℤ → Polynomial → Polynomial
add_number a none = as_number a
add_number a (number b) = as_number (a +ℤ b)
add_number a (layer h t) = as_layer (add_number a h) t

abbrev pub add : Polynomial → Polynomial → Polynomial
add none q = q
add (number a) q = add_number a q
add (layer h t) none = layer h t
add (layer h t) (number b) = as_layer (add h (number b)) t
add (layer h t) (layer h' t') = as_layer (add h h') (add t t')

abbrev pub scale : ℤ → Polynomial → Polynomial
scale a none = none
scale a (number b) = as_number (a *ℤ b)
scale a (layer h t) = as_layer (scale a h) (scale a t)

-- f on each coefficient of the first variable
abbrev pub each_coefficient : (Polynomial → Polynomial) → Polynomial → Polynomial
each_coefficient f none = none
each_coefficient f (number b) = as_layer (f (number b)) none
each_coefficient f (layer h t) = as_layer (f h) (each_coefficient f t)

abbrev pub multiply : Polynomial → Polynomial → Polynomial
multiply none q = none
multiply (number a) q = scale a q
multiply (layer h t) q = add (each_coefficient (λ r. multiply h r) q) (as_layer none (multiply t q))

-- ---- values
plus_zero : (a v : ℤ) → a ≡ a +ℤ v *ℤ pos 0
plus_zero a v = sym (ap (λ (z : ℤ). a +ℤ z) (*ℤ-zero v) ∙ +ℤ_idr a)

pub eval_as_number : (c : ℤ) (ρ : List ℤ) → eval (as_number c) ρ ≡ c
eval_as_number (pos zero) ρ = refl
eval_as_number (pos (suc n)) ρ = refl
eval_as_number (negsuc n) ρ = refl

eval_as_layer : (h t : Polynomial) (ρ : List ℤ) → eval (as_layer h t) ρ ≡ eval h (rest ρ) +ℤ first ρ *ℤ eval t ρ
eval_as_layer none none ρ = plus_zero (pos 0) (first ρ)
eval_as_layer none (number c) ρ = refl
eval_as_layer none (layer h t) ρ = refl
eval_as_layer (number a) none ρ = plus_zero a (first ρ)
eval_as_layer (number a) (number c) ρ = refl
eval_as_layer (number a) (layer h t) ρ = refl
eval_as_layer (layer h t) q ρ = refl

eval_add_number : (a : ℤ) (p : Polynomial) (ρ : List ℤ) → eval (add_number a p) ρ ≡ a +ℤ eval p ρ
eval_add_number a none ρ = eval_as_number a ρ ∙ sym (+ℤ_idr a)
eval_add_number a (number b) ρ = eval_as_number (a +ℤ b) ρ
eval_add_number a (layer h t) ρ = eval_as_layer (add_number a h) t ρ ∙ ap (λ (z : ℤ). z +ℤ first ρ *ℤ eval t ρ) (eval_add_number a h (rest ρ)) ∙ +ℤ_assoc a (eval h (rest ρ)) (first ρ *ℤ eval t ρ)

+ℤ_right_comm : (a b c : ℤ) → (a +ℤ b) +ℤ c ≡ (a +ℤ c) +ℤ b
+ℤ_right_comm a b c = omega (arith, ints)

pub eval_add : (p q : Polynomial) (ρ : List ℤ) → eval (add p q) ρ ≡ eval p ρ +ℤ eval q ρ
eval_add none q ρ = sym (+ℤ_idl (eval q ρ))
eval_add (number a) q ρ = eval_add_number a q ρ
eval_add (layer h t) none ρ = sym (+ℤ_idr (eval h (rest ρ) +ℤ first ρ *ℤ eval t ρ))
eval_add (layer h t) (number b) ρ = eval_as_layer (add h (number b)) t ρ ∙ ap (λ (z : ℤ). z +ℤ first ρ *ℤ eval t ρ) (eval_add h (number b) (rest ρ)) ∙ +ℤ_right_comm (eval h (rest ρ)) b (first ρ *ℤ eval t ρ)
eval_add (layer h t) (layer h' t') ρ =
    eval_as_layer (add h h') (add t t') ρ
    ∙ ap₂ ◌+ℤ◌ (eval_add h h' (rest ρ)) (ap (λ (z : ℤ). first ρ *ℤ z) (eval_add t t' ρ) ∙ *ℤ-+ℤ (first ρ) (eval t ρ) (eval t' ρ))
    ∙ +ℤ_exchange (eval h (rest ρ)) (eval h' (rest ρ)) (first ρ *ℤ eval t ρ) (first ρ *ℤ eval t' ρ)

*ℤ_left_comm : (a b c : ℤ) → a *ℤ (b *ℤ c) ≡ b *ℤ (a *ℤ c)
*ℤ_left_comm a b c = sym (*ℤ_assoc a b c) ∙ ap (λ (z : ℤ). z *ℤ c) (*ℤ_comm a b) ∙ *ℤ_assoc b a c

eval_scale : (a : ℤ) (p : Polynomial) (ρ : List ℤ) → eval (scale a p) ρ ≡ a *ℤ eval p ρ
eval_scale a none ρ = sym (*ℤ-zero a)
eval_scale a (number b) ρ = eval_as_number (a *ℤ b) ρ
eval_scale a (layer h t) ρ =
    eval_as_layer (scale a h) (scale a t) ρ
    ∙ ap₂ ◌+ℤ◌ (eval_scale a h (rest ρ)) (ap (λ (z : ℤ). first ρ *ℤ z) (eval_scale a t ρ) ∙ *ℤ_left_comm (first ρ) a (eval t ρ))
    ∙ sym (*ℤ-+ℤ a (eval h (rest ρ)) (first ρ *ℤ eval t ρ))

eval_each_coefficient : (f : Polynomial → Polynomial) (c : List ℤ → ℤ) → ((q : Polynomial) (ρ : List ℤ) → eval (f q) ρ ≡ c ρ *ℤ eval q ρ) → (q : Polynomial) (ρ : List ℤ) → eval (each_coefficient f q) ρ ≡ c (rest ρ) *ℤ eval q ρ
eval_each_coefficient f c e none ρ = sym (*ℤ-zero (c (rest ρ)))
eval_each_coefficient f c e (number b) ρ = eval_as_layer (f (number b)) none ρ ∙ sym (plus_zero (eval (f (number b)) (rest ρ)) (first ρ)) ∙ e (number b) (rest ρ)
eval_each_coefficient f c e (layer h t) ρ =
    eval_as_layer (f h) (each_coefficient f t) ρ
    ∙ ap₂ ◌+ℤ◌ (e h (rest ρ)) (ap (λ (z : ℤ). first ρ *ℤ z) (eval_each_coefficient f c e t ρ) ∙ *ℤ_left_comm (first ρ) (c (rest ρ)) (eval t ρ))
    ∙ sym (*ℤ-+ℤ (c (rest ρ)) (eval h (rest ρ)) (first ρ *ℤ eval t ρ))

pub eval_multiply : (p q : Polynomial) (ρ : List ℤ) → eval (multiply p q) ρ ≡ eval p ρ *ℤ eval q ρ
eval_multiply none q ρ = sym (zero-*ℤ (eval q ρ))
eval_multiply (number a) q ρ = eval_scale a q ρ
eval_multiply (layer h t) q ρ =
    eval_add (each_coefficient (λ r. multiply h r) q) (as_layer none (multiply t q)) ρ
    ∙ ap₂ ◌+ℤ◌ (eval_each_coefficient (λ r. multiply h r) (λ σ. eval h σ) (λ r σ. eval_multiply h r σ) q ρ)
    (eval_as_layer none (multiply t q) ρ ∙ +ℤ_idl (first ρ *ℤ eval (multiply t q) ρ) ∙ ap (λ (z : ℤ). first ρ *ℤ z) (eval_multiply t q ρ) ∙ sym (*ℤ_assoc (first ρ) (eval t ρ) (eval q ρ)))
    ∙ sym (+ℤ-*ℤ (eval h (rest ρ)) (first ρ *ℤ eval t ρ) (eval q ρ))

times_one : (v : ℤ) → v *ℤ pos 1 ≡ v
times_one v = omega (arith, ints)

abbrev pub subtract : Polynomial → Polynomial → Polynomial
subtract p q = add p (scale (negsuc 0) q)

minus_one_times : (v : ℤ) → negsuc 0 *ℤ v ≡ neg_ℤ v
minus_one_times v = omega (arith, ints)

pub eval_subtract : (p q : Polynomial) (ρ : List ℤ) → eval (subtract p q) ρ ≡ eval p ρ -ℤ eval q ρ
eval_subtract p q ρ = eval_add p (scale (negsuc 0) q) ρ ∙ ap (λ (z : ℤ). eval p ρ +ℤ z) (eval_scale (negsuc 0) q ρ ∙ minus_one_times (eval q ρ))

-- ---- the first variable, and a polynomial in the later ones
abbrev pub variable : Polynomial
variable = layer none (number (pos 1))

pub eval_variable : (v : ℤ) (ρ : List ℤ) → eval variable (v ∷ ρ) ≡ v
eval_variable v ρ = +ℤ_idl (v *ℤ pos 1) ∙ times_one v

abbrev pub later : Polynomial → Polynomial
later none = none
later (number c) = number c
later (layer h t) = layer (layer h t) none

pub eval_later : (p : Polynomial) (v : ℤ) (ρ : List ℤ) → eval (later p) (v ∷ ρ) ≡ eval p ρ
eval_later none v ρ = refl
eval_later (number c) v ρ = refl
eval_later (layer h t) v ρ = sym (plus_zero (eval (layer h t) ρ) v)
