-- A patch that fits keeps: turning round a vertex comes through all half edges that begin there.
use Rattle.std.proofs.Common.{◌≡◌, ℕ, zero, suc, ◌+◌, ◌<◌, ◌≤◌, sym, refl, ap, ◌∙◌, subst, inl, inr, suc-add, zero-add, arith, ⊎_elim}
use Rattle.std.proofs.lemmas.Bool.{cases_lt}
use Rattle.dcel.specs.Pairs.{Source, Target}
use Rattle.dcel.specs.Map.{Map, twin}
use Rattle.dcel.specs.Mesh.{Sound, Round, turns}
use Rattle.dcel.specs.Patch.{Patch}
use Rattle.dcel.proofs.Changes.{at_source, at_target, both, source?, target?, changed_off}
use Rattle.dcel.proofs.Fits.{IsPatched, Fits, Reach, stand_in, RoundFits}
use Rattle.dcel.proofs.Twins.{twin_twin}

turns_add : (n : Map) (j k x : ℕ) → turns n (j + k) x ≡ turns n k (turns n j x)
turns_add n zero k x = ap (λ (i : ℕ). turns n i x) (zero-add k)
turns_add n (suc j) k x = ap (λ (i : ℕ). turns n i x) (suc-add j k) ∙ turns_add n j k (twin (n.prev x))

pub reach_self : (n : Map) (x y : ℕ) → x ≡ y → Reach n x y
reach_self n x y q = (0, q)

pub reach_then : (n : Map) (x y z : ℕ) → Reach n x y → Reach n y z → Reach n x z
reach_then n x y z a b = (a.0 + b.0, turns_add n a.0 b.0 x ∙ ap (turns n b.0) a.1 ∙ b.1)

pub reach_after : (n : Map) (x y z : ℕ) → twin (n.prev x) ≡ y → Reach n y z → Reach n x z
reach_after n x y z q r = (suc r.0, ap (turns n r.0) q ∙ r.1)

pub reach_from : (n : Map) (x y x' y' : ℕ) → x ≡ x' → y ≡ y' → Reach n x' y' → Reach n x y
reach_from n x y x' y' p q r = (r.0, ap (turns n r.0) p ∙ r.1 ∙ sym q)

module _ (m n : Map) (S : Sound m) (R : Round m) (p : Patch) (d : IsPatched m n p) (w : Fits m n p) (u : RoundFits m n p) where
  abbrev π : ℕ → ℕ
  π = stand_in u.stands

  -- off the changed heads a half edge stands for itself, and so does the one that it turns to
  same : (x : ℕ) → (Target x p.links → ⊥) → π x ≡ x
  same x f = changed_off u.stands (λ y. y) x (λ k. f (at_source _ u.stands u.stand_fits x k).1.0)

  same_origin : (x : ℕ) → (Source x p.origins → ⊥) → π x ≡ x
  same_origin x f = changed_off u.stands (λ y. y) x (λ k. f (at_source _ u.stands u.stand_fits x k).1.2)

  same_turn : (x : ℕ) → x < m.half_edges → (Target x p.links → ⊥) → π (twin (m.prev x)) ≡ twin (m.prev x)
  same_turn x h f = changed_off u.stands (λ y. y) (twin (m.prev x)) (λ k.
      f (subst (λ y. Target y p.links) (ap m.next (twin_twin (m.prev x)) ∙ S.next_prev x h) (at_source _ u.stands u.stand_fits (twin (m.prev x)) k).1.1))

  step : (x : ℕ) → x < m.half_edges → Reach n (π x) (π (twin (m.prev x)))
  step x h = elim (target? x p.links) [
    | inl v ↦ (at_target _ p.links u.spins x v).1 h
    | inr f ↦ reach_from n _ _ x (twin (m.prev x)) (same x f) (same_turn x h f) (reach_after n x _ _ (ap twin (d.prev_off x f)) (reach_self n _ _ refl))
  ]

  lift : (k x : ℕ) → x < m.half_edges → Reach n (π x) (π (turns m k x))
  lift zero x h = reach_self n _ _ refl
  lift (suc k) x h = reach_then n _ (π (twin (m.prev x))) _ (step x h) (lift k (twin (m.prev x)) (S.twin_in _ (S.prev_in x h)))

  between : (x y : ℕ) → x < m.half_edges → y < m.half_edges → m.origin x ≡ m.origin y → Reach n (π x) (π y)
  between x y h l q = let r = R.round x y h l q in subst (λ z. Reach n (π x) (π z)) r.1 (lift r.0 x h)

  unmoved : (y : ℕ) → y < n.half_edges → (Source y p.origins → ⊥) → (y < m.half_edges) × (n.origin y ≡ m.origin y)
  unmoved y h f = elim (cases_lt y m.half_edges) [ inl o ↦ (o, d.origin_off y f) | inr o ↦ absurd (f (w.new_edge y (omega arith) h).3) ]

  ahead : (y : ℕ) → y < n.half_edges → n.origin y < m.vertices → (x : ℕ) × (x < m.half_edges) × (m.origin x ≡ n.origin y) × Reach n y (π x)
  ahead y h l = ⊎_elim by off (source? y p.origins)
    where
      by : Source y p.origins → (x : ℕ) × (x < m.half_edges) × (m.origin x ≡ n.origin y) × Reach n y (π x)
      by k = let x = at_source _ p.origins (both _ _ p.origins d.origin_at u.ahead) y k in
          let a = x.1.1 (subst (λ v. v < m.vertices) x.1.0 l) in (a.0, a.1, a.2 ∙ sym x.1.0, a.3)

      off : (Source y p.origins → ⊥) → (x : ℕ) × (x < m.half_edges) × (m.origin x ≡ n.origin y) × Reach n y (π x)
      off f = let o = unmoved y h f in (y, o.0, sym o.1, reach_self n _ _ (sym (same_origin y f)))

  behind : (y : ℕ) → y < n.half_edges → n.origin y < m.vertices → (x : ℕ) × (x < m.half_edges) × (m.origin x ≡ n.origin y) × Reach n (π x) y
  behind y h l = ⊎_elim by off (source? y p.origins)
    where
      by : Source y p.origins → (x : ℕ) × (x < m.half_edges) × (m.origin x ≡ n.origin y) × Reach n (π x) y
      by k = let x = at_source _ p.origins (both _ _ p.origins d.origin_at u.behind) y k in
          let a = x.1.1 (subst (λ v. v < m.vertices) x.1.0 l) in (a.0, a.1, a.2 ∙ sym x.1.0, a.3)

      off : (Source y p.origins → ⊥) → (x : ℕ) × (x < m.half_edges) × (m.origin x ≡ n.origin y) × Reach n (π x) y
      off f = let o = unmoved y h f in (y, o.0, sym o.1, reach_self n _ _ (same_origin y f))

  about : (y : ℕ) → y < n.half_edges → m.vertices ≤ n.origin y → Reach n y (n.out (n.origin y)) × Reach n (n.out (n.origin y)) y
  about y h l = ⊎_elim by off (source? y p.origins)
    where
      by : Source y p.origins → Reach n y (n.out (n.origin y)) × Reach n (n.out (n.origin y)) y
      by k = let x = at_source _ p.origins (both _ _ p.origins d.origin_at u.about) y k in
          subst (λ v. Reach n y (n.out v) × Reach n (n.out v) y) (sym x.1.0) (x.1.1 (subst (λ v. m.vertices ≤ v) x.1.0 l))

      off : (Source y p.origins → ⊥) → Reach n y (n.out (n.origin y)) × Reach n (n.out (n.origin y)) y
      off f = let o = unmoved y h f in absurd (omega (arith, o.1, S.origin_in y o.0))

  all_round : (y z : ℕ) → y < n.half_edges → z < n.half_edges → n.origin y ≡ n.origin z → Reach n y z
  all_round y z h l q = elim (cases_lt (n.origin y) m.vertices) [ inl o ↦ old o | inr o ↦ new (omega arith) ]
    where
      old : n.origin y < m.vertices → Reach n y z
      old o = let a = ahead y h o in let b = behind z l (omega arith) in reach_then n _ (π a.0) _ a.3 (reach_then n _ (π b.0) _ (between a.0 b.0 a.1 b.1 (a.2 ∙ q ∙ sym b.2)) b.3)

      new : m.vertices ≤ n.origin y → Reach n y z
      new o = reach_then n _ (n.out (n.origin y)) _ (about y h o).0 (subst (λ v. Reach n (n.out v) z) (sym q) (about z l (omega arith)).1)

  pub patched_round : Round n
  patched_round = record { round = all_round }

pub one_turn : (n : Map) (x y : ℕ) → twin (n.prev x) ≡ y → Reach n x y
one_turn n x y q = (1, q)

pub two_turns : (n : Map) (x y z : ℕ) → twin (n.prev x) ≡ y → twin (n.prev y) ≡ z → Reach n x z
two_turns n x y z p q = reach_after n x y z p (one_turn n y z q)
