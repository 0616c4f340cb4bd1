-- A step told to the world outside: which memories and rows fit, and what the writes to a lent row leave.
use Rattle.std.proofs.Common.{Result, Err, ◌≡◌, ℕ, ◌≤◌, true, false, List, [], ◌∷◌, ◌++◌, length, drop, set, refl, arith}
use Rattle.std.proofs.lemmas.List.{length-replicate, set_split}
use Rattle.std.proofs.lemmas.List.Edits.{sets-eq}
use Rattle.std.proofs.lemmas.Bool.Decides.{nat_tests}
use Rattle.dcel.specs.Layout.{real, total}
use Rattle.triangles.specs.Machine.{machine, machine_step, zeros}
use Rattle.triangles.specs.Entry.{own, step_fits, StepSays, ActTold, event_of}
use Rattle.triangles.specs.Promise.{Act, refused}
use Rattle.triangles.specs.Entry.{number_of}
use Rattle.triangles.specs.declared.Told.{Told}
use Rattle.triangles.specs.declared.refusal.Refusal.{Refusal}
use Rattle.triangles.specs.declared.refusal.Refusal.TheVariants.{Unfit}

-- ---- rows
pub one_set : (out : List ℕ) (a : ℕ) → 4 ≤ length out → set out 0 a ≡ (a ∷ []) ++ drop 1 out
one_set out a h = set_split out 0 a (omega arith)

pub three_set : (out : List ℕ) (a b c : ℕ) → 4 ≤ length out → set (set (set out 0 a) 1 b) 2 c ≡ (a ∷ b ∷ c ∷ []) ++ drop 3 out
three_set out a b c h = sets-eq (a ∷ b ∷ c ∷ []) out 0 (omega arith)

-- ---- refusals
pub refused_told : (a : Act) (why : Refusal) (out : List ℕ) → refused (number_of why) ≡ a → ActTold a (Err why) out out
unfolding ActTold
refused_told a why out e = rw (← e) ((why, refl, refl), refl)

-- ---- memories
zeros_length : (n : ℕ) → length (zeros n) ≡ n
unfolding zeros
zeros_length n = length-replicate n 0

start_length : length own.start ≡ total real
unfolding own machine
start_length = zeros_length (total real)

module _ (m : List ℕ) (kind : ℕ) (out : List ℕ) where
  fits : length m ≡ total real → kind ≤ 8 → 4 ≤ length out → step_fits m kind out ≡ true
  unfolding step_fits
  fits h k o = let e = start_length in grind (arith, nat_tests)

  fits_not : (length m ≡ total real → kind ≤ 8 → 4 ≤ length out → ⊥) → step_fits m kind out ≡ false
  unfolding step_fits
  fits_not h = let e = start_length in grind (arith, nat_tests)

  pub says_no : (a b c : ℕ) → (length m ≡ total real → kind ≤ 8 → 4 ≤ length out → ⊥) → StepSays m kind a b c out (step_fits m kind out) (Err Unfit) m out
  unfolding StepSays
  says_no a b c h = rw (fits_not h) (refl, refl, refl)

  pub says_yes : (a b c : ℕ) (r : Result Told Refusal) (m₁ out₁ : List ℕ) → length m ≡ total real → kind ≤ 8 → 4 ≤ length out →
      m₁ ≡ (machine_step real m (event_of kind a b c)).memory → ActTold (machine_step real m (event_of kind a b c)).act r out out₁ →
      StepSays m kind a b c out (step_fits m kind out) r m₁ out₁
  unfolding StepSays own machine
  says_yes a b c r m₁ out₁ h k o e t = rw (fits h k o) (e, t)
