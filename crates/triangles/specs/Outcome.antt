-- The acts that outcomes stand for.
use Rattle.std.specs.Prelude.{[], ◌∷◌, Result, Ok, Err}
use Rattle.triangles.specs.Promise.{Act, shows, done, refused}
use Rattle.triangles.specs.Entry.{number_of}
use Rattle.triangles.specs.declared.refusal.Refusal.{Refusal}
use Rattle.triangles.specs.declared.machine.Outcome.{Outcome}
use Rattle.triangles.specs.declared.machine.Outcome.TheVariants.{One, Three, Done}

abbrev pub shown : Outcome → Act
shown (One a) = shows (a ∷ [])
shown (Three a b c) = shows (a ∷ b ∷ c ∷ [])
shown Done = done

abbrev pub act_of : Result Outcome Refusal → Act
act_of (Ok o) = shown o
act_of (Err why) = refused (number_of why)
