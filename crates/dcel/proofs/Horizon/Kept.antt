-- What a surgery leaves as it was: a half edge of an inner face, its neighbours and its face.
use Rattle.std.proofs.Common.{◌≡◌, ℕ, ◌∙◌}
use Rattle.dcel.specs.Map.{Map}

pub record Kept (m n : Map) (x : ℕ) : Type 0 where
  pub next_kept : n.next x ≡ m.next x
  pub prev_kept : n.prev x ≡ m.prev x
  pub face_kept : n.face x ≡ m.face x

pub kept_twice : {l m n : Map} {x : ℕ} → Kept l m x → Kept m n x → Kept l n x
kept_twice f g = record { next_kept = g.next_kept ∙ f.next_kept; prev_kept = g.prev_kept ∙ f.prev_kept; face_kept = g.face_kept ∙ f.face_kept }
