-- The machine's memory starts with zeros, keeps its length, and its numbers stay below 2^64, whatever is said.
use Rattle.std.proofs.Common.{◌≡◌, ℕ, zero, suc, ◌+◌, ◌<◌, ◌≤◌, true, ◌&&◌, eqb, ltb, List, [], ◌∷◌, length, Some, None, Option, sym, refl, subst, arith}
use Rattle.exact.specs.Plane.{every}
use Rattle.std.proofs.lemmas.Bool.{and_from, ltb-true, lt-ltb}
use Rattle.exact.proofs.Booleans.{and_left, and_right}
use Rattle.dcel.specs.Layout.{Size, header, total}
use Rattle.dcel.specs.Memory.{cell, faces_in}
use Rattle.dcel.proofs.Steady.Writes.{Keeping}
use Rattle.dcel.proofs.Steady.Surgeries.{counted, cleared_keeps}
use Rattle.dcel.proofs.Steady.Instances.{AllBelow, length_keeping, below_keeping}
use Rattle.delaunay.specs.Insert.{inserted, inserted_number}
use Rattle.delaunay.proofs.PointLocation.Tests.{picked}
use Rattle.delaunay.proofs.Steady.Listing.{either_way}
use Rattle.delaunay.proofs.Steady.Insertion.{inserted_keeps}
use Rattle.triangles.specs.House.{Command, insert, remove, locate, nearest, all_faces, around, hull, clear}
use Rattle.triangles.specs.Promise.{Event, said, next, Step, Steady, all_small}
use Rattle.triangles.specs.Machine.{mode, cursor, listing, at_end, told_number, small_enough, next_face, put_in, said_step, going_on, machine_step, zeros, machine}
use Rattle.triangles.proofs.Promises.Clearing.{zeros_long}

-- memory is not too long, and coordinates are words
pub record Moderate (s : Size) : Type 0 where
  pub short : total s ≤ 1048576
  pub coordinates_few : s.coordinates ≤ 18446744073709551616

-- ---- the start
every_zero : (n : ℕ) → every (λ m. eqb m 0) (zeros n) ≡ true
unfolding zeros every
every_zero zero = refl
every_zero (suc n) = every_zero n

-- ---- a step keeps what the writing of words keeps, if the numbers that are let in are words
module _ (s : Size) (P : List ℕ → Type 0) (W : ℕ → Type 0) (K : Keeping s P W) (enters : (a b d : ℕ) → small_enough s a b d ≡ true → W a × W b × W d) where
  abbrev Kept : Step → Type 0
  Kept t = P t.memory

  end_keeps : (m : List ℕ) → P m → P (at_end s m)
  end_keeps m p = K.written header mode p (K.few (omega arith))

  next_face_keeps : (m : List ℕ) (i : ℕ) → P m → Kept (next_face s m i)
  unfolding next_face
  next_face_keeps m i p = picked Kept (ltb (i + 1) (faces_in s m)) _ _
      (λ e. K.written header cursor (K.written header mode p (K.few (omega arith))) (K.few (omega (arith, ltb-true (i + 1) (faces_in s m) e, (counted s m).faces_few)))) (λ e. end_keeps m p)

  put_in_keeps : (m : List ℕ) (a b d : ℕ) → P m → Kept (put_in s m a b d)
  unfolding put_in
  put_in_keeps m a b d p = picked Kept (small_enough s a b d) _ _ (λ e. by (inserted_number s m a b) (enters a b d e)) (λ e. p)
    where
      by : (o : Option ℕ) → W a × W b × W d → Kept (told_number s m o (inserted s m a b d))
      by None w = p
      by (Some v) w = end_keeps (inserted s m a b d) (inserted_keeps s P W K m p a b d w.0 w.1 w.2)

  said_keeps : (m : List ℕ) (c : Command) → P m → Kept (said_step s m c)
  said_keeps m (insert a b d) p = put_in_keeps m a b d p
  said_keeps m (remove i) p = p
  said_keeps m (locate a b) p = p
  said_keeps m (nearest a b) p = p
  said_keeps m all_faces p = next_face_keeps m 0 p
  said_keeps m (around i) p = p
  said_keeps m hull p = p
  said_keeps m clear p = end_keeps _ (cleared_keeps s P W K m p)

  going_on_keeps : (m : List ℕ) → P m → Kept (going_on s m)
  unfolding going_on
  going_on_keeps m p = either_way Kept (eqb (cell s header m mode) listing) _ _ (next_face_keeps m (cell s header m cursor) p) p

  step_keeps : (m : List ℕ) (ev : Event) → P m → Kept (machine_step s m ev)
  unfolding machine_step
  step_keeps m (said c) p = said_keeps m c p
  step_keeps m next p = going_on_keeps m p

-- ---- words below a limit, by a test and by a type
module _ (limit : ℕ) where
  below→ : (m : List ℕ) → every (λ v. ltb v limit) m ≡ true → AllBelow limit m
  unfolding every
  below→ [] e = tt
  below→ (x ∷ m) e = (ltb-true x limit (and_left (ltb x limit) _ e), below→ m (and_right (ltb x limit) _ e))

  below← : (m : List ℕ) → AllBelow limit m → every (λ v. ltb v limit) m ≡ true
  unfolding every
  below← [] h = refl
  below← (x ∷ m) h = and_from (ltb x limit) _ (lt-ltb x limit h.0) (below← m h.1)

step_length : (s : Size) (m : List ℕ) (ev : Event) → length (machine_step s m ev).memory ≡ length m
step_length s m ev = step_keeps s _ _ (length_keeping s (length m)) (λ a b d e. (tt, tt, tt)) m ev refl

module _ (s : Size) (h : Moderate s) where
  entering : (a b d : ℕ) → small_enough s a b d ≡ true → (a < 18446744073709551616) × (b < 18446744073709551616) × (d < 18446744073709551616)
  entering a b d e =
      let ab = and_left (ltb a s.coordinates && ltb b s.coordinates) (ltb d 18446744073709551616) e in
      let la : a < s.coordinates = ltb-true a s.coordinates (and_left (ltb a s.coordinates) (ltb b s.coordinates) ab) in
      let lb : b < s.coordinates = ltb-true b s.coordinates (and_right (ltb a s.coordinates) (ltb b s.coordinates) ab) in
      (omega arith, omega arith, ltb-true d 18446744073709551616 (and_right (ltb a s.coordinates && ltb b s.coordinates) (ltb d 18446744073709551616) e))

  step_small : (m : List ℕ) (ev : Event) → all_small m ≡ true → all_small (machine_step s m ev).memory ≡ true
  unfolding all_small
  step_small m ev e =
      below← 18446744073709551616 _ (step_keeps s _ _ (below_keeping 18446744073709551616 s (omega arith) (omega arith)) entering m ev (below→ 18446744073709551616 m e))

pub machine_steady : (s : Size) → Moderate s → Steady (machine s)
unfolding Steady machine
machine_steady s h =
    (subst (λ (n : ℕ). n ≤ 1048576) (sym (zeros_long (total s))) h.short, every_zero (total s), λ m ev. (step_length s m ev, step_small s h m ev))
