-- The hull of a list of vertices by signs: a place is in it if it is left of or on each line i → j that has all vertices so.
use Rattle.std.proofs.Common.{◌≡◌, ℕ, ◌<◌, Bool, true, false, not, eqb, ◌⊎◌, List, length, refl, subst, inl, inr}
use Rattle.exact.specs.Plane.{or, every, Point, Vertex, vertex_at, spot, right_of, in_hull, all_left, all_numbers}
use Rattle.std.proofs.lemmas.Bool.{not-true, not_from_false, eqb-true}
use Rattle.exact.proofs.Booleans.{true_false, or→, or_left, or_right}
use Rattle.exact.proofs.Lists.{every→, every←, up_to←}
use Rattle.exact.proofs.Vertices.{vertex_in, vertex_number}
use Rattle.exact.proofs.Algebra.Signs.{Sign}
use Rattle.exact.proofs.Geometry.Words.{orient}
use Rattle.exact.proofs.Geometry.Tests.{not_right→, not_right←}

module _ (vs : List Vertex) where
  abbrev pub AllLeft : ℕ → ℕ → Type 0
  AllLeft i j = (k : ℕ) → k < length vs → Sign false (orient (spot vs i) (spot vs j) (spot vs k))

  abbrev not_right : ℕ → ℕ → Vertex → Bool
  not_right i j v = not (right_of (spot vs i) (spot vs j) v.at)

  pub all_left→ : (i j : ℕ) → all_left vs i j ≡ true → AllLeft i j
  all_left→ i j h k l = not_right→ (spot vs i) (spot vs j) (spot vs k) (not-true (right_of (spot vs i) (spot vs j) (spot vs k)) (every→ (not_right i j) vs h (vertex_at vs k) (vertex_in vs k l)))

  pub all_left← : (i j : ℕ) → AllLeft i j → all_left vs i j ≡ true
  all_left← i j h = every← (not_right i j) vs (λ v m.
      let r = vertex_number vs v m in
      subst (λ (u : Vertex). not_right i j u ≡ true) r.2 (not_from_false (right_of (spot vs i) (spot vs j) (spot vs r.0)) (not_right← (spot vs i) (spot vs j) (spot vs r.0) (h r.0 r.1))))

  module _ (x : Point) where
    abbrev fits : ℕ → ℕ → Bool
    fits i j = or (or (eqb i j) (not (all_left vs i j))) (not (right_of (spot vs i) (spot vs j) x))

    pub in_hull→ : in_hull vs x ≡ true → (i j : ℕ) → i < length vs → j < length vs → ¬ (i ≡ j) → AllLeft i j → Sign false (orient (spot vs i) (spot vs j) x)
    in_hull→ h i j l m ne all = go (or→ (or (eqb i j) (not (all_left vs i j))) (not (right_of (spot vs i) (spot vs j) x))
        (every→ (fits i) (all_numbers vs) (every→ (λ i. every (fits i) (all_numbers vs)) (all_numbers vs) h i (up_to← (length vs) i l)) j (up_to← (length vs) j m)))
      where
        go : (or (eqb i j) (not (all_left vs i j)) ≡ true) ⊎ (not (right_of (spot vs i) (spot vs j) x) ≡ true) → Sign false (orient (spot vs i) (spot vs j) x)
        go (inr e) = not_right→ (spot vs i) (spot vs j) x (not-true (right_of (spot vs i) (spot vs j) x) e)
        go (inl e) = elim (or→ (eqb i j) (not (all_left vs i j)) e) [
          | inl f ↦ absurd (ne (eqb-true i j f))
          | inr f ↦ absurd (true_false (all_left vs i j) (all_left← i j all) (not-true (all_left vs i j) f))
        ]

    pub in_hull← : ((i j : ℕ) → AllLeft i j → Sign false (orient (spot vs i) (spot vs j) x)) → in_hull vs x ≡ true
    in_hull← h = every← (λ i. every (fits i) (all_numbers vs)) (all_numbers vs) (λ i _. every← (fits i) (all_numbers vs) (λ j _. go i j (all_left vs i j) refl))
      where
        go : (i j : ℕ) (b : Bool) → all_left vs i j ≡ b → or (or (eqb i j) (not b)) (not (right_of (spot vs i) (spot vs j) x)) ≡ true
        go i j false e = or_left (or (eqb i j) true) (not (right_of (spot vs i) (spot vs j) x)) (or_right (eqb i j) true refl)
        go i j true e = or_right (or (eqb i j) false) (not (right_of (spot vs i) (spot vs j) x)) (not_from_false (right_of (spot vs i) (spot vs j) x) (not_right← (spot vs i) (spot vs j) x (h i j (all_left→ i j e))))
