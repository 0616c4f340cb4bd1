-- Lists of vertices with one more at the end, with one in another's place, and without the last.
use Rattle.std.proofs.Common.{◌≡◌, ℕ, zero, suc, ◌<◌, Bool, true, false, List, [], ◌∷◌, ◌++◌, length, refl, ap, arith}
use Rattle.exact.specs.Plane.{every, any, Vertex, vertex_at}
use Rattle.std.proofs.lemmas.Bool.{and_from}
use Rattle.exact.proofs.Booleans.{and_left, and_right, or_false→, or_false←}
use Rattle.triangles.specs.House.{set_nth, all_but_last}

-- ---- a list by its last vertex
pub set_last : (vs : List Vertex) (u x : Vertex) → set_nth (vs ++ u ∷ []) (length vs) x ≡ vs ++ x ∷ []
unfolding set_nth
set_last [] u x = refl
set_last (v ∷ vs) u x = ap (λ (l : List Vertex). v ∷ l) (set_last vs u x)

pub but_last : (vs : List Vertex) (u : Vertex) → all_but_last (vs ++ u ∷ []) ≡ vs
unfolding all_but_last
but_last [] u = refl
but_last (v ∷ []) u = refl
but_last (v ∷ w ∷ vs) u = ap (λ (l : List Vertex). v ∷ l) (but_last (w ∷ vs) u)

-- ---- tests of all and of some, at a list with one more at its end, and with one in another's place
module _ (f : Vertex → Bool) where
  pub none_snoc← : (vs : List Vertex) (x : Vertex) → any f vs ≡ false → f x ≡ false → any f (vs ++ x ∷ []) ≡ false
  unfolding any
  none_snoc← [] x h k = or_false← (f x) false k refl
  none_snoc← (v ∷ vs) x h k = let p = or_false→ (f v) (any f vs) h in or_false← (f v) (any f (vs ++ x ∷ [])) p.0 (none_snoc← vs x p.1 k)

  pub none_snoc→ : (vs : List Vertex) (x : Vertex) → any f (vs ++ x ∷ []) ≡ false → (any f vs ≡ false) × (f x ≡ false)
  unfolding any
  none_snoc→ [] x h = (refl, (or_false→ (f x) false h).0)
  none_snoc→ (v ∷ vs) x h =
      let p = or_false→ (f v) (any f (vs ++ x ∷ [])) h in let q = none_snoc→ vs x p.1 in
      (or_false← (f v) (any f vs) p.0 q.0, q.1)

  pub none_set : (vs : List Vertex) (i : ℕ) (x : Vertex) → any f vs ≡ false → f x ≡ false → any f (set_nth vs i x) ≡ false
  unfolding any set_nth
  none_set [] i x h k = refl
  none_set (v ∷ vs) zero x h k = or_false← (f x) (any f vs) k (or_false→ (f v) (any f vs) h).1
  none_set (v ∷ vs) (suc i) x h k = let p = or_false→ (f v) (any f vs) h in or_false← (f v) (any f (set_nth vs i x)) p.0 (none_set vs i x p.1 k)

  pub every_snoc← : (vs : List Vertex) (x : Vertex) → every f vs ≡ true → f x ≡ true → every f (vs ++ x ∷ []) ≡ true
  unfolding every
  every_snoc← [] x h k = and_from (f x) true k refl
  every_snoc← (v ∷ vs) x h k = and_from (f v) (every f (vs ++ x ∷ [])) (and_left (f v) (every f vs) h) (every_snoc← vs x (and_right (f v) (every f vs) h) k)

  pub every_snoc→ : (vs : List Vertex) (x : Vertex) → every f (vs ++ x ∷ []) ≡ true → (every f vs ≡ true) × (f x ≡ true)
  unfolding every
  every_snoc→ [] x h = (refl, and_left (f x) true h)
  every_snoc→ (v ∷ vs) x h =
      let q = every_snoc→ vs x (and_right (f v) (every f (vs ++ x ∷ [])) h) in
      (and_from (f v) (every f vs) (and_left (f v) (every f (vs ++ x ∷ [])) h) q.0, q.1)

  pub every_set : (vs : List Vertex) (i : ℕ) (x : Vertex) → every f vs ≡ true → f x ≡ true → every f (set_nth vs i x) ≡ true
  unfolding every set_nth
  every_set [] i x h k = refl
  every_set (v ∷ vs) zero x h k = and_from (f x) (every f vs) k (and_right (f v) (every f vs) h)
  every_set (v ∷ vs) (suc i) x h k = and_from (f v) (every f (set_nth vs i x)) (and_left (f v) (every f vs) h) (every_set vs i x (and_right (f v) (every f vs) h) k)

pub record Ends (vs : List Vertex) : Type 0 where
  pub front : List Vertex
  pub last : Vertex
  pub is : vs ≡ front ++ last ∷ []

pub ends : (v : Vertex) (vs : List Vertex) → Ends (v ∷ vs)
ends v [] = record { front = []; last = v; is = refl }
ends v (u ∷ vs) = let e = ends u vs in record { front = v ∷ e.front; last = e.last; is = ap (λ (l : List Vertex). v ∷ l) e.is }

pub last_at : (vs : List Vertex) (u : Vertex) → vertex_at (vs ++ u ∷ []) (length vs) ≡ u
unfolding vertex_at
last_at [] u = refl
last_at (v ∷ vs) u = last_at vs u

pub set_front : (vs : List Vertex) (i : ℕ) (u x : Vertex) → i < length vs → set_nth (vs ++ u ∷ []) i x ≡ set_nth vs i x ++ u ∷ []
unfolding set_nth
set_front [] i u x h = absurd (omega arith)
set_front (v ∷ vs) zero u x h = refl
set_front (v ∷ vs) (suc i) u x h = ap (λ (l : List Vertex). v ∷ l) (set_front vs i u x (omega arith))
