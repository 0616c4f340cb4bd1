-- Vertices listed by number: with another in one place, and which is found at a spot.
use Rattle.std.proofs.Common.{◌≡◌, ℕ, zero, suc, ◌+◌, ◌<◌, Bool, true, false, ◌≢◌, List, [], ◌∷◌, ◌++◌, length, sym, refl, ap, ◌∙◌, arith}
use Rattle.exact.specs.Plane.{pick, each, up_to, Point, Vertex, vertex_at, same_spot}
use Rattle.exact.proofs.Enumerations.{each_first, each_same}
use Rattle.triangles.specs.House.{found_from, set_nth}

pub each_set : (f g : ℕ → Vertex) (n i : ℕ) → ((j : ℕ) → j < n → j ≢ i → g j ≡ f j) → i < n → each g (up_to n) ≡ set_nth (each f (up_to n)) i (g i)
unfolding set_nth
each_set f g zero i h l = absurd (omega arith)
each_set f g (suc n) zero h l =
    each_first g n ∙ ap (λ (k : List Vertex). g 0 ∷ k) (each_same (λ i. g (suc i)) (λ i. f (suc i)) n (λ j q. h (suc j) (omega arith) (omega arith)))
    ∙ ap (λ (k : List Vertex). set_nth k 0 (g 0)) (sym (each_first f n))
each_set f g (suc n) (suc i) h l =
    each_first g n ∙ ap (λ (k : List Vertex). g 0 ∷ k) (each_set (λ i. f (suc i)) (λ i. g (suc i)) n i (λ j q r. h (suc j) (omega arith) (omega arith)) (omega arith))
    ∙ ap (λ (v : Vertex). v ∷ set_nth (each (λ i. f (suc i)) (up_to n)) i (g (suc i))) (h 0 (omega arith) (omega arith))
    ∙ ap (λ (k : List Vertex). set_nth k (suc i) (g (suc i))) (sym (each_first f n))

-- ---- which is found at a spot
-- one at most
pub found_alone : (from : ℕ) (vs : List Vertex) (p : Point) (i : ℕ) (is : List ℕ) → found_from from vs p ≡ i ∷ is → is ≡ []
unfolding found_from
found_alone from [] p i is e = absurd (let z : 0 ≡ suc (length is) = ap length e in omega arith)
found_alone from (v ∷ vs) p i is e = at (same_spot v.at p) e (found_alone (suc from) vs p i is)
  where
    at : (b : Bool) → pick b (from ∷ []) (found_from (suc from) vs p) ≡ i ∷ is → (found_from (suc from) vs p ≡ i ∷ is → is ≡ []) → is ≡ []
    at true e next = cc
    at false e next = next e

-- at the end
pub found_end : (from : ℕ) (vs : List Vertex) (x : Vertex) (p : Point) → found_from from vs p ≡ [] → same_spot x.at p ≡ true → found_from from (vs ++ x ∷ []) p ≡ (from + length vs) ∷ []
unfolding found_from
found_end from [] x p e h = let z : from ≡ from + 0 = omega arith in rw h (ap (λ (k : ℕ). k ∷ []) z)
found_end from (v ∷ vs) x p e h = at (same_spot v.at p) e (found_end (suc from) vs x p)
  where
    at : (b : Bool) → pick b (from ∷ []) (found_from (suc from) vs p) ≡ [] →
        (found_from (suc from) vs p ≡ [] → same_spot x.at p ≡ true → found_from (suc from) (vs ++ x ∷ []) p ≡ (suc from + length vs) ∷ []) →
        pick b (from ∷ []) (found_from (suc from) (vs ++ x ∷ []) p) ≡ (from + suc (length vs)) ∷ []
    at true e next = absurd (let z : 1 ≡ 0 = ap length e in omega arith)
    at false e next = let z : suc from + length vs ≡ from + suc (length vs) = omega arith in next e h ∙ ap (λ (k : ℕ). k ∷ []) z

-- as before, where another stands at the same spot
pub found_set : (from : ℕ) (vs : List Vertex) (i : ℕ) (x : Vertex) (p : Point) → (vertex_at vs i).at ≡ x.at → found_from from (set_nth vs i x) p ≡ found_from from vs p
unfolding found_from set_nth vertex_at
found_set from [] i x p e = refl
found_set from (v ∷ vs) zero x p e = ap (λ (q : Point). pick (same_spot q p) (from ∷ []) (found_from (suc from) vs p)) (sym e)
found_set from (v ∷ vs) (suc i) x p e = ap (λ (l : List ℕ). pick (same_spot v.at p) (from ∷ []) l) (found_set (suc from) vs i x p e)
