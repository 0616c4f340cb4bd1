-- How a patch changes the number of outer half edges.
use Rattle.std.proofs.Common.{◌≡◌, ℕ, zero, suc, ◌+◌, ◌<◌, ◌≤◌, ◌≢◌, [], ◌∷◌, refl, ap, ◌∙◌, add-one, arith, inl, inr}
use Rattle.std.proofs.lemmas.Bool.{eq-eqb, ne_eqb, cases_eq}
use Rattle.exact.specs.Sums.{sum}
use Rattle.exact.proofs.Sums.{sum_one}
use Rattle.dcel.specs.Pairs.{Pairs, changed, All, Apart}
use Rattle.dcel.specs.Map.{Map}
use Rattle.dcel.specs.Mesh.{zero_bit, zero_count, Counts}
use Rattle.dcel.specs.Patch.{Patch, patched}
use Rattle.dcel.proofs.Changes.{changed_off, elsewhere}
use Rattle.dcel.proofs.Neighbours.{InTriangle}
use Rattle.dcel.proofs.SumChanges.{one_change, sum_small}

-- over the places of a list: zeros that were, and zeros that come
abbrev pub zeros_before : (ℕ → ℕ) → Pairs → ℕ
zeros_before f [] = 0
zeros_before f (p ∷ ps) = zero_bit (f p.0) + zeros_before f ps

abbrev pub zeros_after : Pairs → ℕ
zeros_after [] = 0
zeros_after (p ∷ ps) = zero_bit p.1 + zeros_after ps

pub zero_bit_zero : zero_bit 0 ≡ 1
unfolding zero_bit
zero_bit_zero = refl

pub zero_bit_positive : (v : ℕ) → v ≢ 0 → zero_bit v ≡ 0
unfolding zero_bit
zero_bit_positive v h = rw (ne_eqb v 0 h)

pub zero_bit_is : (v : ℕ) → v ≡ 0 → zero_bit v ≡ 1
zero_bit_is v q = ap zero_bit q ∙ zero_bit_zero

-- no side of an inner face is outer
pub inner_sides : {m : Map} {e : ℕ} → InTriangle m e → m.face e ≢ 0 → (zero_bit (m.face e) ≡ 0) × (zero_bit (m.face (m.next e)) ≡ 0) × (zero_bit (m.face (m.prev e)) ≡ 0)
inner_sides near h = let z = zero_bit_positive _ h in (z, ap zero_bit near.face_next ∙ z, ap zero_bit near.face_prev ∙ z)

zero_bit_one : (v : ℕ) → zero_bit v ≤ 1
zero_bit_one v = elim (cases_eq v 0) [ inl q ↦ omega (arith, zero_bit_is v q) | inr q ↦ omega (arith, zero_bit_positive v q) ]

-- the zeros are a sum
zero_count_is : (f : ℕ → ℕ) (n : ℕ) → zero_count f n ≡ sum (λ i. zero_bit (f i)) n
unfolding zero_count sum
zero_count_is f zero = refl
zero_count_is f (suc n) = ap (λ k. zero_bit (f n) + k) (zero_count_is f n)

pub zero_count_most : (f : ℕ → ℕ) (n : ℕ) → zero_count f n ≤ n
zero_count_most f n = omega (arith, zero_count_is f n, sum_small (λ i. zero_bit (f i)) 1 n (λ i _. zero_bit_one (f i)))

pub zero_count_some : (f : ℕ → ℕ) (n k : ℕ) → k < n → f k ≡ 0 → 1 ≤ zero_count f n
zero_count_some f n k l q = omega (arith, zero_count_is f n, sum_one (λ i. zero_bit (f i)) n k l, zero_bit_is (f k) q)

-- what a list of changes does to the number of zeros
pub changes : (ps : Pairs) (f : ℕ → ℕ) (n : ℕ) → Apart ps → All (λ k v. k < n) ps → zero_count (changed ps f) n + zeros_before f ps ≡ zero_count f n + zeros_after ps
unfolding changed
changes [] f n d l = ap (λ x. x + 0) refl
changes (p ∷ ps) f n d l =
    let b = changes ps f n d.1 l.1 in
    let c = one_change (λ i. zero_bit (changed ps f i)) (λ i. zero_bit (changed (p ∷ ps) f i)) n p.0 l.0 (λ j _ q. ap zero_bit (rw (ne_eqb j p.0 q))) in
    let e : zero_bit (changed (p ∷ ps) f p.0) ≡ zero_bit p.1 = ap zero_bit (rw (eq-eqb p.0 p.0 refl)) in
    let g : zero_bit (changed ps f p.0) ≡ zero_bit (f p.0) = ap zero_bit (changed_off ps f p.0 (elsewhere ps p.0 d.0)) in
    omega (arith, zero_count_is (changed ps f) n, zero_count_is (changed (p ∷ ps) f) n)

zero_count_one : (f : ℕ → ℕ) (e : ℕ) → zero_count f (e + 1) ≡ zero_bit (f e) + zero_count f e
unfolding zero_count
zero_count_one f e = rw add-one

pub zero_count_two : (f : ℕ → ℕ) (e : ℕ) → zero_count f (e + 2) ≡ zero_bit (f (e + 1)) + zero_bit (f e) + zero_count f e
zero_count_two f e =
    let a : zero_count f (e + 2) ≡ zero_count f (e + 1 + 1) = ap (zero_count f) (omega arith) in
    let b = zero_count_one f (e + 1) in
    let c = zero_count_one f e in
    omega arith

pub zero_count_four : (f : ℕ → ℕ) (e : ℕ) → zero_count f (e + 4) ≡ zero_bit (f (e + 3)) + zero_bit (f (e + 2)) + zero_bit (f (e + 1)) + zero_bit (f e) + zero_count f e
zero_count_four f e =
    let a : zero_count f (e + 4) ≡ zero_count f (e + 2 + 2) = ap (zero_count f) (omega arith) in
    let g : zero_bit (f (e + 2 + 1)) ≡ zero_bit (f (e + 3)) = ap (λ x. zero_bit (f x)) (omega arith) in
    let b = zero_count_two f (e + 2) in
    let c = zero_count_two f e in
    omega arith

pub zero_count_six : (f : ℕ → ℕ) (e : ℕ) → zero_count f (e + 6) ≡ zero_bit (f (e + 5)) + zero_bit (f (e + 4)) + zero_bit (f (e + 3)) + zero_bit (f (e + 2)) + zero_bit (f (e + 1)) + zero_bit (f e) + zero_count f e
zero_count_six f e =
    let a : zero_count f (e + 6) ≡ zero_count f (e + 4 + 2) = ap (zero_count f) (omega arith) in
    let g : zero_bit (f (e + 4 + 1)) ≡ zero_bit (f (e + 5)) = ap (λ x. zero_bit (f x)) (omega arith) in
    let b = zero_count_two f (e + 4) in
    let c = zero_count_four f e in
    omega arith

-- a vertex more on a line: two more outer half edges
pub line_counts : (m : Map) → Counts m → (p : Patch) → p.sides ≡ (m.half_edges, 0) ∷ (m.half_edges + 1, 0) ∷ [] → p.half_edges ≡ m.half_edges + 2 → p.faces ≡ m.faces → p.vertices ≡ m.vertices + 1 → Counts (patched p m)
line_counts m c p q r s t =
    let two : Pairs = (m.half_edges, 0) ∷ (m.half_edges + 1, 0) ∷ [] in
    let h = changes two m.face (m.half_edges + 2) (omega arith) (omega arith) in
    let z = zero_count_two m.face m.half_edges in
    let n0 = zero_bit_zero in
    let w : zero_count (changed p.sides m.face) p.half_edges ≡ zero_count (changed two m.face) (m.half_edges + 2) =
    ap (λ x. zero_count (changed x m.face) p.half_edges) q ∙ ap (zero_count (changed two m.face)) r in
    record { half_edges_are = omega (arith, c.half_edges_are); faces_are = omega (arith, c.faces_are) }
