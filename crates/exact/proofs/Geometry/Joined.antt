-- The tests `joined` and `outer_edge`: of vertices on one line, neighbours with none on the segment between them; elsewhere the ends of an edge of a triangle.
use Rattle.std.proofs.Common.{◌≡◌, ℕ, ◌<◌, Bool, true, false, not, ◌&&◌, eqb, ltb, ◌⊎◌, List, length, refl, ap, ◌∙◌, inl, inr}
use Rattle.exact.specs.Plane.{or, pick, every, any, Vertex, spot, Tri, goes, on_a_line, on_segment, neighbours_on_line, joined, outer_edge, all_numbers}
use Rattle.std.proofs.lemmas.Bool.{cases_Bool, and_from, not-true, not_from_false, eqb-true, eqb-false, ne_eqb, lt-ltb}
use Rattle.exact.proofs.Booleans.{and_left, and_right, or→, or_left, or_right}
use Rattle.exact.proofs.Lists.{every→, every←, up_to→, up_to←}
use Rattle.exact.proofs.Vertices.{Rot, rot₁, rot₂, rot₃}

-- some triangle goes from a to b
abbrev pub has_edge : List Tri → ℕ → ℕ → Bool
has_edge ts a b = any (λ t. goes t a b) ts

-- an edge of a triangle is one of its three
pub rot_edges : (t : Tri) (a b c : ℕ) → Rot t a b c → (d e f : ℕ) → Rot t d e f → ((d ≡ a) × (e ≡ b)) ⊎ (((d ≡ b) × (e ≡ c)) ⊎ ((d ≡ c) × (e ≡ a)))
rot_edges t a b c rot₁ d e f rot₁ = inl (refl, refl)
rot_edges t a b c rot₁ d e f rot₂ = inr (inl (refl, refl))
rot_edges t a b c rot₁ d e f rot₃ = inr (inr (refl, refl))
rot_edges t a b c rot₂ d e f rot₁ = inr (inr (refl, refl))
rot_edges t a b c rot₂ d e f rot₂ = inl (refl, refl)
rot_edges t a b c rot₂ d e f rot₃ = inr (inl (refl, refl))
rot_edges t a b c rot₃ d e f rot₁ = inr (inl (refl, refl))
rot_edges t a b c rot₃ d e f rot₂ = inr (inr (refl, refl))
rot_edges t a b c rot₃ d e f rot₃ = inl (refl, refl)

module _ (vs : List Vertex) (a b : ℕ) where
  -- c is an end, or not on the segment
  abbrev free? : ℕ → Bool
  free? c = or (or (eqb c a) (eqb c b)) (not (on_segment (spot vs a) (spot vs b) (spot vs c)))

  pub neighbours_on_line← : ¬ (a ≡ b) → ((c : ℕ) → c < length vs → ¬ (c ≡ a) → ¬ (c ≡ b) → on_segment (spot vs a) (spot vs b) (spot vs c) ≡ false) → neighbours_on_line vs a b ≡ true
  neighbours_on_line← ne none =
      and_from (not (eqb a b)) (every free? (all_numbers vs)) (not_from_false (eqb a b) (ne_eqb a b ne)) (every← free? (all_numbers vs) (λ c k. free c (up_to→ (length vs) c k) (cases_Bool (eqb c a)) (cases_Bool (eqb c b))))
    where
      on? : ℕ → Bool
      on? c = on_segment (spot vs a) (spot vs b) (spot vs c)

      free : (c : ℕ) → c < length vs → (eqb c a ≡ true) ⊎ (eqb c a ≡ false) → (eqb c b ≡ true) ⊎ (eqb c b ≡ false) → or (or (eqb c a) (eqb c b)) (not (on_segment (spot vs a) (spot vs b) (spot vs c))) ≡ true
      free c l (inl e) f = or_left (or (eqb c a) (eqb c b)) (not (on? c)) (or_left (eqb c a) (eqb c b) e)
      free c l (inr e) (inl f) = or_left (or (eqb c a) (eqb c b)) (not (on? c)) (or_right (eqb c a) (eqb c b) f)
      free c l (inr e) (inr f) = or_right (or (eqb c a) (eqb c b)) (not (on? c)) (not_from_false (on? c) (none c l (eqb-false c a e) (eqb-false c b f)))

  pub neighbours_different : neighbours_on_line vs a b ≡ true → ¬ (a ≡ b)
  neighbours_different t = eqb-false a b (not-true (eqb a b) (and_left (not (eqb a b)) (every free? (all_numbers vs)) t))

  pub neighbours_none_on : neighbours_on_line vs a b ≡ true → (c : ℕ) → c < length vs → ¬ (c ≡ a) → ¬ (c ≡ b) → on_segment (spot vs a) (spot vs b) (spot vs c) ≡ false
  neighbours_none_on t c l na nb =
      let on? = on_segment (spot vs a) (spot vs b) (spot vs c) in
      elim (or→ (or (eqb c a) (eqb c b)) (not on?) (every→ free? (all_numbers vs) (and_right (not (eqb a b)) (every free? (all_numbers vs)) t) c (up_to← (length vs) c l))) [
        | inl e ↦ elim (or→ (eqb c a) (eqb c b) e) [ inl f ↦ absurd (na (eqb-true c a f)) | inr f ↦ absurd (nb (eqb-true c b f)) ]
        | inr e ↦ not-true on? e
      ]

  module _ (ts : List Tri) where
    abbrev joined_if : Bool → Bool
    joined_if line = pick line ((ltb a (length vs) && ltb b (length vs)) && neighbours_on_line vs a b) (or (has_edge ts a b) (has_edge ts b a))

    -- ---- on one line
    pub line_joined_is : on_a_line vs ≡ true → joined vs ts a b ≡ (ltb a (length vs) && ltb b (length vs)) && neighbours_on_line vs a b
    line_joined_is line = ap joined_if line

    pub line_joined← : on_a_line vs ≡ true → a < length vs → b < length vs → neighbours_on_line vs a b ≡ true → joined vs ts a b ≡ true
    line_joined← line la lb n = line_joined_is line ∙ and_from (ltb a (length vs) && ltb b (length vs)) (neighbours_on_line vs a b) (and_from (ltb a (length vs)) (ltb b (length vs)) (lt-ltb a (length vs) la) (lt-ltb b (length vs) lb)) n

    pub line_outer_is : on_a_line vs ≡ true → outer_edge vs ts a b ≡ joined vs ts a b
    line_outer_is line = ap (λ (l : Bool). joined vs ts a b && pick l true (not (has_edge ts a b))) line ∙ and_true (joined vs ts a b)
      where
        and_true : (c : Bool) → c && true ≡ c
        and_true true = refl
        and_true false = refl

    -- ---- elsewhere
    pub joined_is : on_a_line vs ≡ false → joined vs ts a b ≡ or (has_edge ts a b) (has_edge ts b a)
    joined_is off = ap joined_if off

    pub outer_is : on_a_line vs ≡ false → outer_edge vs ts a b ≡ or (has_edge ts a b) (has_edge ts b a) && not (has_edge ts a b)
    outer_is off = ap (λ (l : Bool). joined_if l && pick l true (not (has_edge ts a b))) off
