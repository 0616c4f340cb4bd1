-- The ray straight down from a place and all half edges of a mesh: half edges and their twins are crossed equally often, so what each face has in excess comes back over the outside.
use Rattle.std.proofs.Common.{◌≡◌, ℕ, suc, ◌+◌, ◌-◌, ◌/◌, ◌%◌, ◌<◌, ◌≤◌, true, false, sym, ap, ◌∙◌, arith}
use Rattle.exact.specs.Plane.{Point}
use Rattle.exact.specs.Sums.{sum}
use Rattle.exact.proofs.Sums.{sum_same, sum_plus}
use Rattle.exact.proofs.Algebra.Signs.{Sign}
use Rattle.exact.proofs.Geometry.Words.{W}
use Rattle.exact.proofs.Geometry.Crossings.{crossing, rightward, leftward, leftward_≤, inside_leftward, leftward_inside}
use Rattle.dcel.specs.Map.{Map, twin}
use Rattle.dcel.specs.Mesh.{Sound}
use Rattle.dcel.specs.Geometry.{from, to, apex, Geometric}
use Rattle.dcel.proofs.Twins.{twin_twin}
use Rattle.dcel.proofs.Neighbours.{not_itself, new_pairs, face_three}
use Rattle.dcel.proofs.Fibres.{sum_first, sum_pairs, fibre, sum_fibres, fibre_three}
use Rattle.dcel.proofs.Sites.{start, stop, third, face_left}
use Rattle.dcel.proofs.Tiling.Faces.{InFace, origin_next_end, edge_inner}

twin_even : (i : ℕ) → twin (i + i) ≡ suc (i + i)
unfolding twin
twin_even i = omega arith

twin_odd : (i : ℕ) → twin (suc (i + i)) ≡ i + i
unfolding twin
twin_odd i = omega arith

sum_twins : (g : ℕ → ℕ) (n : ℕ) → n % 2 ≡ 0 → sum (λ e. g (twin e)) n ≡ sum g n
sum_twins g n even =
    let two : n ≡ n / 2 + n / 2 = omega arith in
    ap (sum (λ e. g (twin e))) two ∙ sum_pairs (λ e. g (twin e)) (n / 2)
    ∙ sum_same (λ i. g (twin (i + i)) + g (twin (suc (i + i)))) (λ i. g (i + i) + g (suc (i + i))) (n / 2) (λ i l. omega (arith, ap g (twin_even i), ap g (twin_odd i)))
    ∙ sym (ap (sum g) two ∙ sum_pairs g (n / 2))

-- a half edge is crossed to the right; its reverse is
abbrev pub forth : (ℕ → Point) → Map → Point → ℕ → ℕ
forth pos m p e = crossing (from pos m e) (to pos m e) p

abbrev pub back : (ℕ → Point) → Map → Point → ℕ → ℕ
back pos m p e = crossing (to pos m e) (from pos m e) p

-- how often over the outside
abbrev pub outer_forth : (ℕ → Point) → Map → Point → ℕ
outer_forth pos m p = fibre m.face m.half_edges (forth pos m p) 0

abbrev pub outer_back : (ℕ → Point) → Map → Point → ℕ
outer_back pos m p = fibre m.face m.half_edges (back pos m p) 0

-- by how much a face has more to the right
unfoldable pub excess : (ℕ → Point) → Map → Point → ℕ → ℕ
excess pos m p f = let e = m.edge f in rightward (from pos m e) (to pos m e) (apex pos m e) p - leftward (from pos m e) (to pos m e) (apex pos m e) p

module _ (pos : ℕ → Point) {m : Map} (S : Sound m) (p : Point) where
  as_many : sum (forth pos m p) m.half_edges ≡ sum (back pos m p) m.half_edges
  as_many =
      sym (sum_twins (forth pos m p) m.half_edges (new_pairs m S).even)
      ∙ sum_same (λ e. forth pos m p (twin e)) (back pos m p) m.half_edges (λ e l. ap (λ (d : ℕ). crossing (to pos m e) (pos (m.origin d)) p) (twin_twin e))

  -- over a face
  module _ (f : ℕ) (l : 0 < f) (h : f < m.faces) where
    abbrev e₁ : ℕ
    e₁ = m.edge f

    abbrev e₂ : ℕ
    e₂ = m.next e₁

    abbrev e₃ : ℕ
    e₃ = m.next e₂

    over_three : (g : ℕ → ℕ) → fibre m.face m.half_edges g f ≡ g e₁ + g e₂ + g e₃
    over_three g =
        let h₁ = S.edge_in f l h in let h₂ = S.next_in e₁ h₁ in let h₃ = S.next_in e₂ h₂ in
        let f₁ = S.edge_face f l h in let f₂ = S.face_next e₁ h₁ ∙ f₁ in let f₃ = S.face_next e₂ h₂ ∙ f₂ in
        let r = S.three e₁ h₁ (edge_inner S f l h) in
        fibre_three m.face m.half_edges g f e₁ e₂ e₃ h₁ h₂ h₃ f₁ f₂ f₃
        (λ q. not_itself m S e₁ h₁ (sym q)) (λ q. not_itself m S e₂ h₂ (sym q)) (λ q. not_itself m S e₃ h₃ (r ∙ sym q)) (λ e k q. face_three m S f e l h k q)

    -- the ends of the second and the third
    start₂ : m.origin e₂ ≡ m.origin (twin e₁)
    start₂ = S.origin_next e₁ (S.edge_in f l h)

    end₂ : m.origin (twin e₂) ≡ m.origin (m.prev e₁)
    end₂ = origin_next_end S e₁ (S.edge_in f l h) (edge_inner S f l h)

    start₃ : m.origin e₃ ≡ m.origin (m.prev e₁)
    start₃ = S.origin_next e₂ (S.next_in e₁ (S.edge_in f l h)) ∙ end₂

    end₃ : m.origin (twin e₃) ≡ m.origin e₁
    end₃ =
        let h₁ = S.edge_in f l h in let h₃ = S.next_in e₂ (S.next_in e₁ h₁) in
        sym (S.origin_next e₃ h₃) ∙ ap m.origin (S.three e₁ h₁ (edge_inner S f l h))

    face_forth : fibre m.face m.half_edges (forth pos m p) f ≡ rightward (from pos m e₁) (to pos m e₁) (apex pos m e₁) p
    unfolding rightward
    face_forth = over_three (forth pos m p) ∙ rw (start₂, end₂, start₃, end₃)

    face_back : fibre m.face m.half_edges (back pos m p) f ≡ leftward (from pos m e₁) (to pos m e₁) (apex pos m e₁) p
    unfolding leftward
    face_back = over_three (back pos m p) ∙ rw (start₂, end₂, start₃, end₃)

module _ {pos : ℕ → Point} {m : Map} (S : Sound m) (G : Geometric pos m) (p : Point) (w : Sign true (W p)) where
  face_excess : (f : ℕ) → 0 < f → f < m.faces → fibre m.face m.half_edges (forth pos m p) f ≡ fibre m.face m.half_edges (back pos m p) f + excess pos m p f
  unfolding excess
  face_excess f l h =
      let e = m.edge f in
      omega (
        arith,
        face_forth pos S p f l h,
        face_back pos S p f l h,
        leftward_≤ (start G e) (stop G e) (third G e) p w (face_left G e (S.edge_in f l h) (edge_inner S f l h)),
      )

  pub balance : 0 < m.faces → outer_back pos m p ≡ outer_forth pos m p + sum (λ i. excess pos m p (suc i)) (m.faces - 1)
  balance l =
      omega (
        arith,
        as_many pos S p,
        sum_fibres m.face m.faces m.half_edges (forth pos m p) S.face_in,
        sum_fibres m.face m.faces m.half_edges (back pos m p) S.face_in,
        first (fibre m.face m.half_edges (forth pos m p)),
        first (fibre m.face m.half_edges (back pos m p)),
        sum_same F (λ i. B i + excess pos m p (suc i)) (m.faces - 1) (λ i k. face_excess (suc i) (omega arith) (omega arith)),
        sum_plus B (λ i. excess pos m p (suc i)) (m.faces - 1),
      )
    where
      F : ℕ → ℕ
      F i = fibre m.face m.half_edges (forth pos m p) (suc i)

      B : ℕ → ℕ
      B i = fibre m.face m.half_edges (back pos m p) (suc i)

      first : (g : ℕ → ℕ) → sum g m.faces ≡ g 0 + sum (λ i. g (suc i)) (m.faces - 1)
      first g = let k : m.faces ≡ suc (m.faces - 1) = omega arith in ap (sum g) k ∙ sum_first g (m.faces - 1)

  -- a place strictly inside a face is counted, and what is counted is in the face
  module _ (f : ℕ) (l : 0 < f) (h : f < m.faces) where
    abbrev e : ℕ
    e = m.edge f

    pub inside_excess : InFace pos m true f p → 1 ≤ excess pos m p f
    unfolding excess
    inside_excess i = omega (arith, inside_leftward (start G e) (stop G e) (third G e) p w i)

    pub excess_in : 1 ≤ excess pos m p f → InFace pos m false f p
    unfolding excess
    excess_in k = leftward_inside p (start G e) (stop G e) (third G e) (omega arith)
