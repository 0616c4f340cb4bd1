-- A triangle of a list of vertices: what `a_triangle`, `in_tri`, `inside_tri` and `empty_circle` say by signs, and its turning corners.
use Rattle.std.proofs.Common.{◌≡◌, ℕ, ◌<◌, Bool, true, false, not, ◌&&◌, ltb, ◌⊎◌, List, length, ℤ, neg_ℤ, sym, refl, ap, ◌∙◌, subst, inl, inr, arith}
use Rattle.exact.specs.Plane.{Point, Vertex, vertex_at, spot, Tri, left_of, inside_circle, a_triangle, in_tri, inside_tri, empty_circle}
use Rattle.std.proofs.lemmas.Bool.{and_from, not-true, not_from_false, ltb-true, lt-ltb}
use Rattle.exact.proofs.Booleans.{and_left, and_right}
use Rattle.exact.proofs.Lists.{every→, every←}
use Rattle.exact.proofs.Vertices.{vertex_in, vertex_number, site, Turn, at_one, at_two, at_three, next, corner, Rot, rot₁, rot₂, rot₃}
use Rattle.exact.proofs.Algebra.Signs.{Sign, ◌by◌, split_below, clash_zero}
use Rattle.exact.proofs.Geometry.Words.{orient, incircle, Within, Site}
use Rattle.exact.proofs.Geometry.Tests.{left→, left←, not_inside_circle→, not_inside_circle←, closed→, closed←, inner→, inner←}
use Rattle.exact.proofs.Geometry.Triangles.{within_turn}
use Rattle.exact.proofs.Geometry.Identities.Sides.{turn, start_on, end_on}
use Rattle.exact.proofs.Geometry.Identities.Circles.{circle_turn_place}

-- twice its area, and its circle
abbrev pub area : List Vertex → Tri → ℤ
area vs t = orient (spot vs t.one) (spot vs t.two) (spot vs t.three)

abbrev pub incircle_of : List Vertex → Tri → Point → ℤ
incircle_of vs t x = incircle (spot vs t.one) (spot vs t.two) (spot vs t.three) x

-- ---- a triangle as a record
pub record Triangle (vs : List Vertex) (t : Tri) : Type 0 where
  pub least_two : t.one < t.two
  pub least_three : t.one < t.three
  pub two_below : t.two < length vs
  pub three_below : t.three < length vs
  pub turns_left : Sign true (area vs t)

module _ (vs : List Vertex) (t : Tri) where
  pub a_triangle→ : a_triangle vs t ≡ true → Triangle vs t
  a_triangle→ h =
      let l = left_of (spot vs t.one) (spot vs t.two) (spot vs t.three) in
      let a = ltb t.one t.two in let b = ltb t.one t.three in let c = ltb t.two (length vs) in let d = ltb t.three (length vs) in
      let h₁ = and_left ((a && b) && (c && d)) l h in let h₂ = and_left (a && b) (c && d) h₁ in let h₃ = and_right (a && b) (c && d) h₁ in
      record {
        least_two = ltb-true t.one t.two (and_left a b h₂);
        least_three = ltb-true t.one t.three (and_right a b h₂);
        two_below = ltb-true t.two (length vs) (and_left c d h₃);
        three_below = ltb-true t.three (length vs) (and_right c d h₃);
        turns_left = left→ (spot vs t.one) (spot vs t.two) (spot vs t.three) (and_right ((a && b) && (c && d)) l h);
      }

  pub a_triangle← : Triangle vs t → a_triangle vs t ≡ true
  a_triangle← g =
      let a = ltb t.one t.two in let b = ltb t.one t.three in let c = ltb t.two (length vs) in let d = ltb t.three (length vs) in
      and_from ((a && b) && (c && d)) (left_of (spot vs t.one) (spot vs t.two) (spot vs t.three))
      (and_from (a && b) (c && d) (and_from a b (lt-ltb t.one t.two g.least_two) (lt-ltb t.one t.three g.least_three))
      (and_from c d (lt-ltb t.two (length vs) g.two_below) (lt-ltb t.three (length vs) g.three_below)))
      (left← (spot vs t.one) (spot vs t.two) (spot vs t.three) g.turns_left)

  -- ---- a place in it
  abbrev pub InFace : Bool → Point → Type 0
  InFace s x = Within s (spot vs t.one) (spot vs t.two) (spot vs t.three) x

  pub in_tri→ : (x : Point) → in_tri vs t x ≡ true → InFace false x
  in_tri→ = closed→ (spot vs t.one) (spot vs t.two) (spot vs t.three)

  pub in_tri← : (x : Point) → InFace false x → in_tri vs t x ≡ true
  in_tri← = closed← (spot vs t.one) (spot vs t.two) (spot vs t.three)

  pub inside_tri→ : (x : Point) → inside_tri vs t x ≡ true → InFace true x
  inside_tri→ = inner→ (spot vs t.one) (spot vs t.two) (spot vs t.three)

  pub inside_tri← : (x : Point) → InFace true x → inside_tri vs t x ≡ true
  inside_tri← = inner← (spot vs t.one) (spot vs t.two) (spot vs t.three)

  -- ---- its circle
  abbrev pub in_its : Vertex → Bool
  in_its v = inside_circle (spot vs t.one) (spot vs t.two) (spot vs t.three) v.at

  pub empty_circle→ : empty_circle vs t ≡ true → (k : ℕ) → k < length vs → Sign false (neg_ℤ (incircle_of vs t (spot vs k)))
  empty_circle→ h k l =
      not_inside_circle→ (spot vs t.one) (spot vs t.two) (spot vs t.three) (spot vs k) (not-true (in_its (vertex_at vs k)) (every→ (λ v. not (in_its v)) vs h (vertex_at vs k) (vertex_in vs k l)))

  pub empty_circle← : ((k : ℕ) → k < length vs → Sign false (neg_ℤ (incircle_of vs t (spot vs k)))) → empty_circle vs t ≡ true
  empty_circle← h = every← (λ v. not (in_its v)) vs (λ v i.
      let r = vertex_number vs v i in
      subst (λ (u : Vertex). not (in_its u) ≡ true) r.2 (not_from_false (in_its (vertex_at vs r.0)) (not_inside_circle← (spot vs t.one) (spot vs t.two) (spot vs t.three) (spot vs r.0) (h r.0 r.1))))

  -- ---- from any corner
  pub rot_in : {s : Bool} (a b c : ℕ) → Rot t a b c → (x : Point) → InFace s x → Within s (spot vs a) (spot vs b) (spot vs c) x
  rot_in a b c rot₁ x h = h
  rot_in a b c rot₂ x h = within_turn h
  rot_in a b c rot₃ x h = within_turn (within_turn h)

  pub rot_out : {s : Bool} (a b c : ℕ) → Rot t a b c → (x : Point) → Within s (spot vs a) (spot vs b) (spot vs c) x → InFace s x
  rot_out a b c rot₁ x h = h
  rot_out a b c rot₂ x h = within_turn (within_turn h)
  rot_out a b c rot₃ x h = within_turn h

  pub rot_below : (a b c : ℕ) → Rot t a b c → Triangle vs t → a < length vs
  rot_below a b c rot₁ g = omega (arith, g.least_two, g.two_below)
  rot_below a b c rot₂ g = g.two_below
  rot_below a b c rot₃ g = g.three_below

  module _ (ones : (i : ℕ) → (spot vs i).w ≡ 1) where
    pub rot_orient : (a b c : ℕ) → Rot t a b c → orient (spot vs a) (spot vs b) (spot vs c) ≡ area vs t
    rot_orient a b c rot₁ = refl
    rot_orient a b c rot₂ = sym (turn (site vs ones t.one) (site vs ones t.two) (site vs ones t.three))
    rot_orient a b c rot₃ = turn (site vs ones t.three) (site vs ones t.one) (site vs ones t.two)

    pub rot_circle : (a b c : ℕ) → Rot t a b c → (x : Point) → incircle (spot vs a) (spot vs b) (spot vs c) x ≡ incircle_of vs t x
    rot_circle a b c rot₁ x = refl
    rot_circle a b c rot₂ x = sym (circle_turn_place (site vs ones t.one) (site vs ones t.two) (site vs ones t.three) x)
    rot_circle a b c rot₃ x = circle_turn_place (site vs ones t.three) (site vs ones t.one) (site vs ones t.two) x

    pub rot_left : (a b c : ℕ) → Rot t a b c → Triangle vs t → Sign true (orient (spot vs a) (spot vs b) (spot vs c))
    rot_left a b c r g = g.turns_left by rot_orient a b c r

  -- ---- a place is in it, or strictly right of one of its edges
  abbrev pub Beyond : Point → Turn → Type 0
  Beyond x k = Sign true (neg_ℤ (orient (spot vs (corner k t)) (spot vs (corner (next k) t)) x))

  pub in_or_beyond : (x : Point) → InFace false x ⊎ ((k : Turn) × Beyond x k)
  in_or_beyond x = elim (split_below (orient (spot vs t.one) (spot vs t.two) x)) [
    | inr h ↦ inr (at_one, h)
    | inl p ↦ elim (split_below (orient (spot vs t.two) (spot vs t.three) x)) [
      | inr h ↦ inr (at_two, h)
      | inl q ↦ elim (split_below (orient (spot vs t.three) (spot vs t.one) x)) [
        | inr h ↦ inr (at_three, h)
        | inl r ↦ inl (record { ab = p; bc = q; ca = r })
      ]
    ]
  ]

-- a left-turning triangle has different numbers
pub left_different : (vs : List Vertex) → ((i : ℕ) → (spot vs i).w ≡ 1) → (a b c : ℕ) → Sign true (orient (spot vs a) (spot vs b) (spot vs c)) → ¬ (a ≡ b) × ¬ (b ≡ c) × ¬ (c ≡ a)
left_different vs ones a b c h = (
  λ e. clash_zero h (turn A B C ∙ ap (λ (i : ℕ). orient (spot vs b) (spot vs c) (spot vs i)) e ∙ start_on B C),
  λ e. clash_zero h (ap (λ (i : ℕ). orient (spot vs a) (spot vs b) (spot vs i)) (sym e) ∙ end_on A B),
  λ e. clash_zero h (ap (λ (i : ℕ). orient (spot vs a) (spot vs b) (spot vs i)) e ∙ start_on A B),
)
  where
    A : Site
    A = site vs ones a

    B : Site
    B = site vs ones b

    C : Site
    C = site vs ones c
