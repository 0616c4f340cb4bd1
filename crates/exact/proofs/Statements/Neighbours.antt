-- Across an edge that a vertex is strictly right of there is another triangle: a place near the edge, on the side of that vertex, is in some triangle, and that goes back along the edge.
use Rattle.std.proofs.Common.{◌≡◌, ℕ, ◌<◌, true, false, ◌⊎◌, List, length, neg_ℤ, sym, ap, ◌∙◌, subst, inl, inr, arith}
use Rattle.exact.specs.Plane.{Point, Vertex, spot, Tri, goes}
use Rattle.exact.proofs.Lists.{In}
use Rattle.exact.proofs.Vertices.{site, Rot, rot_next, rot_cases, rot_goes}
use Rattle.exact.proofs.Algebra.Signs.{Sign, ◌by◌, weak, split_below, strict_or_zero, clash_below, clash_zero, zero_sign}
use Rattle.exact.proofs.Geometry.Words.{orient, Within, Site, Orient, Left, Right, LeftOn, On}
use Rattle.exact.proofs.Geometry.Identities.Sides.{turn, start_on, end_on}
use Rattle.exact.proofs.Geometry.Faces.{Triangle, InFace, rot_in, rot_out, rot_left, rot_below, left_different}
use Rattle.exact.proofs.Geometry.Moves.{toward, on_moves, left_moves}
use Rattle.exact.proofs.Geometry.Reach.{reach_all, none_new}
use Rattle.exact.proofs.Statements.Cones.{on_ray, not_both, not_right, common, common_place, in_first, in_second}
use Rattle.exact.proofs.Statements.Tilings.{ProperTiling}

module _ (vs : List Vertex) (ts : List Tri) (T : ProperTiling vs ts) where
  abbrev P : ℕ → Site
  P i = site vs T.ones i

  -- the edge a → b of t, and v right of it
  module _ (t : Tri) (it : In t ts) (a b c : ℕ) (ρ : Rot t a b c) (v : ℕ) (v_below : v < length vs) (right : Right (P a) (P b) (P v)) where
    gt : Triangle vs t
    gt = T.triangle t it

    abc : Left (P a) (P b) (P c)
    abc = rot_left vs t T.ones a b c ρ gt

    a_below : a < length vs
    a_below = rot_below vs t a b c ρ gt

    b_below : b < length vs
    b_below = rot_below vs t b c a (rot_next t a b c ρ) gt

    abbrev n₁ : ℕ
    n₁ = reach_all vs ts (spot vs b)

    abbrev n₂ : ℕ
    n₂ = reach_all vs ts (spot vs v)

    -- from a towards b, and then towards v
    abbrev y : Point
    y = toward n₁ (spot vs a) (spot vs b)

    abbrev x : Point
    x = toward n₂ y (spot vs v)

    abx : Sign true (neg_ℤ (orient (spot vs a) (spot vs b) x))
    abx = right by ap neg_ℤ (on_moves (spot vs a) (spot vs b) y (spot vs v) n₂ (on_moves (spot vs a) (spot vs b) (spot vs a) (spot vs b) n₁ (start_on (P a) (P b)) ∙ end_on (P a) (P b)))

    -- u has x; turned, it begins at a
    module _ (u : Tri) (iu : In u ts) (has : InFace vs u false x) (g h : ℕ) (σ : Rot u a g h) where
      gu : Triangle vs u
      gu = T.triangle u iu

      agh : Left (P a) (P g) (P h)
      agh = rot_left vs u T.ones a g h σ gu

      has_y : Within false (spot vs a) (spot vs g) (spot vs h) y
      has_y = rot_in vs u a g h σ y (none_new vs ts y (spot vs v) n₂ (omega arith) u iu has)

      agb : LeftOn (P a) (P g) (P b)
      agb = has_y.ab by sym (on_moves (spot vs a) (spot vs g) (spot vs a) (spot vs b) n₁ (start_on (P a) (P g)))

      hab : LeftOn (P h) (P a) (P b)
      hab = has_y.ca by sym (on_moves (spot vs h) (spot vs a) (spot vs a) (spot vs b) n₁ (end_on (P h) (P a)))

      -- b is on the ray from a to h: then it is h, as neither is inside an edge of the other
      ray : On (P h) (P a) (P b) → Left (P a) (P g) (P b) → b ≡ h
      ray e s = elim (split_below (Orient (P g) (P h) (P b))) [
        | inl z ↦
            let w = T.corners u iu b b_below (rot_out vs u a g h σ (spot vs b) (record { ab = weak s; bc = z; ca = zero_sign e })) in
            among_u (rot_cases u a g h σ b w.0 w.1 w.2)
        | inr z ↦
            let w = T.corners t it h (rot_below vs u h a g (rot_next u g h a (rot_next u a g h σ)) gu) (rot_out vs t a b c ρ (spot vs h) (on_ray (P a) (P b) (P c) (P g) (P h) abc agh e s z)) in
            among_t (rot_cases t a b c ρ h w.0 w.1 w.2)
      ]
        where
          among_u : (b ≡ a) ⊎ ((b ≡ g) ⊎ (b ≡ h)) → b ≡ h
          among_u (inl k) = absurd ((left_different vs T.ones a b c abc).0 (sym k))
          among_u (inr (inl k)) = absurd (clash_zero s (ap (λ (n : ℕ). Orient (P a) (P g) (P n)) k ∙ end_on (P a) (P g)))
          among_u (inr (inr k)) = k

          among_t : (h ≡ a) ⊎ ((h ≡ b) ⊎ (h ≡ c)) → b ≡ h
          among_t (inl k) = absurd ((left_different vs T.ones a g h agh).2 k)
          among_t (inr (inl k)) = sym k
          among_t (inr (inr k)) = absurd (clash_zero abc (ap (λ (n : ℕ). Orient (P a) (P b) (P n)) (sym k) ∙ sym (turn (P h) (P a) (P b)) ∙ e))

      -- t and u over one place: they are the same, but x is not in t
      overlap : Left (P h) (P a) (P b) → Left (P a) (P g) (P b) → ⊥
      overlap p q =
          let z = common (P a) (P b) (P c) (P g) (P h) abc agh p q in
          let e = T.once z (common_place (P a) (P b) (P c) (P g) (P h) abc agh p q) t u it iu
          (rot_out vs t a b c ρ z (in_first (P a) (P b) (P c) (P g) (P h) abc agh p q)) (rot_out vs u a g h σ z (in_second (P a) (P b) (P c) (P g) (P h) abc agh p q)) in
          clash_below (orient (spot vs a) (spot vs b) x) (rot_in vs t a b c ρ x (subst (λ (s : Tri). InFace vs s false x) (sym e) has)).ab abx

      back : goes u b a ≡ true
      back = go (strict_or_zero (Orient (P h) (P a) (P b)) hab) (strict_or_zero (Orient (P a) (P g) (P b)) agb)
        where
          go : Left (P h) (P a) (P b) ⊎ On (P h) (P a) (P b) → Left (P a) (P g) (P b) ⊎ On (P a) (P g) (P b) → goes u b a ≡ true
          go (inl e) (inl s) = absurd (overlap e s)
          go (inl e) (inr s) =
              absurd (not_right (P a) (P b) (P c) (P g) (P h) abc agh (P v) e s
              ((rot_in vs u a g h σ x has).ab by sym (on_moves (spot vs a) (spot vs g) y (spot vs v) n₂ (on_moves (spot vs a) (spot vs g) (spot vs a) (spot vs b) n₁ (start_on (P a) (P g)) ∙ s))) right)
          go (inr e) (inl s) = subst (λ (k : ℕ). goes u k a ≡ true) (sym (ray e s)) (rot_goes u h a g (rot_next u g h a (rot_next u a g h σ)))
          go (inr e) (inr s) = absurd (not_both (P a) (P b) (P c) (P g) (P h) abc agh e s)

    pub neighbour : (u : Tri) × In u ts × (goes u b a ≡ true)
    neighbour =
        let r = T.cover x (omega (arith, T.ones v)) (λ i j k. left_moves (spot vs i) (spot vs j) y (spot vs v) n₂ (left_moves (spot vs i) (spot vs j) (spot vs a) (spot vs b) n₁ (k a a_below) (k b b_below)) (k v v_below)) in
        let u = r.0 in
        let at_a = none_new vs ts (spot vs a) (spot vs b) n₁ (omega arith) u r.1 (none_new vs ts y (spot vs v) n₂ (omega arith) u r.1 r.2) in
        let w = T.corners u r.1 a a_below at_a in
        (u, r.1, back u r.1 r.2 w.0 w.1 w.2)
