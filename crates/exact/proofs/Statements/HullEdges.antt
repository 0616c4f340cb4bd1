-- Edges of the hull: if nothing is left of the line from m to k, an edge of the outer face begins at m; and an edge of the outer face has all vertices on one side.
use Rattle.std.proofs.Common.{◌≡◌, ℕ, ◌<◌, true, false, not, ◌&&◌, List, length, ◌+ℤ◌, neg_ℤ, sym, ap, ◌∙◌, ap₂, inl, inr}
use Rattle.exact.specs.Plane.{or, Vertex, spot, Tri, goes, outer_edge, on_a_line, all_numbers}
use Rattle.std.proofs.lemmas.Bool.{false_from_ne_true, and_from, not-true, not_from_false}
use Rattle.exact.proofs.Booleans.{true_false, or→, or_right, and_left, and_right}
use Rattle.exact.proofs.Lists.{In, any→, any←, up_to←}
use Rattle.exact.proofs.Vertices.{site, Rot, rot_next, rot_goes, goes_rot}
use Rattle.exact.proofs.Algebra.Signs.{Sign, ◌⊙◌, ◌by◌, split_below, strict_or_zero, is_zero, clash, clash_zero, right_zero, cancel}
use Rattle.exact.proofs.Geometry.Words.{Site, Orient, Dot, Left, LeftOn, RightOn, On, signs}
use Rattle.exact.proofs.Geometry.Identities.Sides.{turn, swap, three_terms}
use Rattle.exact.proofs.Geometry.Identities.Dots.{dot_same, three_terms_dot}
use Rattle.exact.proofs.Geometry.Faces.{Triangle, rot_left, rot_below, left_different}
use Rattle.exact.proofs.Geometry.Joined.{has_edge, outer_is}
use Rattle.exact.proofs.Statements.Words.{on_hull}
use Rattle.exact.proofs.Statements.Tilings.{ProperTiling, different_apart}
use Rattle.exact.proofs.Statements.ConeAt.{cone_at}
use Rattle.exact.proofs.Statements.Neighbours.{neighbour}

module _ (vs : List Vertex) (ts : List Tri) (T : ProperTiling vs ts) (off : on_a_line vs ≡ false) where
  abbrev P : ℕ → Site
  P i = site vs T.ones i

  -- ---- nothing is left of the line from m to k
  module _ (m k : ℕ) (m_below : m < length vs) (k_below : k < length vs) (ne : ¬ (k ≡ m)) (all : (z : ℕ) → z < length vs → RightOn (P m) (P k) (P z)) where
    -- a triangle m g h with k in its cone: k is on the ray from m to h
    module _ (t : Tri) (it : In t ts) (g h : ℕ) (ρ : Rot t m g h) (mgk : LeftOn (P m) (P g) (P k)) (hmk : LeftOn (P h) (P m) (P k)) where
      gt : Triangle vs t
      gt = T.triangle t it

      h_below : h < length vs
      h_below = rot_below vs t h m g (rot_next t g h m (rot_next t m g h ρ)) gt

      mgh : Left (P m) (P g) (P h)
      mgh = rot_left vs t T.ones m g h ρ gt

      on_ray : On (P h) (P m) (P k)
      on_ray = is_zero hmk (all h h_below by ap neg_ℤ (turn (P h) (P m) (P k)))

      -- k is not at m
      strictly : Left (P m) (P g) (P k)
      strictly = elim (strict_or_zero (Orient (P m) (P g) (P k)) mgk) [
        | inl s ↦ s
        | inr e ↦
            let mk : Sign true (Dot (P m) (P k) (P k)) = different_apart T m k m_below k_below (λ i. ne (sym i)) by dot_same (spot vs m) (spot vs k) in
            absurd (clash_zero (mk ⊙ mgh) (three_terms_dot (spot vs m) (spot vs k) (spot vs k) (spot vs g) (spot vs h)
            ∙ ap₂ ◌+ℤ◌ (right_zero (Dot (P m) (P g) (P k)) (Orient (P m) (P k) (P h)) (sym (turn (P h) (P m) (P k)) ∙ on_ray)) (right_zero (Dot (P m) (P h) (P k)) (Orient (P m) (P g) (P k)) e)))
      ]

      -- so no triangle goes from m to h: its third corner would be left of the line
      no_twin : (s : Tri) × In s ts × (goes s m h ≡ true) → ⊥
      no_twin s =
          let q = goes_rot s.0 m h s.2 in let c = q.0 in let gs = T.triangle s.0 s.1 in
          let mhc : Left (P m) (P h) (P c) = rot_left vs s.0 T.ones m h c q.1 gs in
          let mhk : On (P m) (P h) (P k) = swap (P m) (P h) (P k) ∙ ap neg_ℤ on_ray in let mgk₁ = strictly in
          let mkc : Left (P m) (P k) (P c) = cancel mgh (search signs by three_terms (P m) (P g) (P h) (P k) (P c)) in
          clash mkc (all c (rot_below vs s.0 c m h (rot_next s.0 h c m (rot_next s.0 m h c q.1)) gs))

      outer : on_hull vs ts m ≡ true
      outer =
          any← (outer_edge vs ts m) (all_numbers vs) h (up_to← (length vs) h h_below)
          (outer_is vs m h ts off ∙ and_from (or (has_edge ts m h) (has_edge ts h m)) (not (has_edge ts m h))
          (or_right (has_edge ts m h) (has_edge ts h m) (any← (λ t. goes t h m) ts t it (rot_goes t h m g (rot_next t g h m (rot_next t m g h ρ)))))
          (not_from_false (has_edge ts m h) (false_from_ne_true (has_edge ts m h) (λ y. no_twin (any→ (λ t. goes t m h) ts y)))))

    pub hull_from : on_hull vs ts m ≡ true
    hull_from = let κ = cone_at vs ts T m k m_below k_below in outer κ.tri κ.here κ.b κ.c κ.corners κ.after_b κ.before_c

  -- ---- an edge of the outer face begins at m: its twin comes to m, and has all vertices on its left or on it
  pub hull_to : (m : ℕ) → on_hull vs ts m ≡ true → (j : ℕ) × (j < length vs) × ¬ (j ≡ m) × ((z : ℕ) → z < length vs → LeftOn (P j) (P m) (P z))
  hull_to m h = elim (or→ (has_edge ts m j) (has_edge ts j m) (and_left (or (has_edge ts m j) (has_edge ts j m)) (not (has_edge ts m j)) outer)) [
    | inl e ↦ absurd (true_false (has_edge ts m j) e none)
    | inr e ↦ by_twin (any→ (λ t. goes t j m) ts e)
  ]
    where
      r : (j : ℕ) × In j (all_numbers vs) × (outer_edge vs ts m j ≡ true)
      r = any→ (outer_edge vs ts m) (all_numbers vs) h

      j : ℕ
      j = r.0

      outer : or (has_edge ts m j) (has_edge ts j m) && not (has_edge ts m j) ≡ true
      outer = sym (outer_is vs m j ts off) ∙ r.2

      none : has_edge ts m j ≡ false
      none = not-true (has_edge ts m j) (and_right (or (has_edge ts m j) (has_edge ts j m)) (not (has_edge ts m j)) outer)

      by_twin : (t : Tri) × In t ts × (goes t j m ≡ true) → (j : ℕ) × (j < length vs) × ¬ (j ≡ m) × ((z : ℕ) → z < length vs → LeftOn (P j) (P m) (P z))
      by_twin b =
          let t = b.0 in let q = goes_rot t j m b.2 in let c = q.0 in let gt = T.triangle t b.1 in (
            j,
            rot_below vs t j m c q.1 gt,
            (left_different vs T.ones j m c (rot_left vs t T.ones j m c q.1 gt)).0,
            λ z l. elim (split_below (Orient (P j) (P m) (P z))) [
              | inl s ↦ s
              | inr s ↦ let n = neighbour vs ts T t b.1 j m c q.1 z l s in absurd (true_false (has_edge ts m j) (any← (λ t. goes t m j) ts n.0 n.1 n.2) none)
            ],
          )
