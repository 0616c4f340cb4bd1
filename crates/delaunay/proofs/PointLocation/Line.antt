-- On a line: all vertices are on the line of any half edge, and where the next half edge is not the twin it goes on past the end, so that fewer vertices are left ahead.
use Rattle.std.proofs.Common.{◌≡◌, ℕ, ◌<◌, ◌≤◌, Bool, true, false, ◌≢◌, List, neg_ℤ, sym, ap, ◌∙◌, subst, inl, inr, arith}
use Rattle.std.proofs.lemmas.Int.{ints}
use Rattle.exact.specs.Plane.{Point, each, up_to}
use Rattle.std.proofs.lemmas.Bool.{false_from_ne_true}
use Rattle.exact.proofs.Lists.{In, count, count_≤length, count_strict, in_each, each_in, each_length, up_to→, up_to←, up_to_length}
use Rattle.exact.proofs.Algebra.Signs.{Sign, ◌by◌, weak, clash_zero, cancel}
use Rattle.exact.proofs.Algebra.IntegerTests.{above?, above?→, above?←}
use Rattle.exact.proofs.Geometry.Words.{Site, Dot, On, Apart, Between, signs}
use Rattle.exact.proofs.Geometry.Identities.Sides.{end_on, orders}
use Rattle.exact.proofs.Geometry.Identities.Dots.{dot_swap, dot_compose}
use Rattle.exact.proofs.Geometry.Triangles.{apart_swap}
use Rattle.exact.proofs.Geometry.Betweenness.{between_swap}
use Rattle.exact.proofs.Geometry.Spots.{same_or_apart}
use Rattle.exact.proofs.Geometry.Line.{on_three, between_one, extend_end}
use Rattle.exact.proofs.Geometry.LineOrder.{along_start}
use Rattle.dcel.specs.Map.{Map, twin}
use Rattle.dcel.specs.Mesh.{Sound}
use Rattle.dcel.specs.Geometry.{Geometric}
use Rattle.dcel.proofs.Twins.{twin_twin}
use Rattle.dcel.proofs.NoFace.{all_outer, on_line}
use Rattle.dcel.proofs.Sites.{site, start, stop, same_vertex, none_between, stop_in, ends_apart}

module _ {pos : ℕ → Point} {m : Map} (S : Sound m) (G : Geometric pos m) (flat : m.faces ≤ 1) where
  -- how many vertices are strictly past the end of e
  unfoldable pub past_end : ℕ → Site → Bool
  past_end e z = above? (neg_ℤ (Dot (stop G e) (start G e) z))

  abbrev sites : List Site
  sites = each (site G) (up_to m.vertices)

  unfoldable pub left_ahead : ℕ → ℕ
  left_ahead e = count (past_end e) sites

  pub left_ahead_bound : (e : ℕ) → left_ahead e ≤ m.vertices
  unfolding left_ahead
  left_ahead_bound e = omega (arith, count_≤length (past_end e) sites, each_length (site G) (up_to m.vertices), up_to_length m.vertices)

  -- ---- from e on to the next
  module _ (e : ℕ) (h : e < m.half_edges) (on : m.next e ≢ twin e) where
    abbrev n : ℕ
    n = m.next e

    abbrev s : Site
    s = start G e

    abbrev v : Site
    v = stop G e

    abbrev w : Site
    w = stop G n

    hn : n < m.half_edges
    hn = S.next_in e h

    begins : m.origin n ≡ m.origin (twin e)
    begins = S.origin_next e h

    -- two half edges between the same ends would be one
    sw : Apart s w
    sw = elim (same_or_apart s w) [
      | inr a ↦ a
      | inl q ↦ absurd (on (G.single flat n (twin e) hn (S.twin_in e h) begins
          (sym (same_vertex G (m.origin e) (m.origin (twin n)) (S.origin_in e h) (stop_in S n hn) q) ∙ ap m.origin (sym (twin_twin e)))))
    ]

    vw : Apart v w
    vw = rw begins at (ends_apart S G n hn)

    pub goes_on : Between s w v
    goes_on = elim (between_one s v w (on_line S flat G e h (m.origin (twin n)) (stop_in S n hn)) (ends_apart S G e h) sw vw) [
      | inl b ↦ absurd (none_between G e h (all_outer S flat e h) (m.origin (twin n)) (stop_in S n hn) b)
      | inr r ↦ elim r [
        | inl b ↦ b
        | inr b ↦ absurd (none_between G n hn (all_outer S flat n hn) (m.origin e) (S.origin_in e h) (rw begins (between_swap w v s b)))
      ]
    ]

    -- what is past the end of the next is past the end of e
    still_past : (z : Site) → In z sites → past_end n z ≡ true → past_end e z ≡ true
    unfolding past_end
    still_past z i t =
        let r = each_in (site G) (up_to m.vertices) z i in let l = up_to→ m.vertices r.0 r.1 in
        let far : Sign true (neg_ℤ (Dot w v z)) = rw begins at (above?→ (neg_ℤ (Dot w (start G n) z)) t) in
        let line : On v w z = subst (λ (y : Site). On v w y) (sym r.2) (rw begins at (on_line S flat G n hn r.0 l)) in
        let here : On s v z = subst (λ (y : Site). On s v y) (sym r.2) (on_line S flat G e h r.0 l) in
        above?← (neg_ℤ (Dot v s z)) (extend_end s v w z goes_on here (record { on = omega (arith, ints, orders v w z); opposite = far })).opposite

    pub fewer_ahead : left_ahead n < left_ahead e
    unfolding left_ahead past_end
    fewer_ahead = count_strict (past_end n) (past_end e) sites still_past w (in_each (site G) (up_to m.vertices) (m.origin (twin n)) (up_to← m.vertices (m.origin (twin n)) (stop_in S n hn)))
        (false_from_ne_true (past_end n w) (λ t. clash_zero (above?→ (neg_ℤ (Dot w (start G n) w)) t) (ap neg_ℤ (along_start w (start G n)))))
        (above?← (neg_ℤ (Dot v s w)) goes_on.opposite)

  -- ---- a place on the line, and not behind the start of e
  module _ (p : Site) where
    pub record Following (e : ℕ) : Type 0 where
      pub below : e < m.half_edges
      pub on_line : On (start G e) (stop G e) p
      pub not_behind : Sign false (Dot (start G e) (stop G e) p)

    pub follow : (e : ℕ) → Following e → Sign true (neg_ℤ (Dot (stop G e) (start G e) p)) → m.next e ≢ twin e → Following (m.next e)
    follow e f past on = record { below = hn e h on; on_line = rw (begins e h on) line; not_behind = rw (begins e h on) (weak ahead) }
      where
        h : e < m.half_edges
        h = f.below

        s₁ : Site
        s₁ = start G e

        v₁ : Site
        v₁ = stop G e

        w₁ : Site
        w₁ = stop G (m.next e)

        sv : Apart s₁ v₁
        sv = ends_apart S G e h

        here : On s₁ v₁ w₁
        here = on_line S flat G e h (m.origin (twin (m.next e))) (stop_in S (m.next e) (hn e h on))

        line : On v₁ w₁ p
        line = on_three s₁ v₁ v₁ w₁ p sv (end_on s₁ v₁) here f.on_line

        ahead : Sign true (Dot v₁ w₁ p)
        ahead =
            let a : Sign true (neg_ℤ (Dot v₁ w₁ s₁)) = (goes_on e h on).opposite by ap neg_ℤ (dot_swap v₁.at w₁.at s₁.at) in
            let b : Sign true (neg_ℤ (Dot v₁ s₁ p)) = past in
            let c : On v₁ w₁ s₁ = omega (arith, ints, here, orders s₁ v₁ w₁) in
            cancel (apart_swap s₁ v₁ sv) (search signs by dot_compose v₁ w₁ s₁ p)
