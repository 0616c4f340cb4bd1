-- A mesh on a line: its half edges go between neighbours, and between any two.
use Rattle.std.proofs.Common.{◌≡◌, ℕ, ◌<◌, ◌≤◌, true, ◌&&◌, ltb, ◌≢◌, ◌⊎◌, List, length, sym, ap, ◌∙◌, subst, inl, inr, arith}
use Rattle.exact.specs.Plane.{Vertex, spot, Tri, on_segment, neighbours_on_line, joined}
use Rattle.std.proofs.lemmas.Bool.{false_from_ne_true, ltb-true, cases_eq}
use Rattle.exact.proofs.Booleans.{true_false, and_left, and_right}
use Rattle.exact.proofs.Geometry.Words.{Site, Between, Apart, On}
use Rattle.exact.proofs.Geometry.Betweenness.{between_swap}
use Rattle.exact.proofs.Geometry.Segments.{on_segment→, on_segment←}
use Rattle.exact.proofs.Geometry.Line.{between_one}
use Rattle.exact.proofs.Geometry.LineSides.{not_across}
use Rattle.exact.proofs.Geometry.Joined.{neighbours_on_line←, neighbours_different, neighbours_none_on, line_joined_is, line_joined←}
use Rattle.dcel.specs.Map.{Map, twin}
use Rattle.dcel.specs.Mesh.{Sound}
use Rattle.dcel.specs.Geometry.{from, to, Geometric}
use Rattle.dcel.proofs.Twins.{twin_twin}
use Rattle.dcel.proofs.StrictlyBetween.{not_strictly_between→}
use Rattle.dcel.proofs.Sites.{site, stop, different_apart, none_between, stop_in, ends_apart}
use Rattle.dcel.proofs.NoFace.{all_outer}
use Rattle.dcel.proofs.Delaunay.FaceOrLine.{three_on_line, no_face_line}
use Rattle.dcel.proofs.Delaunay.TriangleEdges.{Joins}

module _ (vs : List Vertex) {m : Map} (S : Sound m) (G : Geometric (spot vs) m) (len : m.vertices ≡ length vs) (none : m.faces ≤ 1) where
  pub line_edge_joined : (ts : List Tri) (e : ℕ) → e < m.half_edges → joined vs ts (m.origin e) (m.origin (twin e)) ≡ true
  line_edge_joined ts e h =
      let a = m.origin e in let b = m.origin (twin e) in let ha = S.origin_in e h in let hb = stop_in S e h in
      line_joined← vs a b ts (no_face_line vs S G len none) (omega arith) (omega arith) (neighbours_on_line← vs a b (S.no_loop e h) (λ c l na nb. false_from_ne_true (on_segment (spot vs a) (spot vs b) (spot vs c)) (λ on.
      none_between G e h (all_outer S none e h) c (omega arith)
      (on_segment→ (site G a) (site G b) (site G c) on (different_apart G a c ha (omega arith) (λ q. na (sym q))) (different_apart G b c hb (omega arith) (λ q. nb (sym q)))))))

  -- ---- neighbours a and b
  module _ (a b : ℕ) (ha : a < m.vertices) (hb : b < m.vertices) (near : neighbours_on_line vs a b ≡ true) where
    abbrev A : Site
    A = site G a

    abbrev B : Site
    B = site G b

    abbrev end : ℕ → ℕ
    end e = m.origin (twin e)

    apart_ab : Apart (site G a) (site G b)
    apart_ab = different_apart G a b ha hb (neighbours_different vs a b near)

    -- a half edge from a
    record Leaves (e : ℕ) : Type 0 where
      in_e : e < m.half_edges
      from_a : m.origin e ≡ a

    apart_end : (e : ℕ) → Leaves e → Apart (site G a) (stop G e)
    apart_end e o = subst (λ (u : ℕ). Apart (site G u) (stop G e)) o.from_a (ends_apart S G e o.in_e)

    clear : (e : ℕ) → Leaves e → (v : ℕ) → v < m.vertices → Between (site G a) (stop G e) (site G v) → ⊥
    clear e o v l k = none_between G e o.in_e (all_outer S none e o.in_e) v l (subst (λ (u : ℕ). Between (site G u) (stop G e) (site G v)) (sym o.from_a) k)

    -- it goes to b, or away from it
    to_or_away : (e : ℕ) → Leaves e → (m.origin (twin e) ≡ b) ⊎ Between (stop G e) (site G b) (site G a)
    to_or_away e o = elim (cases_eq (end e) b) [
      | inl q ↦ inl q
      | inr n ↦
          let x = stop_in S e o.in_e in
          elim (between_one A B (stop G e) (three_on_line S G none a b (end e) ha hb x) apart_ab (apart_end e o) (different_apart G b (end e) hb x (λ q. n (sym q)))) [
            | inl k ↦ absurd (true_false (on_segment (spot vs a) (spot vs b) (spot vs (end e))) (on_segment← A B (stop G e) k)
                (neighbours_none_on vs a b near (end e) (omega arith) (λ q. S.no_loop e o.in_e (o.from_a ∙ sym q)) n))
            | inr s ↦ elim s [ inl k ↦ absurd (clear e o b hb k) | inr k ↦ inr k ]
          ]
    ]

    -- two of them go apart
    two_ways : (d e : ℕ) → Leaves d → Leaves e → d ≢ e → Between (stop G d) (stop G e) (site G a)
    two_ways d e o p n =
        let x = stop_in S d o.in_e in let y = stop_in S e p.in_e in
        let xy = different_apart G (end d) (end e) x y (λ q. n (G.single none d e o.in_e p.in_e (o.from_a ∙ sym p.from_a) q)) in
        elim (between_one A (stop G d) (stop G e) (three_on_line S G none a (end d) (end e) ha x y) (apart_end d o) (apart_end e p) xy) [
          | inl k ↦ absurd (clear d o (end e) y k)
          | inr s ↦ elim s [ inl k ↦ absurd (clear e p (end d) x k) | inr k ↦ between_swap (stop G e) (stop G d) A k ]
        ]

    pub neighbours_joined : (e : ℕ) × Joins m a b e
    neighbours_joined = elim (to_or_away e o) [
      | inl q ↦ (e, record { in_e = o.in_e; from_is = o.from_a; to_is = q })
      | inr k ↦ elim (to_or_away g p) [
        | inl q ↦ (g, record { in_e = p.in_e; from_is = p.from_a; to_is = q })
        | inr l ↦ absurd (elim (cases_eq g e) [
          | inl q ↦ last q k
          | inr n ↦ not_across A B apart_ab (stop G g) (stop G e) B A (line (end g) (stop_in S g p.in_e)) (line (end e) (stop_in S e o.in_e)) (line a ha) l k (two_ways g e p o n)
        ])
      ]
    ]
      where
        e : ℕ
        e = m.out a

        o : Leaves (m.out a)
        o = record { in_e = S.out_in a ha; from_a = S.out_origin a ha }

        t : twin e < m.half_edges
        t = S.twin_in e o.in_e

        -- the one after it round a
        g : ℕ
        g = m.next (twin (m.out a))

        p : Leaves (m.next (twin (m.out a)))
        p = record { in_e = S.next_in (twin e) t; from_a = S.origin_next (twin e) t ∙ ap m.origin (twin_twin e) ∙ o.from_a }

        line : (v : ℕ) → v < m.vertices → On (site G a) (site G b) (site G v)
        line v l = three_on_line S G none a b v ha hb l

        -- if there is no other, nothing is beyond a
        last : g ≡ e → Between (stop G e) (site G b) (site G a) → ⊥
        last q k = not_strictly_between→ (from (spot vs) m (twin e)) (spot vs b) (to (spot vs) m (twin e)) (G.ends none (twin e) t (q ∙ sym (twin_twin e)) b hb)
            (subst (λ (u : ℕ). Between (stop G e) (site G b) (site G u)) (sym (ap m.origin (twin_twin e) ∙ o.from_a)) k)

  pub line_joined_by : (ts : List Tri) (a b : ℕ) → joined vs ts a b ≡ true → (e : ℕ) × Joins m a b e
  line_joined_by ts a b t =
      let ha? = ltb a (length vs) in let hb? = ltb b (length vs) in let near? = neighbours_on_line vs a b in
      let both = sym (line_joined_is vs a b ts (no_face_line vs S G len none)) ∙ t in
      let below = and_left (ha? && hb?) near? both in
      let ha = ltb-true a (length vs) (and_left ha? hb? below) in let hb = ltb-true b (length vs) (and_right ha? hb? below) in
      neighbours_joined a b (omega arith) (omega arith) (and_right (ha? && hb?) near? both)
