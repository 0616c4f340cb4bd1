-- A new vertex p past the end b of a line, where e = ab turns back, keeps the geometry.
use Rattle.std.proofs.Common.{◌≡◌, ℕ, ◌+◌, ◌<◌, ◌≤◌, false, ◌≢◌, ◌⊎◌, ◌-ℤ◌, sym, ap, ◌∙◌, subst, inl, inr, arith}
use Rattle.std.proofs.lemmas.Bool.{cases_eq, cases_lt}
use Rattle.std.proofs.lemmas.Int.{ints}
use Rattle.exact.specs.Plane.{Point}
use Rattle.exact.proofs.Algebra.Signs.{Sign}
use Rattle.exact.proofs.Geometry.Words.{InSegment, Site, On, Apart, Between}
use Rattle.exact.proofs.Geometry.Betweenness.{between_swap}
use Rattle.exact.proofs.Geometry.Identities.Sides.{orders}
use Rattle.exact.proofs.Geometry.Spots.{same_of, same_at}
use Rattle.exact.proofs.Geometry.LineOrder.{Along, Before, along_start, along_end, not_before, order_same}
use Rattle.dcel.specs.Map.{Map, twin}
use Rattle.dcel.specs.Mesh.{Sound}
use Rattle.dcel.specs.EdgeSurgery.{LineEnd, extend_line_patch}
use Rattle.dcel.specs.Geometry.{Geometric}
use Rattle.dcel.proofs.Changes.{elsewhere}
use Rattle.dcel.proofs.Fits.{IsPatched}
use Rattle.dcel.proofs.Neighbours.{new_pairs}
use Rattle.dcel.proofs.Sites.{site, same_vertex, start, stop}
use Rattle.dcel.proofs.StrictlyBetween.{not_strictly_between→}
use Rattle.dcel.proofs.Legal.NewVertex.{Fresh, each_vertex}
use Rattle.dcel.proofs.NoFace.{all_outer}
use Rattle.dcel.proofs.Legal.Lines.{ab, all_on, order_of, in_order, line_geometric}

-- p is beyond the end of e
abbrev pub Past : (pos : ℕ → Point) (m : Map) → Geometric pos m → ℕ → Type 0
Past pos m G e = Between (start G e) (site G m.vertices) (stop G e)

module _ (pos : ℕ → Point) (m n : Map) (S : Sound m) (N : Sound n) (G : Geometric pos m) (few : m.faces ≤ 1) (e : ℕ) (may : LineEnd m e) (D : IsPatched m n (extend_line_patch m e)) (i : Past pos m G e) where
  abbrev s : ℕ → Site
  s = site G

  abbrev a : Site
  a = s (m.origin e)

  abbrev b : Site
  b = s (m.origin (twin e))

  abbrev v : Site
  v = s m.vertices

  on : On a b v
  on = omega (arith, ints, i.on, orders a b v)

  in_twin : twin e < m.half_edges
  in_twin = S.twin_in e may.in_e

  in_a : m.origin e < m.vertices
  in_a = S.origin_in e may.in_e

  in_b : m.origin (twin e) < m.vertices
  in_b = S.origin_in (twin e) in_twin

  old : {u : ℕ} → u < m.vertices → u < n.vertices
  old l = omega (arith, D.vertices_is)

  new : m.vertices < n.vertices
  new = omega (arith, D.vertices_is)

  order : (x y z : ℕ) → x < n.vertices → z < n.vertices → Between (s x) (s y) (s z) → (Before a b (s x) (s z) × Before a b (s z) (s y)) ⊎ (Before a b (s y) (s z) × Before a b (s z) (s x))
  order = order_of pos m S G few n N D.faces_is D.vertices_is e may.in_e on

  ordered : (x y z : ℕ) → x < n.vertices → y < n.vertices → z < n.vertices → Before a b (s x) (s z) → Before a b (s z) (s y) → Between (s x) (s y) (s z)
  ordered = in_order pos m S G few n N D.faces_is D.vertices_is e may.in_e on

  -- a, b, p in this order, and no vertex past b
  a_b : Before a b a b
  a_b = let d = ab pos m S G few n N D.faces_is D.vertices_is e may.in_e on in omega (arith, ints, along_start a b, along_end a b)

  b_p : Before a b b v
  b_p = elim (order (m.origin e) m.vertices (m.origin (twin e)) (old in_a) (old in_b) i) [ inl k ↦ k.1 | inr k ↦ (let k₁ = k.1 in let l = a_b in absurd (omega (arith, ints))) ]

  not_past : (u : ℕ) → u < m.vertices → Sign false (Along a b b -ℤ Along a b (s u))
  not_past u l = not_before a b (ab pos m S G few n N D.faces_is D.vertices_is e may.in_e on) b (s u) (λ k.
      not_strictly_between→ _ _ _ (G.ends few e may.in_e may.end u l) (ordered (m.origin e) u (m.origin (twin e)) (old in_a) (old l) (old in_b) a_b k))

  fresh : Fresh pos m
  fresh u l x y = not_strictly_between→ _ _ _ (G.ends few e may.in_e may.end u l) (subst (λ (q : Point). InSegment a.at q b.at) (sym (same_at (s u) v (same_of (s u) v x y))) i)

  -- ---- the half edges of n: what was, and b p with its twin
  origin_same : (x : ℕ) → x < m.half_edges → n.origin x ≡ m.origin x
  origin_same x h = D.origin_off x (elsewhere (extend_line_patch m e).origins x (omega arith))

  abbrev Kind : ℕ → Type 0
  Kind x = (x < m.half_edges) ⊎ (x ≡ m.half_edges) ⊎ (x ≡ m.half_edges + 1)

  kind : (x : ℕ) → x < n.half_edges → Kind x
  kind x l = elim (cases_lt x m.half_edges) [ inl o ↦ inl o | inr o ↦ elim (cases_eq x m.half_edges) [ inl q ↦ inr (inl q) | inr q ↦ inr (inr (omega (arith, D.half_edges_is))) ] ]

  each_kind : (Q : ℕ → ℕ → ℕ → Type 0) → Q m.half_edges (m.origin (twin e)) m.vertices → Q (m.half_edges + 1) m.vertices (m.origin (twin e)) → ((x : ℕ) → x < m.half_edges → Q x (m.origin x) (m.origin (twin x))) →
      (x : ℕ) → x < n.half_edges → Q x (n.origin x) (n.origin (twin x))
  each_kind Q qbp qpb qo x l = elim (kind x l) [
    | inl o ↦ rw (origin_same x o, origin_same (twin x) (S.twin_in x o)) (qo x o)
    | inr r ↦ elim r [
      | inl q ↦ subst (λ x. Q x (n.origin x) (n.origin (twin x))) (sym q) (rw ((new_pairs m S).t0, D.origin_at.0, D.origin_at.1.0) qbp)
      | inr q ↦ subst (λ x. Q x (n.origin x) (n.origin (twin x))) (sym q) (rw ((new_pairs m S).t1, D.origin_at.0, D.origin_at.1.0) qpb)
    ]
  ]

  each : (P : ℕ → Type 0) → ((u : ℕ) → u < m.vertices → P u) → P m.vertices → (u : ℕ) → u < n.vertices → P u
  each P = each_vertex P m.vertices n.vertices D.vertices_is

  -- ---- nothing is strictly between
  between_bp : (u : ℕ) → u < n.vertices → Between b v (s u) → ⊥
  between_bp = each (λ u. Between b v (s u) → ⊥)
      (λ u l k. let o = not_past u l in let t = b_p in elim (order (m.origin (twin e)) m.vertices u (old in_b) (old l) k) [ inl r ↦ (let r₀ = r.0 in absurd (omega (arith, ints))) | inr r ↦ (let r₀ = r.0 in absurd (omega (arith, ints))) ])
      (λ k. elim (order (m.origin (twin e)) m.vertices m.vertices (old in_b) new k) [ inl r ↦ (let r₁ = r.1 in absurd (omega (arith, ints))) | inr r ↦ (let r₀ = r.0 in absurd (omega (arith, ints))) ])

  between_old : (x : ℕ) → x < m.half_edges → Between (s (m.origin x)) (s (m.origin (twin x))) v → ⊥
  between_old x l k =
      let t = b_p in
      let o = not_past (m.origin x) (S.origin_in x l) in
      let q = not_past (m.origin (twin x)) (S.origin_in (twin x) (S.twin_in x l)) in
      elim (order (m.origin x) (m.origin (twin x)) m.vertices (old (S.origin_in x l)) new k) [ inl r ↦ (let r₁ = r.1 in absurd (omega (arith, ints))) | inr r ↦ (let r₁ = r.1 in absurd (omega (arith, ints))) ]

  clear : (x : ℕ) → x < n.half_edges → (u : ℕ) → u < n.vertices → Between (s (n.origin x)) (s (n.origin (twin x))) (s u) → ⊥
  clear = each_kind (λ _ x y. (u : ℕ) → u < n.vertices → Between (s x) (s y) (s u) → ⊥) between_bp (λ u l k. between_bp u l (between_swap v b (s u) k))
      (λ x l. each (λ u. Between (s (m.origin x)) (s (m.origin (twin x))) (s u) → ⊥) (λ u k. not_strictly_between→ _ _ _ (G.clear x l (all_outer S few x l) u k)) (between_old x l))

  -- ---- nothing is beyond an end
  beyond_p : (u : ℕ) → u < n.vertices → Between b (s u) v → ⊥
  beyond_p = each (λ u. Between b (s u) v → ⊥)
      (λ u l k. let o = not_past u l in let t = b_p in elim (order (m.origin (twin e)) u m.vertices (old in_b) new k) [ inl r ↦ (let r₁ = r.1 in absurd (omega (arith, ints))) | inr r ↦ (let r₁ = r.1 in absurd (omega (arith, ints))) ])
      (λ k. elim (order (m.origin (twin e)) m.vertices m.vertices (old in_b) new k) [ inl r ↦ (let r₁ = r.1 in absurd (omega (arith, ints))) | inr r ↦ (let r₀ = r.0 in absurd (omega (arith, ints))) ])

  -- at another end p is not beyond: e would be that half edge
  beyond_old : (x : ℕ) → x < m.half_edges → x ≢ e → m.next x ≡ twin x → Between (s (m.origin x)) v (s (m.origin (twin x))) → ⊥
  beyond_old x l ne q k = elim (order (m.origin x) m.vertices (m.origin (twin x)) (old lx) (old ly) k) [
    | inl r ↦ ne (G.single few x e l may.in_e (same_vertex G (m.origin x) (m.origin e) lx in_a (order_same a b base u a (on_ab lx) (on_ab in_a) (at_a r.0))) (same_vertex G (m.origin (twin x)) (m.origin (twin e)) ly in_b (order_same a b base y b (on_ab ly) (on_ab in_b) (at_b r.0))))
    | inr r ↦ (let r₀ = r.0 in let r₁ = r.1 in let o = not_past (m.origin x) lx in let t = b_p in absurd (omega (arith, ints)))
  ]
    where
      u : Site
      u = s (m.origin x)

      y : Site
      y = s (m.origin (twin x))

      base : Apart a b
      base = ab pos m S G few n N D.faces_is D.vertices_is e may.in_e on

      lx : m.origin x < m.vertices
      lx = S.origin_in x l

      ly : m.origin (twin x) < m.vertices
      ly = S.origin_in (twin x) (S.twin_in x l)

      on_ab : {z : ℕ} → z < m.vertices → On a b (s z)
      on_ab {z} l = all_on pos m S G few n N D.faces_is D.vertices_is e may.in_e on z (old l)

      -- b is not beyond the end of x, nor the end of x beyond b
      at_b : Before a b u y → Along a b y ≡ Along a b b
      at_b uy =
          let o = not_past (m.origin (twin x)) ly in
          let t = not_before a b base y b (λ yb. not_strictly_between→ _ _ _ (G.ends few x l q (m.origin (twin e)) in_b) (ordered (m.origin x) (m.origin (twin e)) (m.origin (twin x)) (old lx) (old in_b) (old ly) uy yb)) in
          omega (arith, ints)

      -- and neither edge has the beginning of the other inside
      at_a : Before a b u y → Along a b u ≡ Along a b a
      at_a uy =
          let e₁ = at_b uy in
          let t = a_b in
          let before = not_before a b base u a (λ ua. not_strictly_between→ _ _ _ (G.clear x l (all_outer S few x l) (m.origin e) in_a) (ordered (m.origin x) (m.origin (twin x)) (m.origin e) (old lx) (old ly) (old in_a) ua (omega (arith, ints)))) in
          let after = not_before a b base a u (λ au. not_strictly_between→ _ _ _ (G.clear e may.in_e (all_outer S few e may.in_e) (m.origin x) lx) (ordered (m.origin e) (m.origin (twin e)) (m.origin x) (old in_a) (old in_b) (old lx) au (omega (arith, ints)))) in
          omega (arith, ints)

  ends : (x : ℕ) → x < n.half_edges → n.next x ≡ twin x → (u : ℕ) → u < n.vertices → Between (s (n.origin x)) (s u) (s (n.origin (twin x))) → ⊥
  ends = each_kind (λ z x y. n.next z ≡ twin z → (u : ℕ) → u < n.vertices → Between (s x) (s u) (s y) → ⊥)
      (λ _. beyond_p)
      (λ q. absurd (omega (arith, q ∙ (new_pairs m S).t1, D.next_at.1.1.0, in_twin)))
      (λ x l q. elim (cases_eq x e) [
        | inl r ↦ absurd (omega (arith, sym (ap n.next r ∙ D.next_at.0) ∙ q, S.twin_in x l))
        | inr r ↦ (let t : m.next x ≡ twin x = sym (D.next_off x (elsewhere (extend_line_patch m e).links x (omega arith))) ∙ q in
            each (λ u. Between (s (m.origin x)) (s u) (s (m.origin (twin x))) → ⊥) (λ u k. not_strictly_between→ _ _ _ (G.ends few x l t u k)) (beyond_old x l r t))
      ])

  -- ---- no two vertices are joined twice
  single : (x y : ℕ) → x < n.half_edges → y < n.half_edges → n.origin x ≡ n.origin y → n.origin (twin x) ≡ n.origin (twin y) → x ≡ y
  single x y lx ly q r = go (kind x lx) (kind y ly)
    where
      ends_bp : {x : ℕ} → x ≡ m.half_edges → (n.origin x ≡ m.origin (twin e)) × (n.origin (twin x) ≡ m.vertices)
      ends_bp t = (ap n.origin t ∙ D.origin_at.0, ap (λ z. n.origin (twin z)) t ∙ ap n.origin (new_pairs m S).t0 ∙ D.origin_at.1.0)

      ends_pb : {x : ℕ} → x ≡ m.half_edges + 1 → (n.origin x ≡ m.vertices) × (n.origin (twin x) ≡ m.origin (twin e))
      ends_pb t = (ap n.origin t ∙ D.origin_at.1.0, ap (λ z. n.origin (twin z)) t ∙ ap n.origin (new_pairs m S).t1 ∙ D.origin_at.0)

      ends_old : {x : ℕ} → x < m.half_edges → (n.origin x < m.vertices) × (n.origin (twin x) < m.vertices)
      ends_old {x} l = (omega (arith, origin_same x l, S.origin_in x l), omega (arith, origin_same (twin x) (S.twin_in x l), S.origin_in (twin x) (S.twin_in x l)))

      go : Kind x → Kind y → x ≡ y
      go (inl o) (inl t) = G.single few x y o t (sym (origin_same x o) ∙ q ∙ origin_same y t) (sym (origin_same (twin x) (S.twin_in x o)) ∙ r ∙ origin_same (twin y) (S.twin_in y t))
      go (inl o) (inr (inl t)) = absurd (omega (arith, ends_old o, ends_bp t))
      go (inl o) (inr (inr t)) = absurd (omega (arith, ends_old o, ends_pb t))
      go (inr (inl s)) (inl t) = absurd (omega (arith, ends_bp s, ends_old t))
      go (inr (inl s)) (inr (inl t)) = s ∙ sym t
      go (inr (inl s)) (inr (inr t)) = absurd (omega (arith, ends_bp s, ends_pb t, in_b))
      go (inr (inr s)) (inl t) = absurd (omega (arith, ends_pb s, ends_old t))
      go (inr (inr s)) (inr (inl t)) = absurd (omega (arith, ends_pb s, ends_bp t, in_b))
      go (inr (inr s)) (inr (inr t)) = s ∙ sym t

  pub extend_line_geometric : Geometric pos n
  extend_line_geometric = line_geometric pos m S G few n N D.faces_is D.vertices_is e may.in_e on fresh clear ends single
