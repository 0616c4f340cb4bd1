-- A new vertex p strictly between the ends of an edge e = ab of a line keeps the geometry: nothing is beyond the ends of the line, and no two vertices are joined twice.
use Rattle.std.proofs.Common.{◌≡◌, ℕ, ◌+◌, ◌<◌, ◌≤◌, ◌⊎◌, sym, ap, ◌∙◌, subst, inl, inr, arith}
use Rattle.std.proofs.lemmas.Int.{ints}
use Rattle.exact.specs.Plane.{Point}
use Rattle.exact.proofs.Geometry.Words.{Site, Between}
use Rattle.exact.proofs.Geometry.Betweenness.{between_swap}
use Rattle.exact.proofs.Geometry.LineOrder.{Before, along_start, along_end}
use Rattle.dcel.specs.Map.{Map, twin}
use Rattle.dcel.specs.Mesh.{Sound}
use Rattle.dcel.specs.Geometry.{Geometric}
use Rattle.dcel.proofs.Twins.{twin_twin, twin_ne}
use Rattle.dcel.proofs.Neighbours.{new_pairs}
use Rattle.dcel.proofs.Sites.{site}
use Rattle.dcel.proofs.StrictlyBetween.{not_strictly_between→}
use Rattle.dcel.proofs.Legal.NewVertex.{each_vertex, OnEdge}
use Rattle.dcel.proofs.Legal.Lines.{ab, order_of, in_order, line_geometric}
use Rattle.dcel.proofs.Legal.LineSplit.{SplitLine, Other, Kind, kind, each_kind, in_a, in_b, in_twin, line_edge_fresh, clear}

module _ (pos : ℕ → Point) (m n : Map) (S : Sound m) (N : Sound n) (G : Geometric pos m) (few : m.faces ≤ 1) (e : ℕ) (h : e < m.half_edges) (K : SplitLine m n e) (i : OnEdge pos m G e) where
  abbrev s : ℕ → Site
  s = site G

  abbrev a : Site
  a = s (m.origin e)

  abbrev b : Site
  b = s (m.origin (twin e))

  abbrev v : Site
  v = s m.vertices

  -- old numbers, and the new one, as numbers of n
  old : {u : ℕ} → u < m.vertices → u < n.vertices
  old l = omega (arith, K.vertices_is)

  new : m.vertices < n.vertices
  new = omega (arith, K.vertices_is)

  la : m.origin e < n.vertices
  la = old (in_a pos m n S N G few e h K i)

  lb : m.origin (twin e) < n.vertices
  lb = old (in_b pos m n S N G few e h K i)

  order : (x y z : ℕ) → x < n.vertices → z < n.vertices → Between (s x) (s y) (s z) → (Before a b (s x) (s z) × Before a b (s z) (s y)) ⊎ (Before a b (s y) (s z) × Before a b (s z) (s x))
  order = order_of pos m S G few n N K.faces_is K.vertices_is e h i.on

  ordered : (x y z : ℕ) → x < n.vertices → y < n.vertices → z < n.vertices → Before a b (s x) (s z) → Before a b (s z) (s y) → Between (s x) (s y) (s z)
  ordered = in_order pos m S G few n N K.faces_is K.vertices_is e h i.on

  -- a, p, b in this order
  pub a_b : Before a b a b
  a_b = let d = ab pos m S G few n N K.faces_is K.vertices_is e h i.on in omega (arith, ints, along_start a b, along_end a b)

  pub a_p_b : Before a b a v × Before a b v b
  a_p_b = elim (order (m.origin e) (m.origin (twin e)) m.vertices la new i) [ inl k ↦ k | inr k ↦ (let k₀ = k.0 in let k₁ = k.1 in let l = a_b in absurd (omega (arith, ints))) ]

  -- nothing is beyond an end: of m, and then of n
  ends_m : (x : ℕ) → x < m.half_edges → m.next x ≡ twin x → (u : ℕ) → u < m.vertices → Between (s (m.origin x)) (s u) (s (m.origin (twin x))) → ⊥
  ends_m x l q u k = not_strictly_between→ _ _ _ (G.ends few x l q u k)

  abbrev NotBeyond : ℕ → ℕ → ℕ → Type 0
  NotBeyond x y u = Between (s x) (s u) (s y) → ⊥

  each : (x y : ℕ) → ((u : ℕ) → u < m.vertices → NotBeyond x y u) → NotBeyond x y m.vertices → (u : ℕ) → u < n.vertices → NotBeyond x y u
  each x y = each_vertex (NotBeyond x y) m.vertices n.vertices K.vertices_is

  -- at a, seen from p
  end_a : m.next (twin e) ≡ twin (twin e) → (u : ℕ) → u < n.vertices → NotBeyond m.vertices (m.origin e) u
  end_a q = each m.vertices (m.origin e)
      (λ u l k. elim (order m.vertices u (m.origin e) new la k) [
        | inl r ↦ (let r₀ = r.0 in let o = a_p_b.0 in absurd (omega (arith, ints)))
        | inr r ↦ ends_m (twin e) (in_twin pos m n S N G few e h K i) q u l (subst (λ x. Between b (s u) (s (m.origin x))) (sym (twin_twin e)) (between_swap (s u) b a (ordered u (m.origin (twin e)) (m.origin e) (old l) lb la r.0 a_b)))
      ])
      (λ k. elim (order m.vertices m.vertices (m.origin e) new la k) [ inl r ↦ (let r₀ = r.0 in let r₁ = r.1 in absurd (omega (arith, ints))) | inr r ↦ (let r₀ = r.0 in let r₁ = r.1 in absurd (omega (arith, ints))) ])

  -- at b, seen from p
  end_b : m.next e ≡ twin e → (u : ℕ) → u < n.vertices → NotBeyond m.vertices (m.origin (twin e)) u
  end_b q = each m.vertices (m.origin (twin e))
      (λ u l k. elim (order m.vertices u (m.origin (twin e)) new lb k) [
        | inl r ↦ ends_m e h q u l (ordered (m.origin e) u (m.origin (twin e)) la (old l) lb a_b r.1)
        | inr r ↦ (let r₁ = r.1 in let o = a_p_b.1 in absurd (omega (arith, ints)))
      ])
      (λ k. elim (order m.vertices m.vertices (m.origin (twin e)) new lb k) [ inl r ↦ (let r₀ = r.0 in let r₁ = r.1 in absurd (omega (arith, ints))) | inr r ↦ (let r₀ = r.0 in let r₁ = r.1 in absurd (omega (arith, ints))) ])

  -- at the end of another half edge: p is beyond it no more than a and b are
  end_other : (x : ℕ) → Other pos m n S N G few e h K i x → m.next x ≡ twin x → (u : ℕ) → u < n.vertices → NotBeyond (m.origin x) (m.origin (twin x)) u
  end_other x o q = each (m.origin x) (m.origin (twin x)) (ends_m x o.old q)
      (λ k. elim (order (m.origin x) m.vertices (m.origin (twin x)) lx ly k) [
        | inl r ↦ (let r₁ = r.1 in let p = a_p_b.1 in ends_m x o.old q (m.origin (twin e)) (in_b pos m n S N G few e h K i) (ordered (m.origin x) (m.origin (twin e)) (m.origin (twin x)) lx lb ly r.0 (omega (arith, ints))))
        | inr r ↦ (let r₀ = r.0 in let p = a_p_b.0 in ends_m x o.old q (m.origin e) (in_a pos m n S N G few e h K i) (between_swap a (s (m.origin x)) (s (m.origin (twin x))) (ordered (m.origin e) (m.origin x) (m.origin (twin x)) la lx ly (omega (arith, ints)) r.1)))
      ])
    where
      lx : m.origin x < n.vertices
      lx = old (S.origin_in x o.old)

      ly : m.origin (twin x) < n.vertices
      ly = old (S.origin_in (twin x) (S.twin_in x o.old))

  ends : (x : ℕ) → x < n.half_edges → n.next x ≡ twin x → (u : ℕ) → u < n.vertices → NotBeyond (n.origin x) (n.origin (twin x)) u
  ends = each_kind pos m n S N G few e h K i (λ z x y. n.next z ≡ twin z → (u : ℕ) → u < n.vertices → NotBeyond x y u)
      (λ q. absurd (K.turn_e q))
      (λ q. end_a (K.turn_others (twin e) (in_twin pos m n S N G few e h K i) (twin_ne e) q))
      (λ q. end_b (K.turn_pb (q ∙ (new_pairs m S).t0)))
      (λ q. absurd (K.turn_bp (q ∙ (new_pairs m S).t1)))
      (λ x o q. end_other x o (K.turn_others x o.old o.not_e q))

  -- no two vertices are joined twice
  single : (x y : ℕ) → x < n.half_edges → y < n.half_edges → n.origin x ≡ n.origin y → n.origin (twin x) ≡ n.origin (twin y) → x ≡ y
  single x y lx ly q r = go (kind pos m n S N G few e h K i x lx) (kind pos m n S N G few e h K i y ly)
    where
      ends_e : {x : ℕ} → x ≡ e → (n.origin x ≡ m.origin e) × (n.origin (twin x) ≡ m.vertices)
      ends_e t = (ap n.origin t ∙ K.from_e, ap (λ z. n.origin (twin z)) t ∙ K.to_e)

      ends_twin : {x : ℕ} → x ≡ twin e → (n.origin x ≡ m.vertices) × (n.origin (twin x) ≡ m.origin e)
      ends_twin t = (ap n.origin t ∙ K.to_e, ap (λ z. n.origin (twin z)) t ∙ ap n.origin (twin_twin e) ∙ K.from_e)

      ends_pb : {x : ℕ} → x ≡ m.half_edges → (n.origin x ≡ m.vertices) × (n.origin (twin x) ≡ m.origin (twin e))
      ends_pb t = (ap n.origin t ∙ K.from_pb, ap (λ z. n.origin (twin z)) t ∙ ap n.origin (new_pairs m S).t0 ∙ K.from_bp)

      ends_bp : {x : ℕ} → x ≡ m.half_edges + 1 → (n.origin x ≡ m.origin (twin e)) × (n.origin (twin x) ≡ m.vertices)
      ends_bp t = (ap n.origin t ∙ K.from_bp, ap (λ z. n.origin (twin z)) t ∙ ap n.origin (new_pairs m S).t1 ∙ K.from_pb)

      ends_other : {x : ℕ} → Other pos m n S N G few e h K i x → (n.origin x < m.vertices) × (n.origin (twin x) < m.vertices)
      ends_other {x} o = (omega (arith, o.from_is, S.origin_in x o.old), omega (arith, o.to_is, S.origin_in (twin x) (S.twin_in x o.old)))

      ia : m.origin e < m.vertices
      ia = in_a pos m n S N G few e h K i

      ib : m.origin (twin e) < m.vertices
      ib = in_b pos m n S N G few e h K i

      go : Kind pos m n S N G few e h K i x → Kind pos m n S N G few e h K i y → x ≡ y
      go (inl s) (inl t) = s ∙ sym t
      go (inl s) (inr (inl t)) = absurd (omega (arith, ends_e s, ends_twin t, ia))
      go (inl s) (inr (inr (inl t))) = absurd (omega (arith, ends_e s, ends_pb t, ia))
      go (inl s) (inr (inr (inr (inl t)))) = absurd (S.no_loop e h (omega (arith, ends_e s, ends_bp t)))
      go (inl s) (inr (inr (inr (inr o)))) = absurd (omega (arith, ends_e s, ends_other o))
      go (inr (inl s)) (inl t) = absurd (omega (arith, ends_twin s, ends_e t, ia))
      go (inr (inl s)) (inr (inl t)) = s ∙ sym t
      go (inr (inl s)) (inr (inr (inl t))) = absurd (S.no_loop e h (omega (arith, ends_twin s, ends_pb t)))
      go (inr (inl s)) (inr (inr (inr (inl t)))) = absurd (omega (arith, ends_twin s, ends_bp t, ib))
      go (inr (inl s)) (inr (inr (inr (inr o)))) = absurd (omega (arith, ends_twin s, ends_other o))
      go (inr (inr (inl s))) (inl t) = absurd (omega (arith, ends_pb s, ends_e t, ia))
      go (inr (inr (inl s))) (inr (inl t)) = absurd (S.no_loop e h (omega (arith, ends_pb s, ends_twin t)))
      go (inr (inr (inl s))) (inr (inr (inl t))) = s ∙ sym t
      go (inr (inr (inl s))) (inr (inr (inr (inl t)))) = absurd (omega (arith, ends_pb s, ends_bp t, ib))
      go (inr (inr (inl s))) (inr (inr (inr (inr o)))) = absurd (omega (arith, ends_pb s, ends_other o))
      go (inr (inr (inr (inl s)))) (inl t) = absurd (S.no_loop e h (omega (arith, ends_bp s, ends_e t)))
      go (inr (inr (inr (inl s)))) (inr (inl t)) = absurd (omega (arith, ends_bp s, ends_twin t, ib))
      go (inr (inr (inr (inl s)))) (inr (inr (inl t))) = absurd (omega (arith, ends_bp s, ends_pb t, ib))
      go (inr (inr (inr (inl s)))) (inr (inr (inr (inl t)))) = s ∙ sym t
      go (inr (inr (inr (inl s)))) (inr (inr (inr (inr o)))) = absurd (omega (arith, ends_bp s, ends_other o))
      go (inr (inr (inr (inr o)))) (inl t) = absurd (omega (arith, ends_other o, ends_e t))
      go (inr (inr (inr (inr o)))) (inr (inl t)) = absurd (omega (arith, ends_other o, ends_twin t))
      go (inr (inr (inr (inr o)))) (inr (inr (inl t))) = absurd (omega (arith, ends_other o, ends_pb t))
      go (inr (inr (inr (inr o)))) (inr (inr (inr (inl t)))) = absurd (omega (arith, ends_other o, ends_bp t))
      go (inr (inr (inr (inr o)))) (inr (inr (inr (inr p)))) = G.single few x y o.old p.old (sym o.from_is ∙ q ∙ p.from_is) (sym o.to_is ∙ r ∙ p.to_is)

  pub split_line_geometric : Geometric pos n
  split_line_geometric = line_geometric pos m S G few n N K.faces_is K.vertices_is e h i.on (line_edge_fresh pos m n S N G few e h K i) (clear pos m n S N G few e h K i) ends single
