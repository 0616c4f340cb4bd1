-- A new vertex p strictly between the ends of an edge e = ab of a line, whether e ends the line or not: the half edges that there are then, and that none has a vertex between its ends.
use Rattle.std.proofs.Common.{◌≡◌, ℕ, ◌+◌, ◌<◌, ◌≤◌, ◌≢◌, ◌⊎◌, sym, ap, ◌∙◌, subst, inl, inr, arith}
use Rattle.std.proofs.lemmas.Bool.{cases_eq, cases_lt}
use Rattle.exact.specs.Plane.{Point}
use Rattle.exact.proofs.Geometry.Words.{InSegment, Site, On, Between}
use Rattle.exact.proofs.Geometry.Betweenness.{between_swap, between_front, between_back}
use Rattle.exact.proofs.Geometry.Spots.{same_of, same_at}
use Rattle.exact.proofs.Geometry.LineOrder.{not_start, not_end, overlap}
use Rattle.dcel.specs.Map.{Map, twin}
use Rattle.dcel.specs.Mesh.{Sound}
use Rattle.dcel.specs.Geometry.{Geometric}
use Rattle.dcel.proofs.Twins.{twin_twin, twin_apart}
use Rattle.dcel.proofs.Neighbours.{new_pairs}
use Rattle.dcel.proofs.Sites.{site, same_vertex, ends_apart}
use Rattle.dcel.proofs.StrictlyBetween.{not_strictly_between→}
use Rattle.dcel.proofs.Legal.NewVertex.{Fresh, each_vertex, OnEdge}
use Rattle.dcel.proofs.NoFace.{all_outer, on_line}

-- n is m with p on e: e goes on to p, two new half edges join p and b, and one turns back where one did
pub record SplitLine (m n : Map) (e : ℕ) : Type 0 where
  pub vertices_is : n.vertices ≡ m.vertices + 1
  pub half_edges_is : n.half_edges ≡ m.half_edges + 2
  pub faces_is : n.faces ≡ m.faces
  pub from_e : n.origin e ≡ m.origin e
  pub to_e : n.origin (twin e) ≡ m.vertices
  pub from_pb : n.origin m.half_edges ≡ m.vertices
  pub from_bp : n.origin (m.half_edges + 1) ≡ m.origin (twin e)
  pub others : (x : ℕ) → x < m.half_edges → x ≢ e → x ≢ twin e → n.origin x ≡ m.origin x
  pub turn_e : n.next e ≢ twin e
  pub turn_pb : n.next m.half_edges ≡ m.half_edges + 1 → m.next e ≡ twin e
  pub turn_bp : n.next (m.half_edges + 1) ≢ m.half_edges
  pub turn_others : (x : ℕ) → x < m.half_edges → x ≢ e → n.next x ≡ twin x → m.next x ≡ twin x

module _ (pos : ℕ → Point) (m n : Map) (S : Sound m) (N : Sound n) (G : Geometric pos m) (few : m.faces ≤ 1) (e : ℕ) (h : e < m.half_edges) (K : SplitLine m n e) (i : OnEdge pos m G e) where
  abbrev s : ℕ → Site
  s = site G

  abbrev a : Site
  a = s (m.origin e)

  abbrev b : Site
  b = s (m.origin (twin e))

  abbrev v : Site
  v = s m.vertices

  pub in_twin : twin e < m.half_edges
  in_twin = S.twin_in e h

  pub in_a : m.origin e < m.vertices
  in_a = S.origin_in e h

  pub in_b : m.origin (twin e) < m.vertices
  in_b = S.origin_in (twin e) in_twin

  -- the half edges of n
  pub record Other (x : ℕ) : Type 0 where
    pub old : x < m.half_edges
    pub not_e : x ≢ e
    pub not_twin : x ≢ twin e
    pub from_is : n.origin x ≡ m.origin x
    pub to_is : n.origin (twin x) ≡ m.origin (twin x)

  other : (x : ℕ) → x < m.half_edges → x ≢ e → x ≢ twin e → Other x
  other x l p q = record {
    old = l;
    not_e = p;
    not_twin = q;
    from_is = K.others x l p q;
    to_is = K.others (twin x) (S.twin_in x l) (λ r. q (sym (twin_twin x) ∙ ap twin r)) (twin_apart x e p);
  }

  abbrev pub Kind : ℕ → Type 0
  Kind x = (x ≡ e) ⊎ (x ≡ twin e) ⊎ (x ≡ m.half_edges) ⊎ (x ≡ m.half_edges + 1) ⊎ Other x

  pub kind : (x : ℕ) → x < n.half_edges → Kind x
  kind x l = elim (cases_lt x m.half_edges) [
    | inl o ↦ elim (cases_eq x e) [ inl q ↦ inl q | inr p ↦ elim (cases_eq x (twin e)) [ inl q ↦ inr (inl q) | inr q ↦ inr (inr (inr (inr (other x o p q)))) ] ]
    | inr o ↦ elim (cases_eq x m.half_edges) [ inl q ↦ inr (inr (inl q)) | inr p ↦ inr (inr (inr (inl (omega (arith, K.half_edges_is))))) ]
  ]

  -- what is said of the ends of each
  pub each_kind : (Q : ℕ → ℕ → ℕ → Type 0) → Q e (m.origin e) m.vertices → Q (twin e) m.vertices (m.origin e) → Q m.half_edges m.vertices (m.origin (twin e)) →
      Q (m.half_edges + 1) (m.origin (twin e)) m.vertices → ((x : ℕ) → Other x → Q x (m.origin x) (m.origin (twin x))) → (x : ℕ) → x < n.half_edges → Q x (n.origin x) (n.origin (twin x))
  each_kind Q qe qt qpb qbp qo x l = elim (kind x l) [
    | inl q ↦ subst (λ x. Q x (n.origin x) (n.origin (twin x))) (sym q) (rw (K.from_e, K.to_e) qe)
    | inr r ↦ elim r [
      | inl q ↦ subst (λ x. Q x (n.origin x) (n.origin (twin x))) (sym q) (rw (twin_twin e, K.from_e, K.to_e) qt)
      | inr r ↦ elim r [
        | inl q ↦ subst (λ x. Q x (n.origin x) (n.origin (twin x))) (sym q) (rw ((new_pairs m S).t0, K.from_pb, K.from_bp) qpb)
        | inr r ↦ elim r [
          | inl q ↦ subst (λ x. Q x (n.origin x) (n.origin (twin x))) (sym q) (rw ((new_pairs m S).t1, K.from_pb, K.from_bp) qbp)
          | inr o ↦ rw (o.from_is, o.to_is) (qo x o)
        ]
      ]
    ]
  ]

  -- ---- nothing is strictly between
  clear_ab : (u : ℕ) → u < m.vertices → Between a b (s u) → ⊥
  clear_ab u l = not_strictly_between→ _ _ _ (G.clear e h (all_outer S few e h) u l)

  pub line_edge_fresh : Fresh pos m
  line_edge_fresh u l x y = clear_ab u l (subst (λ (q : Point). InSegment a.at b.at q) (sym (same_at (s u) v (same_of (s u) v x y))) i)

  others_clear : (x : ℕ) → Other x → Between (s (m.origin x)) (s (m.origin (twin x))) v → ⊥
  others_clear x o k = elim (overlap (s (m.origin x)) (s (m.origin (twin x))) (ends_apart S G x o.old) a b v (on_x (m.origin e) in_a) (on_x (m.origin (twin e)) in_b) i k (clear_x (m.origin e) in_a) (clear_x (m.origin (twin e)) in_b) (clear_ab (m.origin x) in_u) (clear_ab (m.origin (twin x)) in_y)) [
    | inl r ↦ o.not_e (G.single few x e o.old h (sym (same_vertex G _ _ in_a in_u r.0)) (sym (same_vertex G _ _ in_b in_y r.1)))
    | inr r ↦ o.not_twin (G.single few x (twin e) o.old in_twin (sym (same_vertex G _ _ in_b in_u r.1)) (sym (ap m.origin (twin_twin e) ∙ same_vertex G _ _ in_a in_y r.0)))
  ]
    where
      in_u : m.origin x < m.vertices
      in_u = S.origin_in x o.old

      in_y : m.origin (twin x) < m.vertices
      in_y = S.origin_in (twin x) (S.twin_in x o.old)

      on_x : (u : ℕ) → u < m.vertices → On (s (m.origin x)) (s (m.origin (twin x))) (s u)
      on_x = on_line S few G x o.old

      clear_x : (u : ℕ) → u < m.vertices → Between (s (m.origin x)) (s (m.origin (twin x))) (s u) → ⊥
      clear_x u l = not_strictly_between→ _ _ _ (G.clear x o.old (all_outer S few x o.old) u l)

  clear_each : (x y : ℕ) → ((u : ℕ) → u < m.vertices → Between (s x) (s y) (s u) → ⊥) → (Between (s x) (s y) v → ⊥) → (u : ℕ) → u < n.vertices → Between (s x) (s y) (s u) → ⊥
  clear_each x y = each_vertex (λ u. Between (s x) (s y) (s u) → ⊥) m.vertices n.vertices K.vertices_is

  pub clear : (x : ℕ) → x < n.half_edges → (u : ℕ) → u < n.vertices → Between (s (n.origin x)) (s (n.origin (twin x))) (s u) → ⊥
  clear = each_kind (λ _ x y. (u : ℕ) → u < n.vertices → Between (s x) (s y) (s u) → ⊥)
      (clear_each (m.origin e) m.vertices (λ u l k. clear_ab u l (between_front a b v (s u) i k)) (not_end a v))
      (clear_each m.vertices (m.origin e) (λ u l k. clear_ab u l (between_front a b v (s u) i (between_swap v a (s u) k))) (not_start v a))
      (clear_each m.vertices (m.origin (twin e)) (λ u l k. clear_ab u l (between_back a b v (s u) i k)) (not_start v b))
      (clear_each (m.origin (twin e)) m.vertices (λ u l k. clear_ab u l (between_back a b v (s u) i (between_swap b v (s u) k))) (not_end b v))
      (λ x o. clear_each (m.origin x) (m.origin (twin x)) (λ u l. not_strictly_between→ _ _ _ (G.clear x o.old (all_outer S few x o.old) u l)) (others_clear x o))
