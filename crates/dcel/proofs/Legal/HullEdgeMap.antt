-- Splitting an edge e = ab with the face abc on its left and the outside across it at p: the corners of the two faces, and which half edges are outer.
use Rattle.std.proofs.Common.{◌≡◌, ℕ, ◌+◌, ◌<◌, ◌≢◌, ◌⊎◌, sym, ap, ◌∙◌, subst, inl, inr, arith}
use Rattle.std.proofs.lemmas.Bool.{cases_eq, cases_lt}
use Rattle.exact.specs.Plane.{Point}
use Rattle.dcel.specs.Pairs.{Source}
use Rattle.dcel.specs.Map.{Map, twin}
use Rattle.dcel.specs.Mesh.{Sound}
use Rattle.dcel.specs.Patch.{Patch}
use Rattle.dcel.specs.EdgeSurgery.{HullEdge, split_hull_edge_patch}
use Rattle.dcel.specs.Legal.{EdgeListed, Ready}
use Rattle.dcel.proofs.Changes.{source?, elsewhere}
use Rattle.dcel.proofs.Fits.{IsPatched, Relinks, Fits}
use Rattle.dcel.proofs.Twins.{twin_twin, twin_ne, twin_apart}
use Rattle.dcel.proofs.Neighbours.{InTriangle, in_triangle, new_pairs}
use Rattle.dcel.proofs.Legal.Keeping.{listed_other, ready_keep, SameOuter}

module _ (m : Map) (S : Sound m) (e : ℕ) (may : HullEdge m e) (n : Map) (D : IsPatched m n (split_hull_edge_patch m e)) (relinks : Relinks m (split_hull_edge_patch m e)) (w : Fits m n (split_hull_edge_patch m e)) where
  abbrev p : Patch
  p = split_hull_edge_patch m e

  pub in_twin : twin e < m.half_edges
  in_twin = S.twin_in e may.in_e

  pub near : InTriangle m e
  near = in_triangle m S e may.in_e may.left

  origin_same : (x : ℕ) → x < m.half_edges → x ≢ twin e → n.origin x ≡ m.origin x
  origin_same x h q = D.origin_off x (elsewhere p.origins x (omega arith))

  pub from_e : n.origin e ≡ m.origin e
  from_e = origin_same e may.in_e (λ q. twin_ne e (sym q))

  -- the corners of the two faces: a p c at e, p b c at pb; and the two outer half edges, p a at the twin of e and b p
  pub to_e : n.origin (twin e) ≡ m.vertices
  to_e = D.origin_at.0

  pub apex_e : n.origin (n.prev e) ≡ m.origin (m.prev e)
  apex_e = ap n.origin D.prev_at.1.1.0 ∙ origin_same (m.prev e) near.prev_in (λ q. may.left (sym near.face_prev ∙ ap m.face q ∙ may.right))

  pub from_pb : n.origin m.half_edges ≡ m.vertices
  from_pb = D.origin_at.1.0

  pub from_bp : n.origin (m.half_edges + 1) ≡ m.origin (twin e)
  from_bp = D.origin_at.1.1.0

  pub apex_pb : n.origin (n.prev m.half_edges) ≡ m.origin (m.prev e)
  apex_pb = ap n.origin D.prev_at.1.1.1.1.1.0 ∙ D.origin_at.1.1.1.1.0

  -- what is outer: the two at p, and what was so
  pub outer_kinds : (x : ℕ) → x < n.half_edges → n.face x ≡ 0 → (x ≡ twin e) ⊎ (x ≡ m.half_edges + 1) ⊎ ((x ≢ twin e) × SameOuter m n S p D relinks w x)
  outer_kinds x h z = elim (source? x p.sides) [ inl k ↦ listed k | inr f ↦ elim (cases_eq x (twin e)) [ inl q ↦ inl q | inr q ↦ inr (inr (q, kept f q)) ] ]
    where
      listed : Source x p.sides → (x ≡ twin e) ⊎ (x ≡ m.half_edges + 1) ⊎ ((x ≢ twin e) × SameOuter m n S p D relinks w x)
      listed k = inr (inl (let f = D.face_at in let a = may.left in let b = S.face_in e may.in_e in grind arith))

      kept : (Source x p.sides → ⊥) → x ≢ twin e → SameOuter m n S p D relinks w x
      kept f q =
          let o : x < m.half_edges = elim (cases_lt x m.half_edges) [ inl l ↦ l | inr l ↦ absurd (f (w.new_edge x (omega arith) h).2) ] in
          let was : m.face x ≡ 0 = sym (D.face_off x f) ∙ z in
          record {
            old = o;
            outer = was;
            from_is = origin_same x o q;
            to_is = origin_same (twin x) (S.twin_in x o) (twin_apart x e (λ r. may.left (ap m.face (sym r) ∙ was)));
          }

  -- what is said of the ends of p a, of b p, and of every outer half edge that stays
  pub outer_each : (Q : ℕ → ℕ → Type 0) → Q m.vertices (m.origin e) → Q (m.origin (twin e)) m.vertices → ((x : ℕ) → x < m.half_edges → m.face x ≡ 0 → x ≢ twin e → Q (m.origin x) (m.origin (twin x))) →
      (x : ℕ) → x < n.half_edges → n.face x ≡ 0 → Q (n.origin x) (n.origin (twin x))
  outer_each Q pa bp stay x h z = elim (outer_kinds x h z) [
    | inl q ↦ subst (λ x. Q (n.origin x) (n.origin (twin x))) (sym q) (rw (twin_twin e, to_e, from_e) pa)
    | inr r ↦ elim r [
      | inl q ↦ subst (λ x. Q (n.origin x) (n.origin (twin x))) (sym q) (rw ((new_pairs m S).t1, from_bp, from_pb) bp)
      | inr k ↦ (let o = k.1 in rw (o.from_is, o.to_is) (stay x o.old o.outer k.0))
    ]
  ]

  pub outside : n.face (m.prev (twin e)) ≡ 0
  outside = sym w.same_side.1.1.1.1.1.1.0 ∙ D.face_at.1.1.1.1.1.1.0

  -- with the sides of the face, both halves of the edge and the new edge listed, every other edge is as right as it was
  pub split_hull_edge_ready : (pos : ℕ → Point) (Before After : ℕ → Type 0) → ((x : ℕ) → Before x → EdgeListed After x) → EdgeListed After e → EdgeListed After (m.next e) → EdgeListed After (m.prev e) →
      EdgeListed After m.half_edges → EdgeListed After (m.half_edges + 2) → Ready pos m Before → Ready pos n After
  split_hull_edge_ready pos Before After more ap bc ca pb pc =
      let k = new_pairs m S in
      ready_keep m n S p D relinks w pos Before After more
      (λ _. ap, (λ _. pc, (λ _. ca, (λ _. pb, (λ _. bc, (λ _. listed_other After _ _ k.t3 pc, (λ z. absurd (z outside), (λ _. listed_other After _ _ k.t1 pb, tt))))))))
