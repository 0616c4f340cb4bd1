-- The two ways to split an edge of a line, where it does not end the line and where it does: the half edges that there are then.
use Rattle.std.proofs.Common.{◌≡◌, ℕ, ◌+◌, ◌<◌, ◌≤◌, ◌≢◌, sym, ap, ◌∙◌, inl, inr, arith}
use Rattle.std.proofs.lemmas.Bool.{cases_eq}
use Rattle.dcel.specs.Map.{Map, twin}
use Rattle.dcel.specs.Mesh.{Sound}
use Rattle.dcel.specs.EdgeSurgery.{LineEdge, split_line_edge_patch, LineEnd, split_line_end_patch}
use Rattle.dcel.proofs.Changes.{elsewhere}
use Rattle.dcel.proofs.Fits.{IsPatched}
use Rattle.dcel.proofs.Twins.{twin_ne}
use Rattle.dcel.proofs.Legal.LineSplit.{SplitLine}

-- the twin of an old half edge is old
old_twin : (m : Map) → Sound m → (x y : ℕ) → x < m.half_edges → m.half_edges ≤ y → y ≡ twin x → ⊥
old_twin m S x y h l q = omega (arith, S.twin_in x h)

module _ (m n : Map) (S : Sound m) (e : ℕ) (may : LineEdge m e) (D : IsPatched m n (split_line_edge_patch m e)) where
  -- of the origins only that of e's twin is changed
  edge_origin : (x : ℕ) → x < m.half_edges → x ≢ twin e → n.origin x ≡ m.origin x
  edge_origin x h q = D.origin_off x (elsewhere (split_line_edge_patch m e).origins x (omega arith))

  turn_others : (x : ℕ) → x < m.half_edges → x ≢ e → n.next x ≡ twin x → m.next x ≡ twin x
  turn_others x h q t = elim (cases_eq x (m.prev (twin e))) [
    | inl r ↦ absurd (old_twin m S x (m.half_edges + 1) h (omega arith) (sym (ap n.next r ∙ D.next_at.1.1.0) ∙ t))
    | inr r ↦ sym (D.next_off x (elsewhere (split_line_edge_patch m e).links x (omega arith))) ∙ t
  ]

  pub line_edge_split : SplitLine m n e
  line_edge_split = record {
    vertices_is = D.vertices_is;
    half_edges_is = D.half_edges_is;
    faces_is = D.faces_is;
    from_e = edge_origin e may.in_e (λ q. twin_ne e (sym q));
    to_e = D.origin_at.0;
    from_pb = D.origin_at.1.0;
    from_bp = D.origin_at.1.1.0;
    others = λ x h _ q. edge_origin x h q;
    turn_e = λ q. old_twin m S e m.half_edges may.in_e (omega arith) (sym D.next_at.0 ∙ q);
    turn_pb = λ q. absurd (omega (arith, D.next_at.1.0, S.next_in e may.in_e));
    turn_bp = λ q. omega (arith, D.next_at.1.1.1.0, S.twin_in e may.in_e);
    turn_others = turn_others;
  }

module _ (m n : Map) (S : Sound m) (e : ℕ) (may : LineEnd m e) (D : IsPatched m n (split_line_end_patch m e)) where
  -- of the origins only that of e's twin is changed
  end_origin : (x : ℕ) → x < m.half_edges → x ≢ twin e → n.origin x ≡ m.origin x
  end_origin x h q = D.origin_off x (elsewhere (split_line_end_patch m e).origins x (omega arith))

  pub line_end_split : SplitLine m n e
  line_end_split = record {
    vertices_is = D.vertices_is;
    half_edges_is = D.half_edges_is;
    faces_is = D.faces_is;
    from_e = end_origin e may.in_e (λ q. twin_ne e (sym q));
    to_e = D.origin_at.0;
    from_pb = D.origin_at.1.0;
    from_bp = D.origin_at.1.1.0;
    others = λ x h _ q. end_origin x h q;
    turn_e = λ q. old_twin m S e m.half_edges may.in_e (omega arith) (sym D.next_at.0 ∙ q);
    turn_pb = λ _. may.end;
    turn_bp = λ q. omega (arith, D.next_at.1.1.0, S.twin_in e may.in_e);
    turn_others = λ x h q t. sym (D.next_off x (elsewhere (split_line_end_patch m e).links x (omega arith))) ∙ t;
  }
