-- A new vertex p strictly between the ends of an edge e = ab with the face abc on its left and the outside across it keeps the geometry.
use Rattle.std.proofs.Common.{◌≡◌, ℕ, ◌+◌, ◌<◌, ◌≢◌, ◌⊎◌, neg_ℤ, sym, ap, ◌∙◌, subst, inl, inr, arith}
use Rattle.std.proofs.lemmas.Int.{ints}
use Rattle.exact.specs.Plane.{Point}
use Rattle.exact.proofs.Algebra.Signs.{◌by◌, zero_sign_neg}
use Rattle.exact.proofs.Geometry.Words.{InSegment, Site, Orient, Left, RightOn, On, Between}
use Rattle.exact.proofs.Geometry.Tests.{left←, not_left←}
use Rattle.exact.proofs.Geometry.Identities.Sides.{start_on, end_on}
use Rattle.exact.proofs.Geometry.Spots.{same_of, same_at}
use Rattle.exact.proofs.Geometry.Betweenness.{between_swap, front_right, back_right, between_front, between_back, ends_right}
use Rattle.exact.proofs.Geometry.Split.{edge_left, edge_right}
use Rattle.exact.proofs.Geometry.LineOrder.{not_start, not_end, overlap, ends_on}
use Rattle.dcel.specs.Map.{Map, twin}
use Rattle.dcel.specs.Mesh.{Sound}
use Rattle.dcel.specs.Patch.{Patch}
use Rattle.dcel.specs.EdgeSurgery.{HullEdge, split_hull_edge_change, split_hull_edge_patch}
use Rattle.dcel.specs.Geometry.{strictly_between, Geometric}
use Rattle.dcel.proofs.StrictlyBetween.{not_strictly_between→, not_strictly_between←}
use Rattle.dcel.proofs.Sites.{ends_apart, site, face_left, outer_right, same_vertex}
use Rattle.dcel.proofs.Legal.Corners.{LeftOf, left_turned, Corners}
use Rattle.dcel.proofs.Fits.{IsPatched, Relinks, Fits}
use Rattle.dcel.proofs.Twins.{twin_twin}
use Rattle.dcel.proofs.Neighbours.{new_pairs}
use Rattle.dcel.proofs.Legal.NewVertex.{Fresh, each_vertex, apart_with_one, OnEdge}
use Rattle.dcel.proofs.Legal.Keeping.{corners_keep, SameOuter}
use Rattle.dcel.proofs.Legal.HullEdgeMap.{in_twin, near, from_e, to_e, apex_e, from_pb, from_bp, apex_pb, outer_kinds, outer_each, outside}

module _ (pos : ℕ → Point) (m : Map) (S : Sound m) (e : ℕ) (may : HullEdge m e) (n : Map) (D : IsPatched m n (split_hull_edge_patch m e)) (relinks : Relinks m (split_hull_edge_patch m e)) (w : Fits m n (split_hull_edge_patch m e)) (G : Geometric pos m) (i : OnEdge pos m G e) where
  abbrev p : Patch
  p = split_hull_edge_patch m e

  abbrev s : ℕ → Site
  s = site G

  abbrev a : Site
  a = s (m.origin e)

  abbrev b : Site
  b = s (m.origin (twin e))

  abbrev c : Site
  c = s (m.origin (m.prev e))

  abbrev v : Site
  v = s m.vertices

  abc : Left a b c
  abc = face_left G e may.in_e may.left

  back : Between b a v
  back = between_swap a b v i

  -- the outer half edge of m across e is b → a
  right_ba : (u : ℕ) → u < m.vertices → RightOn b a (s u)
  right_ba u l = outer_right G (twin e) (in_twin m S e may n D relinks w) may.right u l by ap (λ x. neg_ℤ (Orient b (s (m.origin x)) (s u))) (sym (twin_twin e))

  clear_ba : (u : ℕ) → u < m.vertices → Between b a (s u) → ⊥
  clear_ba u l h = not_strictly_between→ _ _ _ (ap (λ x. strictly_between b.at (pos (m.origin x)) (pos u)) (sym (twin_twin e)) ∙ G.clear (twin e) (in_twin m S e may n D relinks w) may.right u l) h

  -- so the new vertex is where no other is
  pub hull_edge_fresh : Fresh pos m
  hull_edge_fresh u l x y = clear_ba u l (at_same (s u) v x y back)
    where
      at_same : (z t : Site) → z.at.x ≡ t.at.x → z.at.y ≡ t.at.y → Between b a t → Between b a z
      at_same z t x y h = subst (λ (q : Point). InSegment b.at a.at q) (sym (same_at z t (same_of z t x y))) h

  corners_e : Corners (LeftOf pos m G) n e
  corners_e = rw ((from_e m S e may n D relinks w), (to_e m S e may n D relinks w), (apex_e m S e may n D relinks w)) (edge_left a b c v abc i)

  corners_pb : Corners (LeftOf pos m G) n m.half_edges
  corners_pb = rw ((new_pairs m S).t0, (from_pb m S e may n D relinks w), (from_bp m S e may n D relinks w), (apex_pb m S e may n D relinks w)) (edge_right a b c v abc i)

  -- an outer half edge x that stays does not have p strictly between its ends: it would be b → a
  stays_clear : (x : ℕ) → x < m.half_edges → m.face x ≡ 0 → x ≢ twin e → Between (s (m.origin x)) (s (m.origin (twin x))) v → ⊥
  stays_clear x h z q k = elim (overlap u y (ends_apart S G x h) a b v on.0 on.1 i k (clear_x (m.origin e) in_a) (clear_x (m.origin (twin e)) in_b) (not_in (m.origin x) in_u) (not_in (m.origin (twin x)) in_y)) [
    | inl r ↦ (let t = outer_right G x h z (m.origin (m.prev e)) (S.origin_in _ (near m S e may n D relinks w).prev_in) in
        let o : RightOn a b c = subst (λ k. RightOn a (s k) c) (sym (same_vertex G _ _ in_b in_y r.1)) (subst (λ k. RightOn (s k) y c) (sym (same_vertex G _ _ in_a in_u r.0)) t) in
        let l = abc in omega (arith, ints))
    | inr r ↦ q (G.once (omega (arith, may.left, S.face_in e may.in_e)) x (twin e) h (in_twin m S e may n D relinks w) z may.right (sym (same_vertex G _ _ in_b in_u r.1)))
  ]
    where
      u : Site
      u = s (m.origin x)

      y : Site
      y = s (m.origin (twin x))

      in_a : m.origin e < m.vertices
      in_a = S.origin_in e may.in_e

      in_b : m.origin (twin e) < m.vertices
      in_b = S.origin_in (twin e) (in_twin m S e may n D relinks w)

      in_u : m.origin x < m.vertices
      in_u = S.origin_in x h

      in_y : m.origin (twin x) < m.vertices
      in_y = S.origin_in (twin x) (S.twin_in x h)

      on : On u y a × On u y b
      on = ends_on a b v u y i k.on (outer_right G x h z _ in_a) (outer_right G x h z _ in_b)

      clear_x : (t : ℕ) → t < m.vertices → Between u y (s t) → ⊥
      clear_x t l = not_strictly_between→ _ _ _ (G.clear x h z t l)

      not_in : (t : ℕ) → t < m.vertices → Between a b (s t) → ⊥
      not_in t l h = clear_ba t l (between_swap a b (s t) h)

  right_each : (x y : ℕ) → ((u : ℕ) → u < m.vertices → RightOn (s x) (s y) (s u)) → RightOn (s x) (s y) v → (u : ℕ) → u < n.vertices → RightOn (s x) (s y) (s u)
  right_each x y = each_vertex (λ u. RightOn (s x) (s y) (s u)) m.vertices n.vertices D.vertices_is

  right : (x : ℕ) → x < n.half_edges → n.face x ≡ 0 → (u : ℕ) → u < n.vertices → RightOn (s (n.origin x)) (s (n.origin (twin x))) (s u)
  right = outer_each m S e may n D relinks w (λ x y. (u : ℕ) → u < n.vertices → RightOn (s x) (s y) (s u))
      (right_each m.vertices (m.origin e) (λ u l. back_right b a v (s u) back (right_ba u l)) (zero_sign_neg _ (start_on v a)))
      (right_each (m.origin (twin e)) m.vertices (λ u l. front_right b a v (s u) back (right_ba u l)) (zero_sign_neg _ (end_on b v)))
      (λ x h z _.
      let old = outer_right G x h z in
      right_each (m.origin x) (m.origin (twin x)) old (ends_right a b v (s (m.origin x)) (s (m.origin (twin x))) (old _ (S.origin_in e may.in_e)) (old _ (S.origin_in (twin e) (in_twin m S e may n D relinks w))) i))

  clear_each : (x y : ℕ) → ((u : ℕ) → u < m.vertices → Between (s x) (s y) (s u) → ⊥) → (Between (s x) (s y) v → ⊥) → (u : ℕ) → u < n.vertices → Between (s x) (s y) (s u) → ⊥
  clear_each x y = each_vertex (λ u. Between (s x) (s y) (s u) → ⊥) m.vertices n.vertices D.vertices_is

  clear : (x : ℕ) → x < n.half_edges → n.face x ≡ 0 → (u : ℕ) → u < n.vertices → Between (s (n.origin x)) (s (n.origin (twin x))) (s u) → ⊥
  clear = outer_each m S e may n D relinks w (λ x y. (u : ℕ) → u < n.vertices → Between (s x) (s y) (s u) → ⊥)
      (clear_each m.vertices (m.origin e) (λ u l k. clear_ba u l (between_back b a v (s u) back k)) (not_start v a))
      (clear_each (m.origin (twin e)) m.vertices (λ u l k. clear_ba u l (between_front b a v (s u) back k)) (not_end b v))
      (λ x h z q. clear_each (m.origin x) (m.origin (twin x)) (λ u l. not_strictly_between→ _ _ _ (G.clear x h z u l)) (stays_clear x h z q))

  once : (x y : ℕ) → x < n.half_edges → y < n.half_edges → n.face x ≡ 0 → n.face y ≡ 0 → n.origin x ≡ n.origin y → x ≡ y
  once x y h l z t q = go (outer_kinds m S e may n D relinks w x h z) (outer_kinds m S e may n D relinks w y l t)
    where
      some : 1 < m.faces
      some = omega (arith, may.left, S.face_in e may.in_e)

      in_b : m.origin (twin e) < m.vertices
      in_b = S.origin_in (twin e) (in_twin m S e may n D relinks w)

      p_a : {x : ℕ} → x ≡ twin e → n.origin x ≡ m.vertices
      p_a r = ap n.origin r ∙ (to_e m S e may n D relinks w)

      b_p : {x : ℕ} → x ≡ m.half_edges + 1 → n.origin x ≡ m.origin (twin e)
      b_p r = ap n.origin r ∙ (from_bp m S e may n D relinks w)

      in_kept : {x : ℕ} → SameOuter m n S p D relinks w x → n.origin x < m.vertices
      in_kept {x} k = omega (arith, k.from_is, S.origin_in x k.old)

      -- what stays and begins at b was b → a
      not_b : {x : ℕ} → x ≢ twin e → SameOuter m n S p D relinks w x → n.origin x ≡ m.origin (twin e) → ⊥
      not_b {x} r k t = r (G.once some x (twin e) k.old (in_twin m S e may n D relinks w) k.outer may.right (sym k.from_is ∙ t))

      go : (x ≡ twin e) ⊎ (x ≡ m.half_edges + 1) ⊎ ((x ≢ twin e) × SameOuter m n S p D relinks w x) → (y ≡ twin e) ⊎ (y ≡ m.half_edges + 1) ⊎ ((y ≢ twin e) × SameOuter m n S p D relinks w y) → x ≡ y
      go (inl r) (inl t) = r ∙ sym t
      go (inl r) (inr (inl t)) = absurd (omega (arith, p_a r, b_p t, in_b))
      go (inl r) (inr (inr k)) = absurd (omega (arith, p_a r, in_kept k.1))
      go (inr (inl r)) (inl t) = absurd (omega (arith, b_p r, p_a t, in_b))
      go (inr (inl r)) (inr (inl t)) = r ∙ sym t
      go (inr (inl r)) (inr (inr k)) = absurd (not_b k.0 k.1 (sym q ∙ b_p r))
      go (inr (inr k)) (inl t) = absurd (omega (arith, p_a t, in_kept k.1))
      go (inr (inr k)) (inr (inl t)) = absurd (not_b k.0 k.1 (q ∙ b_p t))
      go (inr (inr k)) (inr (inr l)) = G.once some x y k.1.old l.1.old k.1.outer l.1.outer (sym k.1.from_is ∙ q ∙ l.1.from_is)

  pub split_hull_edge_geometric : Geometric pos n
  split_hull_edge_geometric =
      record {
        left = λ x h z. left← _ _ _ (corners_keep m n S (split_hull_edge_change m e) D relinks w (LeftOf pos m G) (left_turned pos m G) (face_left G)
            (outside m S e may n D relinks w, (D.face_at.1.1.1.1.1.1.0, tt)) (corners_e, (corners_pb, tt)) x h z);
        right = λ x h z u l. not_left← _ _ _ (right x h z u l);
        clear = λ x h z u l. not_strictly_between← _ _ _ (clear x h z u l);
        once = λ _. once;
        ends = λ few. absurd (omega (arith, may.left, S.face_in e may.in_e, D.faces_is));
        single = λ few. absurd (omega (arith, may.left, S.face_in e may.in_e, D.faces_is));
        whole = G.whole;
        apart = apart_with_one pos m.vertices n.vertices (omega (arith, D.vertices_is)) G.apart (λ u y h l k x t.
            let r : y ≡ m.vertices = omega (arith, D.vertices_is) in
            hull_edge_fresh u h (x ∙ ap (λ k. (pos k).x) r) (t ∙ ap (λ k. (pos k).y) r));
      }
