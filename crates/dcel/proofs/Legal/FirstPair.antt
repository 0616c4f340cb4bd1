-- Two vertices at two places, with the pair of half edges between them, are geometric.
use Rattle.std.proofs.Common.{◌≡◌, ℕ, ◌<◌, sym, refl, ◌∙◌, arith}
use Rattle.exact.specs.Plane.{Point}
use Rattle.exact.proofs.Algebra.Signs.{zero_sign_neg, clash_zero}
use Rattle.exact.proofs.Geometry.Betweenness.{between_ends_apart}
use Rattle.exact.proofs.Geometry.Spots.{same_of}
use Rattle.exact.proofs.Geometry.Words.{Site, RightOn, Between}
use Rattle.exact.proofs.Geometry.Tests.{not_left←}
use Rattle.exact.proofs.Geometry.Identities.Sides.{start_on, end_on}
use Rattle.exact.proofs.Geometry.LineOrder.{not_start, not_end}
use Rattle.dcel.specs.Map.{Map, twin}
use Rattle.dcel.specs.Geometry.{Geometric}
use Rattle.dcel.proofs.FirstVertices.{Two, both}
use Rattle.dcel.proofs.StrictlyBetween.{not_strictly_between←}

module _ (pos : ℕ → Point) (whole : (v : ℕ) → (pos v).w ≡ 1) (m : Map) (t : Two m) where
  abbrev s : ℕ → Site
  s v = record { at = pos v; whole = whole v }

  -- half edge 0 goes from vertex 0 to vertex 1, and 1 back
  twin_0 : twin 0 ≡ 1
  unfolding twin
  twin_0 = refl

  twin_1 : twin 1 ≡ 0
  unfolding twin
  twin_1 = refl

  each : (Q : ℕ → ℕ → Type 0) → Q 0 1 → Q 1 0 → (e : ℕ) → e < m.half_edges → Q (m.origin e) (m.origin (twin e))
  each Q a b = both (λ e. Q (m.origin e) (m.origin (twin e))) m.half_edges t.half_edges_is (rw (twin_0, t.origin0, t.origin1) a) (rw (twin_1, t.origin0, t.origin1) b)

  each_vertex : (P : ℕ → Type 0) → P 0 → P 1 → (v : ℕ) → v < m.vertices → P v
  each_vertex P = both P m.vertices t.vertices_is

  right : (e : ℕ) → e < m.half_edges → (v : ℕ) → v < m.vertices → RightOn (s (m.origin e)) (s (m.origin (twin e))) (s v)
  right = each (λ x y. (v : ℕ) → v < m.vertices → RightOn (s x) (s y) (s v))
      (each_vertex (λ v. RightOn (s 0) (s 1) (s v)) (zero_sign_neg _ (start_on (s 0) (s 1))) (zero_sign_neg _ (end_on (s 0) (s 1))))
      (each_vertex (λ v. RightOn (s 1) (s 0) (s v)) (zero_sign_neg _ (end_on (s 1) (s 0))) (zero_sign_neg _ (start_on (s 1) (s 0))))

  clear : (e : ℕ) → e < m.half_edges → (v : ℕ) → v < m.vertices → Between (s (m.origin e)) (s (m.origin (twin e))) (s v) → ⊥
  clear = each (λ x y. (v : ℕ) → v < m.vertices → Between (s x) (s y) (s v) → ⊥)
      (each_vertex (λ v. Between (s 0) (s 1) (s v) → ⊥) (not_start (s 0) (s 1)) (not_end (s 0) (s 1)))
      (each_vertex (λ v. Between (s 1) (s 0) (s v) → ⊥) (not_end (s 1) (s 0)) (not_start (s 1) (s 0)))

  ends : (e : ℕ) → e < m.half_edges → (v : ℕ) → v < m.vertices → Between (s (m.origin e)) (s v) (s (m.origin (twin e))) → ⊥
  ends = each (λ x y. (v : ℕ) → v < m.vertices → Between (s x) (s v) (s y) → ⊥)
      (each_vertex (λ v. Between (s 0) (s v) (s 1) → ⊥) (none (s 0) (s 1)) (not_end (s 0) (s 1)))
      (each_vertex (λ v. Between (s 1) (s v) (s 0) → ⊥) (not_end (s 1) (s 0)) (none (s 1) (s 0)))
    where
      -- b is not between a and a: these are at no distance
      none : (a b : Site) → Between a a b → ⊥
      none a b h = clash_zero (between_ends_apart a a b h) (same_of a a refl refl)

  outer : (e : ℕ) → e < m.half_edges → m.face e ≡ 0
  outer = both (λ e. m.face e ≡ 0) m.half_edges t.half_edges_is t.face0 t.face1

  origin_is : (e : ℕ) → e < m.half_edges → m.origin e ≡ e
  origin_is = both (λ e. m.origin e ≡ e) m.half_edges t.half_edges_is t.origin0 t.origin1

  pub pair_geometric : ((pos 0).x ≡ (pos 1).x → (pos 0).y ≡ (pos 1).y → ⊥) → Geometric pos m
  pair_geometric differ = record {
    left = λ e h z. absurd (z (outer e h));
    right = λ e h z v l. not_left← _ _ _ (right e h v l);
    clear = λ e h z v l. not_strictly_between← _ _ _ (clear e h v l);
    once = λ some. absurd (omega (arith, t.faces_is));
    ends = λ _ e h _ v l. not_strictly_between← _ _ _ (ends e h v l);
    single = λ _ d e h l q _. sym (origin_is d h) ∙ q ∙ origin_is e l;
    whole = whole;
    apart = λ u v h l x y. each_vertex (λ u. (pos u).x ≡ (pos v).x → (pos u).y ≡ (pos v).y → u ≡ v)
        (each_vertex (λ v. (pos 0).x ≡ (pos v).x → (pos 0).y ≡ (pos v).y → 0 ≡ v) (λ _ _. refl) (λ x y. absurd (differ x y)) v l)
        (each_vertex (λ v. (pos 1).x ≡ (pos v).x → (pos 1).y ≡ (pos v).y → 1 ≡ v) (λ x y. absurd (differ (sym x) (sym y))) (λ _ _. refl) v l) u h x y;
  }
