-- A mesh without a face has all its vertices on one line; and what a mesh with a vertex more on that line owes to be geometric.
use Rattle.std.proofs.Common.{◌≡◌, ℕ, ◌+◌, ◌<◌, ◌≤◌, ◌⊎◌, ap, ◌∙◌, arith}
use Rattle.exact.specs.Plane.{Point}
use Rattle.exact.proofs.Algebra.Signs.{zero_sign_neg}
use Rattle.exact.proofs.Geometry.Words.{Site, On, Apart, Between}
use Rattle.exact.proofs.Geometry.Tests.{not_left←}
use Rattle.exact.proofs.Geometry.Line.{on_three}
use Rattle.exact.proofs.Geometry.LineOrder.{Before, between_order, order_between}
use Rattle.dcel.specs.Map.{Map, twin}
use Rattle.dcel.specs.Mesh.{Sound}
use Rattle.dcel.specs.Geometry.{Geometric}
use Rattle.dcel.specs.Legal.{Ready}
use Rattle.dcel.proofs.Sites.{site, ends_apart}
use Rattle.dcel.proofs.NoFace.{all_outer, on_line}
use Rattle.dcel.proofs.StrictlyBetween.{not_strictly_between←}
use Rattle.dcel.proofs.Legal.NewVertex.{Fresh, each_vertex, apart_with_one}

-- nothing can be wrong
pub line_ready : (m : Map) (S : Sound m) (few : m.faces ≤ 1) (pos : ℕ → Point) (Listed : ℕ → Type 0) → Ready pos m Listed
line_ready m S few pos Listed e h z = absurd (z (all_outer S few e h))

module _ (pos : ℕ → Point) (m : Map) (S : Sound m) (G : Geometric pos m) (few : m.faces ≤ 1) where
  abbrev s : ℕ → Site
  s = site G

  -- ---- one vertex more, on the line of e
  module _ (n : Map) (N : Sound n) (same : n.faces ≡ m.faces) (more : n.vertices ≡ m.vertices + 1) (e : ℕ) (h : e < m.half_edges) (on : On (s (m.origin e)) (s (m.origin (twin e))) (s m.vertices)) where
    abbrev a : Site
    a = s (m.origin e)

    abbrev b : Site
    b = s (m.origin (twin e))

    pub ab : Apart a b
    ab = ends_apart S G e h

    pub all_on : (v : ℕ) → v < n.vertices → On a b (s v)
    all_on = each_vertex (λ v. On a b (s v)) m.vertices n.vertices more (on_line S few G e h) on

    -- betweenness is order along e
    pub order_of : (u v z : ℕ) → u < n.vertices → z < n.vertices → Between (s u) (s v) (s z) → (Before a b (s u) (s z) × Before a b (s z) (s v)) ⊎ (Before a b (s v) (s z) × Before a b (s z) (s u))
    order_of u v z lu lz = between_order a b ab (s u) (s v) (s z) (all_on u lu) (all_on z lz)

    pub in_order : (u v z : ℕ) → u < n.vertices → v < n.vertices → z < n.vertices → Before a b (s u) (s z) → Before a b (s z) (s v) → Between (s u) (s v) (s z)
    in_order u v z lu lv lz = order_between a b ab (s u) (s v) (s z) (all_on u lu) (all_on v lv) (all_on z lz)

    pub line_geometric : Fresh pos m →
        ((x : ℕ) → x < n.half_edges → (v : ℕ) → v < n.vertices → Between (s (n.origin x)) (s (n.origin (twin x))) (s v) → ⊥) →
        ((x : ℕ) → x < n.half_edges → n.next x ≡ twin x → (v : ℕ) → v < n.vertices → Between (s (n.origin x)) (s v) (s (n.origin (twin x))) → ⊥) →
        ((x y : ℕ) → x < n.half_edges → y < n.half_edges → n.origin x ≡ n.origin y → n.origin (twin x) ≡ n.origin (twin y) → x ≡ y) → Geometric pos n
    line_geometric fresh clear ends single = record {
      left = λ x l z. absurd (z (all_outer N (omega arith) x l));
      right = λ x l z v k. not_left← _ _ _ (zero_sign_neg _ (on_three a b (s (n.origin x)) (s (n.origin (twin x))) (s v) ab (all_on _ (N.origin_in x l)) (all_on _ (N.origin_in (twin x) (N.twin_in x l))) (all_on v k)));
      clear = λ x l z v k. not_strictly_between← _ _ _ (clear x l v k);
      once = λ some. absurd (omega arith);
      ends = λ _ x l q v k. not_strictly_between← _ _ _ (ends x l q v k);
      single = λ _. single;
      whole = G.whole;
      apart = apart_with_one pos m.vertices n.vertices (omega arith) G.apart (λ u y l k j x t.
          let r : y ≡ m.vertices = omega arith in
          fresh u l (x ∙ ap (λ k. (pos k).x) r) (t ∙ ap (λ k. (pos k).y) r));
    }
