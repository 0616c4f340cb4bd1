-- Only the positions of the vertices that a map has count.
use Rattle.std.proofs.Common.{◌≡◌, ℕ, suc, ◌-◌, ◌<◌, sym, ap, ◌∙◌, arith}
use Rattle.exact.specs.Plane.{Point, left_of, inside_circle}
use Rattle.exact.proofs.Sums.{sum_same}
use Rattle.dcel.specs.Map.{Map, twin}
use Rattle.dcel.specs.Mesh.{Sound}
use Rattle.dcel.specs.Geometry.{strictly_between, Geometric, wrong}
use Rattle.dcel.specs.Legal.{Ready}
use Rattle.dcel.specs.Volume.{prism, volume}

module _ (p q : ℕ → Point) (m : Map) (S : Sound m) (agree : (v : ℕ) → v < m.vertices → q v ≡ p v) where
  from_same : (e : ℕ) → e < m.half_edges → q (m.origin e) ≡ p (m.origin e)
  from_same e h = agree (m.origin e) (S.origin_in e h)

  to_same : (e : ℕ) → e < m.half_edges → q (m.origin (twin e)) ≡ p (m.origin (twin e))
  to_same e h = from_same (twin e) (S.twin_in e h)

  apex_same : (e : ℕ) → e < m.half_edges → q (m.origin (m.prev e)) ≡ p (m.origin (m.prev e))
  apex_same e h = from_same (m.prev e) (S.prev_in e h)

  pub geometric_at : ((v : ℕ) → (q v).w ≡ 1) → Geometric p m → Geometric q m
  geometric_at whole G = record {
    left = λ e h z. (λ i. left_of (from_same e h i) (to_same e h i) (apex_same e h i)) ∙ G.left e h z;
    right = λ e h z v l. (λ i. left_of (from_same e h i) (to_same e h i) (agree v l i)) ∙ G.right e h z v l;
    clear = λ e h z v l. (λ i. strictly_between (from_same e h i) (to_same e h i) (agree v l i)) ∙ G.clear e h z v l;
    once = G.once;
    ends = λ few e h t v l. (λ i. strictly_between (from_same e h i) (agree v l i) (to_same e h i)) ∙ G.ends few e h t v l;
    single = G.single;
    whole = whole;
    apart = λ u v h l x y. G.apart u v h l (ap (λ r. r.x) (sym (agree u h)) ∙ x ∙ ap (λ r. r.x) (agree v l)) (ap (λ r. r.y) (sym (agree u h)) ∙ y ∙ ap (λ r. r.y) (agree v l));
  }

  pub wrong_at : (e : ℕ) → e < m.half_edges → wrong q m e ≡ wrong p m e
  wrong_at e h = λ i. inside_circle (from_same e h i) (to_same e h i) (apex_same e h i) (apex_same (twin e) (S.twin_in e h) i)

  pub ready_at : (Listed : ℕ → Type 0) → Ready p m Listed → Ready q m Listed
  ready_at Listed R e h z z' f = wrong_at e h ∙ R e h z z' f

  pub volume_at : volume q m ≡ volume p m
  unfolding volume
  volume_at = sum_same _ _ (m.faces - 1) (λ i l. let h = S.edge_in (suc i) (omega arith) (omega arith) in λ j. prism (from_same _ h j) (to_same _ h j) (apex_same _ h j))
