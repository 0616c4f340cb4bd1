-- A change of inner faces alone keeps the geometry, if the faces that it makes turn to the left and a new vertex is strictly inside the hull and where no other is.
use Rattle.std.proofs.Common.{◌≡◌, ℕ, ◌+◌, ◌<◌, ◌≤◌, false, ◌≢◌, [], neg_ℤ, sym, ap, ◌∙◌, subst, arith, inl, inr}
use Rattle.std.proofs.lemmas.Bool.{cases_lt}
use Rattle.exact.specs.Plane.{Point, left_of}
use Rattle.exact.proofs.Algebra.Signs.{weak, zero_sign_neg, clash}
use Rattle.exact.proofs.Geometry.Words.{Right}
use Rattle.exact.proofs.Geometry.Tests.{left←, not_left←}
use Rattle.dcel.specs.Pairs.{All}
use Rattle.dcel.specs.Map.{Map}
use Rattle.dcel.specs.Mesh.{Sound}
use Rattle.dcel.specs.Patch.{Change, patch_of, triangle_edges}
use Rattle.dcel.specs.Geometry.{from, to, strictly_between, Geometric}
use Rattle.dcel.proofs.StrictlyBetween.{not_strictly_between←}
use Rattle.dcel.proofs.Sites.{site, face_left, start, stop}
use Rattle.dcel.proofs.Legal.Corners.{LeftOf, left_turned, Corners}
use Rattle.dcel.proofs.Fits.{IsPatched, Relinks, Fits}
use Rattle.dcel.proofs.Legal.NewVertex.{Fresh, apart_with_one}
use Rattle.dcel.proofs.Legal.Triangles.{EachFace, at_links}
use Rattle.dcel.proofs.Legal.Keeping.{corners_keep, SameOuter, same_outer}

module _ (pos : ℕ → Point) (m n : Map) (G : Geometric pos m) where
  -- what is new among the vertices: one at most, strictly right of all that is outer
  pub record NewInside : Type 0 where
    pub one : n.vertices ≤ m.vertices + 1
    pub right : (v : ℕ) → m.vertices ≤ v → v < n.vertices → (e : ℕ) → e < m.half_edges → m.face e ≡ 0 → Right (start G e) (stop G e) (site G v)
    pub fresh : (u v : ℕ) → u < m.vertices → m.vertices ≤ v → v < n.vertices → (pos u).x ≡ (pos v).x → (pos u).y ≡ (pos v).y → ⊥

  pub none_new : n.vertices ≡ m.vertices → NewInside
  none_new q = record { one = omega arith; right = λ v l k. absurd (omega arith); fresh = λ u v h l k. absurd (omega arith) }

  pub one_new : n.vertices ≡ m.vertices + 1 →
      ((e : ℕ) → e < m.half_edges → m.face e ≡ 0 → Right (start G e) (stop G e) (site G m.vertices)) → Fresh pos m → NewInside
  one_new q right fresh = record {
    one = omega arith;
    right = λ v l k e h z. subst (λ y. Right (start G e) (stop G e) (site G y)) (omega arith) (right e h z);
    fresh = λ u v h l k. subst (λ y. (pos u).x ≡ (pos y).x → (pos u).y ≡ (pos y).y → ⊥) (omega arith) (fresh u h);
  }

module _ (pos : ℕ → Point) (m n : Map) (S : Sound m) (G : Geometric pos m) (c : Change) (d : IsPatched m n (patch_of c)) (relinks : Relinks m (patch_of c)) (w : Fits m n (patch_of c)) where
  module _ (inner : EachFace (λ f. f ≢ 0) c.triangles) (alone : c.chain ≡ []) (some : 1 < m.faces) (lefts : All (λ f e. Corners (LeftOf pos m G) n e) (triangle_edges c.triangles)) (new : NewInside pos m n G) where
    none : (P : ℕ → ℕ → Type 0) → All P c.chain
    none P = subst (All P) (sym alone) tt

    outer : (e : ℕ) → e < n.half_edges → n.face e ≡ 0 → SameOuter m n S (patch_of c) d relinks w e
    outer = same_outer m n S (patch_of c) d relinks w (at_links n (λ f. f ≢ 0) c.triangles c.chain c.others d.face_at inner (none _))

    right : (e : ℕ) → e < m.half_edges → m.face e ≡ 0 → (v : ℕ) → v < n.vertices → left_of (from pos m e) (to pos m e) (pos v) ≡ false
    right e h z v l = elim (cases_lt v m.vertices) [ inl o ↦ G.right e h z v o | inr o ↦ not_left← _ _ _ (weak (new.right v (omega arith) l e h z)) ]

    clear : (e : ℕ) → e < m.half_edges → m.face e ≡ 0 → (v : ℕ) → v < n.vertices → strictly_between (from pos m e) (to pos m e) (pos v) ≡ false
    clear e h z v l = elim (cases_lt v m.vertices) [
      | inl o ↦ G.clear e h z v o
      | inr o ↦ not_strictly_between← _ _ _ (λ b. clash (new.right v (omega arith) l e h z) (zero_sign_neg _ (ap neg_ℤ b.on)))
    ]

    pub inner_geometric : Geometric pos n
    inner_geometric = record {
      left = λ e h z. left← _ _ _ (corners_keep m n S c d relinks w (LeftOf pos m G) (left_turned pos m G) (face_left G) (none _) lefts e h z);
      right = λ e h z v l. let o = outer e h z in (λ i. left_of (pos (o.from_is i)) (pos (o.to_is i)) (pos v)) ∙ right e o.old o.outer v l;
      clear = λ e h z v l. let o = outer e h z in (λ i. strictly_between (pos (o.from_is i)) (pos (o.to_is i)) (pos v)) ∙ clear e o.old o.outer v l;
      once = λ _ e g h l y z q. let a = outer e h y in let b = outer g l z in G.once some e g a.old b.old a.outer b.outer (sym a.from_is ∙ q ∙ b.from_is);
      ends = λ few. absurd (omega (arith, w.faces_more));
      single = λ few. absurd (omega (arith, w.faces_more));
      whole = G.whole;
      apart = apart_with_one pos m.vertices n.vertices new.one G.apart new.fresh;
    }
