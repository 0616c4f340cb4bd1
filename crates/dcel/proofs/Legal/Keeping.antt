-- What a patch that fits keeps of the corners of faces, of the ends of outer half edges, and of edges that are right.
use Rattle.std.proofs.Common.{◌≡◌, ℕ, ◌<◌, ◌≢◌, sym, ap, ◌∙◌, subst, inl, inr, arith, ⊎_elim}
use Rattle.std.proofs.lemmas.Bool.{cases_lt}
use Rattle.exact.specs.Plane.{Point, inside_circle}
use Rattle.dcel.specs.Pairs.{All, Source, Target}
use Rattle.dcel.specs.Map.{Map, twin}
use Rattle.dcel.specs.Mesh.{Sound}
use Rattle.dcel.specs.Patch.{Patch, Change, patch_of, triangle_edges}
use Rattle.dcel.specs.Legal.{EdgeListed, Ready}
use Rattle.dcel.proofs.Changes.{at_source, at_target, both, source?}
use Rattle.dcel.proofs.Fits.{IsPatched, Relinks, Fits}
use Rattle.dcel.proofs.Twins.{twin_twin}
use Rattle.dcel.proofs.PatchSound.{patched_sound}
use Rattle.dcel.proofs.PatchCorners.{same_corners}
use Rattle.dcel.proofs.Neighbours.{in_triangle}
use Rattle.dcel.proofs.Legal.Triangles.{faces_listed}
use Rattle.dcel.proofs.Legal.Corners.{Corners, corners_of_face}

pub listed_twin : (Listed : ℕ → Type 0) (e : ℕ) → EdgeListed Listed (twin e) → EdgeListed Listed e
listed_twin Listed e (inl k) = inr k
listed_twin Listed e (inr k) = inl (subst Listed (twin_twin e) k)

pub listed_other : (Listed : ℕ → Type 0) (x y : ℕ) → twin x ≡ y → EdgeListed Listed y → EdgeListed Listed x
listed_other Listed x y q k = listed_twin Listed x (subst (EdgeListed Listed) (sym q) k)

module _ (m n : Map) (S : Sound m) (p : Patch) (d : IsPatched m n p) (relinks : Relinks m p) (w : Fits m n p) where
  N : Sound n
  N = patched_sound m n S p d relinks w

  -- off the links a face has its corners where they were
  pub record SameFace (e : ℕ) : Type 0 where
    pub old : e < m.half_edges
    pub inner : m.face e ≢ 0
    pub from_is : n.origin e ≡ m.origin e
    pub to_is : n.origin (twin e) ≡ m.origin (twin e)
    pub apex_is : n.origin (n.prev e) ≡ m.origin (m.prev e)

  pub same_face_at : (e : ℕ) → e < n.half_edges → n.face e ≢ 0 → (Source e p.links → ⊥) → SameFace e
  same_face_at e h z f =
      let s = same_corners m n S p d relinks w e h z f in
      let a = in_triangle n N e h z in
      let b = in_triangle m S e s.old s.inner in
      record { old = s.old; inner = s.inner; from_is = s.one; to_is = sym a.origin_next ∙ s.two ∙ b.origin_next; apex_is = ap n.origin (sym a.next_next) ∙ s.three ∙ ap m.origin b.next_next }

  -- a patch of inner half edges: what is outer was so, with the same ends
  pub record SameOuter (e : ℕ) : Type 0 where
    pub old : e < m.half_edges
    pub outer : m.face e ≡ 0
    pub from_is : n.origin e ≡ m.origin e
    pub to_is : n.origin (twin e) ≡ m.origin (twin e)

  pub same_outer : All (λ e g. n.face e ≢ 0) p.links → (e : ℕ) → e < n.half_edges → n.face e ≡ 0 → SameOuter e
  same_outer inside e h z =
      record {
        old = old;
        outer = sym (d.face_off e (λ k. tail ((at_source _ p.sides w.side_fits e k).1.1 old).0)) ∙ z;
        from_is = d.origin_off e (λ k. before ((at_source _ p.origins w.origin_fits e k).1.1 old).0);
        to_is = d.origin_off (twin e) (λ k. tail (subst (λ x. Source x p.links) (twin_twin e) ((at_source _ p.origins w.origin_fits (twin e) k).1.1 (S.twin_in e old)).1));
      }
    where
      tail : Source e p.links → ⊥
      tail k = (at_source _ p.links inside e k).1 z

      old : e < m.half_edges
      old = elim (cases_lt e m.half_edges) [ inl l ↦ l | inr l ↦ absurd (tail (w.new_edge e (omega arith) h).0) ]

      head : Target e p.links → ⊥
      head k = let r = at_target _ p.links (both _ _ p.links inside w.same_side) e k in r.1.0 (sym r.1.1 ∙ z)

      before : Source (m.prev e) p.links → ⊥
      before k = head (subst (λ x. Target x p.links) (S.next_prev e old) ((at_source _ p.links relinks.tails (m.prev e) k).1 (S.prev_in e old)))

  -- the inner edges at a change are listed, and what was listed stays so: then every other edge between two faces is as right as it was
  pub ready_keep : (pos : ℕ → Point) (Before After : ℕ → Type 0) → ((e : ℕ) → Before e → EdgeListed After e) → All (λ e g. n.face e ≢ 0 → EdgeListed After e) p.links → Ready pos m Before → Ready pos n After
  ready_keep pos Before After more at_change R e h z z' f =
      let off : (x : ℕ) → n.face x ≢ 0 → (EdgeListed After x → ⊥) → Source x p.links → ⊥ = λ x z g k. g ((at_source _ p.links at_change x k).1 z) in
      let s = same_face_at e h z (off e z f) in
      let t = same_face_at (twin e) (N.twin_in e h) z' (off (twin e) z' (λ k. f (listed_twin After e k))) in
      (λ i. inside_circle (pos (s.from_is i)) (pos (s.to_is i)) (pos (s.apex_is i)) (pos (t.apex_is i)))
      ∙ R e s.old s.inner t.inner (λ k. elim k [ inl b ↦ f (more e b) | inr b ↦ f (listed_twin After e (more (twin e) b)) ])

-- P of the corners of each face, if so in m and at the first half edge of each triangle, and what else is changed is outer
module _ (m n : Map) (S : Sound m) (c : Change) (d : IsPatched m n (patch_of c)) (relinks : Relinks m (patch_of c)) (w : Fits m n (patch_of c)) where
  pub corners_keep : (P : ℕ → ℕ → ℕ → Type 0) → ((a b c : ℕ) → P a b c → P b c a) → ((e : ℕ) → e < m.half_edges → m.face e ≢ 0 → Corners P m e) →
      All (λ e g. n.face e ≡ 0) c.chain → All (λ f e. Corners P n e) (triangle_edges c.triangles) →
      (e : ℕ) → e < n.half_edges → n.face e ≢ 0 → Corners P n e
  corners_keep P turned old outer new e h z = ⊎_elim by off (source? e (patch_of c).links)
    where
      by : Source e (patch_of c).links → Corners P n e
      by k =
          let r = at_source _ (patch_of c).edges (both _ _ (patch_of c).edges d.edge_at new) (n.face e) ((at_source _ (patch_of c).links (faces_listed m n c d outer) e k).1 z) in
          corners_of_face P turned n (patched_sound m n S (patch_of c) d relinks w) e h z (subst (Corners P n) (sym r.1.0) r.1.1)

      off : (Source e (patch_of c).links → ⊥) → Corners P n e
      off f = let s = same_face_at m n S (patch_of c) d relinks w e h z f in rw (s.from_is, s.to_is, s.apex_is) (old e s.old s.inner)
