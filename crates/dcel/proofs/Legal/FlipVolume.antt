-- A flip of a wrong edge takes from the volume exactly what the circle's determinant says.
use Rattle.std.proofs.Common.{◌≡◌, ℕ, suc, ◌+◌, ◌-◌, ◌<◌, ◌≢◌, ◌⊎◌, pos as whole, ◌+ℤ◌, sym, refl, ap, ◌∙◌, inl, inr, arith}
use Rattle.std.proofs.lemmas.Int.{ints}
use Rattle.exact.specs.Plane.{Point}
use Rattle.exact.specs.Sums.{sum}
use Rattle.exact.proofs.Geometry.Words.{Site, Incircle, Volume}
use Rattle.exact.proofs.Geometry.Identities.Circles.{volume_turn, volume_flip}
use Rattle.dcel.specs.Pairs.{All}
use Rattle.dcel.specs.Map.{Map, twin}
use Rattle.dcel.specs.Mesh.{Sound}
use Rattle.dcel.specs.Surgery.{flip_patch}
use Rattle.dcel.specs.Geometry.{Geometric}
use Rattle.dcel.specs.Volume.{prism, prism_at, volume}
use Rattle.dcel.proofs.Changes.{at_source}
use Rattle.dcel.proofs.Fits.{IsPatched, Relinks, Fits}
use Rattle.dcel.proofs.Twins.{twin_twin}
use Rattle.dcel.proofs.PatchSound.{patched_sound}
use Rattle.dcel.proofs.Neighbours.{two_faces}
use Rattle.dcel.proofs.Legal.Keeping.{SameFace, same_face_at}
use Rattle.dcel.proofs.Legal.WrongEdge.{WrongEdge, a, b, c, d, near, far, old_near, old_far, inside, new_near, new_far, from_e, to_e, apex_e, apex_twin, flip_geometric}
use Rattle.dcel.proofs.SumChanges.{two_changes}
use Rattle.dcel.proofs.Legal.Prisms.{prism_is, face_prism}

module _ (pos : ℕ → Point) (m : Map) (S : Sound m) (G : Geometric pos m) (e : ℕ) (bad : WrongEdge pos m e) (n : Map) (D : IsPatched m n (flip_patch m e)) (relinks : Relinks m (flip_patch m e)) (w : Fits m n (flip_patch m e)) where
  abbrev t : ℕ
  t = twin e

  abbrev A : Site
  A = a pos m S G e bad

  abbrev B : Site
  B = b pos m S G e bad

  abbrev C : Site
  C = c pos m S G e bad

  abbrev E : Site
  E = d pos m S G e bad

  in_t : t < m.half_edges
  in_t = S.twin_in e bad.in_e

  N : Sound n
  N = patched_sound m n S (flip_patch m e) D relinks w

  H : Geometric pos n
  H = flip_geometric pos m S G e bad n D relinks w

  -- ---- the prisms of the two faces, before and after
  before_e : whole (prism_at pos m (m.edge (m.face e))) ≡ Volume A B C
  before_e = ap whole (face_prism pos m S G e bad.in_e bad.left) ∙ sym (prism_is A B C (old_near pos m S G e bad))

  before_t : whole (prism_at pos m (m.edge (m.face t))) ≡ Volume B A E
  before_t =
      ap whole (face_prism pos m S G t in_t bad.right ∙ ap (λ x. prism B.at (pos (m.origin x)) E.at) (twin_twin e))
      ∙ sym (prism_is B A E (old_far pos m S G e bad))

  in_e : e < n.half_edges
  in_e = omega (arith, D.half_edges_is, bad.in_e)

  after_e : whole (prism_at pos n (n.edge (m.face e))) ≡ Volume E C A
  after_e =
      ap (λ f. whole (prism_at pos n (n.edge f))) (sym D.face_at.0)
      ∙ ap whole (face_prism pos n N H e in_e (λ q. bad.left (sym D.face_at.0 ∙ q)) ∙ (λ i. prism (pos (from_e pos m S G e bad n D relinks w i)) (pos (to_e pos m S G e bad n D relinks w i)) (pos (apex_e pos m S G e bad n D relinks w i))))
      ∙ sym (prism_is E C A (new_near pos m S G e bad))

  after_t : whole (prism_at pos n (n.edge (m.face t))) ≡ Volume C E B
  after_t =
      ap (λ f. whole (prism_at pos n (n.edge f))) (sym D.face_at.1.1.1.0)
      ∙ ap whole (face_prism pos n N H t (N.twin_in e in_e) (λ q. bad.right (sym D.face_at.1.1.1.0 ∙ q))
      ∙ (λ i. prism (pos (to_e pos m S G e bad n D relinks w i)) (pos ((ap n.origin (twin_twin e) ∙ from_e pos m S G e bad n D relinks w) i)) (pos (apex_twin pos m S G e bad n D relinks w i))))
      ∙ sym (prism_is C E B (new_far pos m S G e bad))

  -- ---- the other faces are as they were
  abbrev InTwo : ℕ → ℕ → Type 0
  InTwo x g = (m.face x ≡ m.face e) ⊎ (m.face x ≡ m.face t)

  in_two : All InTwo (flip_patch m e).links
  in_two = let k = near pos m S G e bad in let l = far pos m S G e bad in (inl refl, (inl k.face_prev, (inr l.face_next, (inr refl, (inr l.face_prev, (inl k.face_next, tt))))))

  in_two_sides : All InTwo (flip_patch m e).sides
  in_two_sides = in_two

  stays : (f : ℕ) → 0 < f → f < m.faces → f ≢ m.face e → f ≢ m.face t → prism_at pos n (n.edge f) ≡ prism_at pos m (m.edge f)
  stays f l k ne nt = ap (prism_at pos n) (D.edge_off f (λ s. elim s [ inl q ↦ ne q | inr s ↦ elim s [ inl q ↦ nt q | inr s ↦ s ] ])) ∙ (λ i. prism (pos (same.from_is i)) (pos (same.to_is i)) (pos (same.apex_is i)))
    where
      x : ℕ
      x = m.edge f

      face_x : m.face x ≡ f
      face_x = S.edge_face f l k

      elsewhere : (m.face x ≡ m.face e) ⊎ (m.face x ≡ m.face t) → ⊥
      elsewhere r = elim r [ inl q ↦ ne (sym face_x ∙ q) | inr q ↦ nt (sym face_x ∙ q) ]

      face_now : n.face x ≡ f
      face_now = D.face_off x (λ s. elsewhere (at_source InTwo (flip_patch m e).sides in_two_sides x s).1) ∙ face_x

      same : SameFace m n S (flip_patch m e) D relinks w x
      same = same_face_at m n S (flip_patch m e) D relinks w x (omega (arith, D.half_edges_is, S.edge_in f l k)) (λ q. omega (arith, face_now)) (λ s. elsewhere (at_source InTwo (flip_patch m e).links in_two x s).1)

  -- ---- the sum
  sums : volume pos n + prism_at pos m (m.edge (m.face e)) + prism_at pos m (m.edge (m.face t)) ≡ volume pos m + prism_at pos n (n.edge (m.face e)) + prism_at pos n (n.edge (m.face t))
  unfolding volume
  sums =
      let old : ℕ → ℕ = λ f. prism_at pos m (m.edge f) in
      let new : ℕ → ℕ = λ f. prism_at pos n (n.edge f) in
      let f : suc (m.face e - 1) ≡ m.face e = omega (arith, bad.left) in
      let k : suc (m.face t - 1) ≡ m.face t = omega (arith, bad.right) in
      let all : n.faces ≡ m.faces = D.faces_is in
      let r = two_changes (λ i. old (suc i)) (λ i. new (suc i)) (m.faces - 1) (m.face e - 1) (m.face t - 1)
      (omega (arith, bad.left, S.face_in e bad.in_e)) (omega (arith, bad.right, S.face_in t in_t)) (λ q. two_faces m S e bad.in_e bad.left (omega arith))
      (λ i l p q. stays (suc i) (omega arith) (omega arith) (omega arith) (omega arith)) in
      omega (arith, r, ap old f, ap old k, ap new f, ap new k, ap (λ z. sum (λ i. new (suc i)) (z - 1)) all)

  pub volume_falls_by : whole (volume pos m) ≡ whole (volume pos n) +ℤ Incircle A B C E
  volume_falls_by =
      let before₁ = before_e in
      let before₂ = before_t in
      let after₁ : whole (prism_at pos n (n.edge (m.face e))) ≡ Volume C A E = after_e ∙ volume_turn E C A in
      let after₂ : whole (prism_at pos n (n.edge (m.face t))) ≡ Volume E B C = after_t ∙ volume_turn C E B in
      omega (arith, ints, sums, volume_flip A B C E)

  pub volume_falls : volume pos n < volume pos m
  volume_falls = let h = inside pos m S G e bad in let q = volume_falls_by in omega (arith, ints)
