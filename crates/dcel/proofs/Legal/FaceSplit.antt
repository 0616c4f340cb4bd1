-- A new vertex p strictly inside the face abc of e = ab keeps the geometry.
use Rattle.std.proofs.Common.{◌≡◌, ℕ, ◌+◌, ◌<◌, sym, refl, ap, ◌∙◌, arith}
use Rattle.exact.specs.Plane.{Point}
use Rattle.exact.proofs.Geometry.Words.{Site, Right, Inside}
use Rattle.exact.proofs.Geometry.Interior.{inside_right}
use Rattle.dcel.specs.Map.{Map, twin}
use Rattle.dcel.specs.Mesh.{Sound}
use Rattle.dcel.specs.Patch.{Patch}
use Rattle.dcel.specs.Surgery.{Inner, split_face_change, split_face_patch}
use Rattle.dcel.specs.Geometry.{Geometric}
use Rattle.dcel.specs.Legal.{EdgeListed, Ready}
use Rattle.dcel.proofs.Changes.{elsewhere}
use Rattle.dcel.proofs.Fits.{IsPatched, Relinks, Fits}
use Rattle.dcel.proofs.Neighbours.{InTriangle, in_triangle, new_pairs}
use Rattle.dcel.proofs.Sites.{site, face_left, outer_right, ends_apart}
use Rattle.dcel.proofs.Legal.Corners.{Corners, LeftOf}
use Rattle.dcel.proofs.Legal.NewVertex.{Fresh}
use Rattle.dcel.proofs.Legal.Keeping.{listed_other, ready_keep}
use Rattle.dcel.proofs.Legal.InnerChange.{one_new, inner_geometric}

-- p is strictly inside the face of e
abbrev pub InsideFace : (pos : ℕ → Point) (m : Map) → Geometric pos m → ℕ → Type 0
InsideFace pos m G e = Corners (λ a b c. Inside (site G a) (site G b) (site G c) (site G m.vertices)) m e

module _ (pos : ℕ → Point) (m : Map) (S : Sound m) (e : ℕ) (may : Inner m e) (n : Map) (D : IsPatched m n (split_face_patch m e)) (relinks : Relinks m (split_face_patch m e)) (w : Fits m n (split_face_patch m e)) where
  abbrev p : Patch
  p = split_face_patch m e

  here : InTriangle m e
  here = in_triangle m S e may.in_e may.inner

  pub origin_same : (x : ℕ) → x < m.half_edges → n.origin x ≡ m.origin x
  origin_same x h = D.origin_off x (elsewhere p.origins x (omega arith))

  twin_same : (x : ℕ) → x < m.half_edges → n.origin (twin x) ≡ m.origin (twin x)
  twin_same x h = origin_same (twin x) (S.twin_in x h)

  -- the corners of the three faces: a b p at e, b c p at what comes next, c a p at what comes before
  pub apex_e : n.origin (n.prev e) ≡ m.vertices
  apex_e = ap n.origin D.prev_at.1.1.0 ∙ D.origin_at.1.0

  pub apex_next : n.origin (n.prev (m.next e)) ≡ m.vertices
  apex_next = ap n.origin D.prev_at.1.1.1.1.1.0 ∙ D.origin_at.1.1.1.0

  pub apex_prev : n.origin (n.prev (m.prev e)) ≡ m.vertices
  apex_prev = ap n.origin D.prev_at.1.1.1.1.1.1.1.1.0 ∙ D.origin_at.1.1.1.1.1.0

  module _ (G : Geometric pos m) (i : InsideFace pos m G e) (fresh : Fresh pos m) where
    abbrev s : ℕ → Site
    s = site G

    corners_e : Corners (LeftOf pos m G) n e
    corners_e = rw (origin_same e may.in_e, twin_same e may.in_e, apex_e) i.ab

    corners_next : Corners (LeftOf pos m G) n (m.next e)
    corners_next = let k = here in rw (origin_same (m.next e) k.next_in, twin_same (m.next e) k.next_in, apex_next, k.origin_next, sym k.origin_prev) i.bc

    corners_prev : Corners (LeftOf pos m G) n (m.prev e)
    corners_prev = let k = here in rw (origin_same (m.prev e) k.prev_in, twin_same (m.prev e) k.prev_in, apex_prev, sym k.origin_here) i.ca

    new_right : (x : ℕ) → x < m.half_edges → m.face x ≡ 0 → Right (s (m.origin x)) (s (m.origin (twin x))) (s m.vertices)
    new_right x h z =
        let on : (y : ℕ) → y < m.half_edges → _ = λ y l. outer_right G x h z (m.origin y) (S.origin_in y l) in
        inside_right (s (m.origin x)) (s (m.origin (twin x))) (s (m.origin e)) (s (m.origin (twin e))) (s (m.origin (m.prev e))) (ends_apart S G x h) (face_left G e may.in_e may.inner)
        (s m.vertices) i (on e may.in_e) (on (twin e) (S.twin_in e may.in_e)) (on (m.prev e) here.prev_in)

    pub split_face_geometric : Geometric pos n
    split_face_geometric =
        let some : 1 < m.faces = omega (arith, may.inner, S.face_in e may.in_e) in
        inner_geometric pos m n S G (split_face_change m e) D relinks w (may.inner, (omega arith, (omega arith, tt))) refl some (corners_e, (corners_next, (corners_prev, tt))) (one_new pos m n G D.vertices_is new_right fresh)

  -- with the sides of the face and the new edges listed, every other edge is as right as it was
  pub split_face_ready : (Before After : ℕ → Type 0) → ((x : ℕ) → Before x → EdgeListed After x) → EdgeListed After e → EdgeListed After (m.next e) → EdgeListed After (m.prev e) →
      EdgeListed After m.half_edges → EdgeListed After (m.half_edges + 2) → EdgeListed After (m.half_edges + 4) → Ready pos m Before → Ready pos n After
  split_face_ready Before After more ab bc ca ap bp cp =
      let k = new_pairs m S in
      ready_keep m n S p D relinks w pos Before After more
      (λ _. ab, (λ _. bp, (λ _. listed_other After _ _ k.t1 ap, (λ _. bc, (λ _. cp, (λ _. listed_other After _ _ k.t3 bp, (λ _. ca, (λ _. ap, (λ _. listed_other After _ _ k.t5 cp, tt)))))))))
