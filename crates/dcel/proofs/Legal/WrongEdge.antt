-- An edge between two faces that is wrong can be flipped, and the flip keeps the geometry: e = ab between abc and bad becomes dc between dca and cdb.
use Rattle.std.proofs.Common.{◌≡◌, ℕ, ◌<◌, true, false, ◌≢◌, sym, refl, ap, ◌∙◌, arith}
use Rattle.std.proofs.lemmas.Int.{ints}
use Rattle.exact.specs.Plane.{Point, inside_circle}
use Rattle.exact.proofs.Algebra.Signs.{Sign, ◌by◌, weak}
use Rattle.exact.proofs.Geometry.Words.{Site, Orient, Incircle, Left}
use Rattle.exact.proofs.Geometry.Tests.{inside_circle→, not_inside_circle←}
use Rattle.exact.proofs.Geometry.Identities.Sides.{turn, swap}
use Rattle.exact.proofs.Geometry.Flip.{flip_left, flip_right, flip_outside}
use Rattle.dcel.specs.Map.{Map, twin}
use Rattle.dcel.specs.Mesh.{Sound}
use Rattle.dcel.specs.Surgery.{Flippable, flip_change, flip_patch}
use Rattle.dcel.specs.Geometry.{Geometric, wrong}
use Rattle.dcel.proofs.Changes.{elsewhere}
use Rattle.dcel.proofs.Fits.{IsPatched, Relinks, Fits}
use Rattle.dcel.proofs.Twins.{twin_twin}
use Rattle.dcel.proofs.Neighbours.{InTriangle, in_triangle, two_faces}
use Rattle.dcel.proofs.Sites.{site, face_left, start, stop, third}
use Rattle.dcel.proofs.Legal.Corners.{Corners, LeftOf}
use Rattle.dcel.proofs.Legal.InnerChange.{none_new, inner_geometric}

-- an edge between two faces, of which the corner across is inside the circle
pub record WrongEdge (pos : ℕ → Point) (m : Map) (e : ℕ) : Type 0 where
  pub in_e : e < m.half_edges
  pub left : m.face e ≢ 0
  pub right : m.face (twin e) ≢ 0
  pub wrong_e : wrong pos m e ≡ true

module _ (pos : ℕ → Point) (m : Map) (S : Sound m) (G : Geometric pos m) (e : ℕ) (bad : WrongEdge pos m e) where
  abbrev pub a : Site
  a = start G e

  abbrev pub b : Site
  b = stop G e

  abbrev pub c : Site
  c = third G e

  abbrev pub d : Site
  d = third G (twin e)

  in_twin : twin e < m.half_edges
  in_twin = S.twin_in e bad.in_e

  pub near : InTriangle m e
  near = in_triangle m S e bad.in_e bad.left

  pub far : InTriangle m (twin e)
  far = in_triangle m S (twin e) in_twin bad.right

  pub old_near : Left a b c
  old_near = face_left G e bad.in_e bad.left

  pub old_far : Left b a d
  old_far = face_left G (twin e) in_twin bad.right by ap (λ x. Orient b (start G x) d) (sym (twin_twin e))

  pub inside : Sign true (Incircle a b c d)
  inside = inside_circle→ _ _ _ _ bad.wrong_e

  pub new_near : Left d c a
  new_near = flip_left a b c d old_near old_far (weak inside) by turn d c a

  pub new_far : Left c d b
  new_far = flip_right a b c d old_near old_far (weak inside) by turn c d b

  pub flippable : Flippable m e
  flippable = record { in_e = bad.in_e; left = bad.left; right = bad.right; cross = cross }
    where
      cross : m.origin (m.prev e) ≢ m.origin (m.prev (twin e))
      cross q = let k : Left b a c = old_far by ap (λ x. Orient b a (site G x)) q in let l = old_near in omega (arith, ints, swap b a c)

  module _ (n : Map) (D : IsPatched m n (flip_patch m e)) (relinks : Relinks m (flip_patch m e)) (w : Fits m n (flip_patch m e)) where
    -- a half edge other than e and its twin begins where it did
    origin_same : (x : ℕ) → x ≢ e → x ≢ twin e → n.origin x ≡ m.origin x
    origin_same x q r = D.origin_off x (elsewhere (flip_patch m e).origins x (q, (r, tt)))

    faces_differ : m.face (twin e) ≢ m.face e
    faces_differ = two_faces m S e bad.in_e bad.left

    -- the corners of the two new faces
    pub from_e : n.origin e ≡ m.origin (m.prev (twin e))
    from_e = D.origin_at.0

    pub to_e : n.origin (twin e) ≡ m.origin (m.prev e)
    to_e = D.origin_at.1.0

    pub apex_e : n.origin (n.prev e) ≡ m.origin e
    apex_e =
        ap n.origin D.prev_at.1.1.0
        ∙ origin_same (m.next (twin e)) (λ q. faces_differ (sym far.face_next ∙ ap m.face q)) (λ q. far.not_next (sym q))
        ∙ far.origin_next ∙ ap m.origin (twin_twin e)

    pub apex_twin : n.origin (n.prev (twin e)) ≡ m.origin (twin e)
    apex_twin =
        ap n.origin D.prev_at.1.1.1.1.1.0
        ∙ origin_same (m.next e) (λ q. near.not_next (sym q)) (λ q. faces_differ (sym (ap m.face q) ∙ near.face_next))
        ∙ near.origin_next

    pub corners_e : Corners (LeftOf pos m G) n e
    corners_e = rw (from_e, to_e, apex_e) new_near

    pub corners_twin : Corners (LeftOf pos m G) n (twin e)
    corners_twin = rw (twin_twin e, from_e, to_e, apex_twin) new_far

    pub flip_geometric : Geometric pos n
    flip_geometric =
        inner_geometric pos m n S G (flip_change m e) D relinks w (bad.left, (bad.right, tt)) refl (omega (arith, S.face_in e bad.in_e, bad.left)) (corners_e, (corners_twin, tt)) (none_new pos m n G D.vertices_is)

    -- and the new edge is right
    pub flip_right_now : wrong pos n e ≡ false
    flip_right_now = (λ i. inside_circle (pos (from_e i)) (pos (to_e i)) (pos (apex_e i)) (pos (apex_twin i))) ∙ not_inside_circle← _ _ _ _ (weak (flip_outside a b c d inside))
