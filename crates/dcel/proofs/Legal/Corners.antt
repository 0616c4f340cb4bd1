-- The corners of a face from each of its half edges, an edge from both sides, and the ends of a half edge.
use Rattle.std.proofs.Common.{◌≡◌, ℕ, ◌<◌, ◌≢◌, sym, ap, ◌∙◌, subst, inl, inr}
use Rattle.exact.specs.Plane.{Point, inside_circle}
use Rattle.exact.proofs.Booleans.{same_test}
use Rattle.dcel.proofs.Sites.{site}
use Rattle.exact.proofs.Algebra.Signs.{◌by◌}
use Rattle.exact.proofs.Geometry.Words.{Site, Left}
use Rattle.exact.proofs.Geometry.Identities.Sides.{turn}
use Rattle.exact.proofs.Geometry.Tests.{inside_circle→, inside_circle←}
use Rattle.exact.proofs.Geometry.Identities.Circles.{circle_across}
use Rattle.dcel.specs.Map.{Map, twin}
use Rattle.dcel.specs.Mesh.{Sound}
use Rattle.dcel.specs.Geometry.{Geometric, wrong}
use Rattle.dcel.proofs.Twins.{twin_twin}
use Rattle.dcel.proofs.Neighbours.{in_triangle}

-- P of the corners of the face on the left of e: where e begins, where it ends, the third
abbrev pub Corners : (ℕ → ℕ → ℕ → Type 0) → Map → ℕ → Type 0
Corners P m e = P (m.origin e) (m.origin (twin e)) (m.origin (m.prev e))

-- what may be turned holds from the next half edge too, so from each of a face if from the face's own
module _ (P : ℕ → ℕ → ℕ → Type 0) (turned : (a b c : ℕ) → P a b c → P b c a) (m : Map) (S : Sound m) where
  pub corners_next : (e : ℕ) → e < m.half_edges → m.face e ≢ 0 → Corners P m e → Corners P m (m.next e)
  corners_next e h z c = let k = in_triangle m S e h z in rw (k.origin_next, sym k.origin_prev, k.prev_next) (turned _ _ _ c)

  pub corners_of_face : (e : ℕ) → e < m.half_edges → m.face e ≢ 0 → Corners P m (m.edge (m.face e)) → Corners P m e
  corners_of_face e h z c = elim (S.edge_of e h z) [
    | inl q ↦ subst (Corners P m) q c
    | inr r ↦ elim r [ inl q ↦ at_next (subst (Corners P m) q c) | inr q ↦ at_last (subst (Corners P m) q c) ]
  ]
    where
      h₁ : m.next e < m.half_edges
      h₁ = S.next_in e h

      z₁ : m.face (m.next e) ≢ 0
      z₁ q = z (sym (S.face_next e h) ∙ q)

      at_last : Corners P m (m.next (m.next e)) → Corners P m e
      at_last c = subst (Corners P m) (S.three e h z) (corners_next (m.next (m.next e)) (S.next_in (m.next e) h₁) (λ q. z₁ (sym (S.face_next (m.next e) h₁) ∙ q)) c)

      at_next : Corners P m (m.next e) → Corners P m e
      at_next c = at_last (corners_next (m.next e) h₁ z₁ c)

  -- and the other way round
  pub corners_to_face : (e : ℕ) → e < m.half_edges → m.face e ≢ 0 → Corners P m e → Corners P m (m.edge (m.face e))
  corners_to_face e h z c = elim (S.edge_of e h z) [
    | inl q ↦ subst (Corners P m) (sym q) c
    | inr r ↦ elim r [
      | inl q ↦ subst (Corners P m) (sym q) (corners_next e h z c)
      | inr q ↦ subst (Corners P m) (sym q) (corners_next (m.next e) (S.next_in e h) (λ q. z (sym (S.face_next e h) ∙ q)) (corners_next e h z c))
    ]
  ]

-- an edge is wrong from both sides or from none
pub wrong_twin : (pos : ℕ → Point) (m : Map) → ((v : ℕ) → (pos v).w ≡ 1) → (e : ℕ) → wrong pos m (twin e) ≡ wrong pos m e
wrong_twin pos m whole e =
    ap (λ x. inside_circle (pos (m.origin (twin e))) (pos (m.origin x)) (pos (m.origin (m.prev (twin e)))) (pos (m.origin (m.prev x)))) (twin_twin e)
    ∙ same_test _ _ (λ t. inside_circle← _ _ _ _ (inside_circle→ _ _ _ _ t by sym (circle_across a b c d))) (λ t. inside_circle← _ _ _ _ (inside_circle→ _ _ _ _ t by circle_across a b c d))
  where
    site : ℕ → Site
    site v = record { at = pos v; whole = whole v }

    a : Site
    a = site (m.origin e)

    b : Site
    b = site (m.origin (twin e))

    c : Site
    c = site (m.origin (m.prev e))

    d : Site
    d = site (m.origin (m.prev (twin e)))

-- three vertices that turn to the left, from any of them
module _ (pos : ℕ → Point) (m : Map) (G : Geometric pos m) where
  abbrev pub LeftOf : ℕ → ℕ → ℕ → Type 0
  LeftOf a b c = Left (site G a) (site G b) (site G c)

  pub left_turned : (a b c : ℕ) → LeftOf a b c → LeftOf b c a
  left_turned a b c h = h by sym (turn (site G a) (site G b) (site G c))
