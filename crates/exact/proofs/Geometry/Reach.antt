-- Small moves and a list of triangles: moved little enough, a place is in no closed triangle that it was not in, and strictly inside those that it was strictly inside.
use Rattle.std.proofs.Common.{◌≡◌, ℕ, ◌+◌, ◌≤◌, true, false, List, [], ◌∷◌, sym, subst, inl, inr, arith}
use Rattle.exact.specs.Plane.{Point, Vertex, spot, Tri, in_tri, inside_tri}
use Rattle.std.proofs.lemmas.Bool.{false_from_ne_true}
use Rattle.exact.proofs.Booleans.{true_false}
use Rattle.exact.proofs.Lists.{In}
use Rattle.exact.proofs.Geometry.Faces.{InFace, in_tri→, in_tri←, inside_tri→, inside_tri←}
use Rattle.exact.proofs.Geometry.Moves.{toward, reach, inside_stays, closed_back}

-- a bound for all of a list
unfoldable pub reach_all : List Vertex → List Tri → Point → ℕ
reach_all vs [] q = 1
reach_all vs (t ∷ ts) q = reach (spot vs t.one) (spot vs t.two) (spot vs t.three) q + reach_all vs ts q

pub reach_in : (vs : List Vertex) (ts : List Tri) (q : Point) (t : Tri) → In t ts → reach (spot vs t.one) (spot vs t.two) (spot vs t.three) q ≤ reach_all vs ts q
unfolding reach_all
reach_in vs [] q t i = absurd i
reach_in vs (u ∷ ts) q t (inl e) = subst (λ (s : Tri). reach (spot vs s.one) (spot vs s.two) (spot vs s.three) q ≤ reach_all vs (u ∷ ts) q) (sym e) (omega arith)
reach_in vs (u ∷ ts) q t (inr i) = omega (arith, reach_in vs ts q t i)

module _ (vs : List Vertex) (ts : List Tri) (p q : Point) (n : ℕ) (far : reach_all vs ts q ≤ n) (t : Tri) (i : In t ts) where
  pub none_new : InFace vs t false (toward n p q) → InFace vs t false p
  none_new = closed_back (spot vs t.one) (spot vs t.two) (spot vs t.three) q p n (omega (arith, reach_in vs ts q t i))

  pub none_lost : InFace vs t true p → InFace vs t true (toward n p q)
  none_lost = inside_stays (spot vs t.one) (spot vs t.two) (spot vs t.three) q p n (omega (arith, reach_in vs ts q t i))

  -- by the tests
  pub in_tri_back : in_tri vs t p ≡ false → in_tri vs t (toward n p q) ≡ false
  in_tri_back e = false_from_ne_true (in_tri vs t (toward n p q)) (λ h. true_false (in_tri vs t p) (in_tri← vs t p (none_new (in_tri→ vs t (toward n p q) h))) e)

  pub inside_tri_stays : inside_tri vs t p ≡ true → inside_tri vs t (toward n p q) ≡ true
  inside_tri_stays e = inside_tri← vs t (toward n p q) (none_lost (inside_tri→ vs t p e))
