-- Locally right is right everywhere: a vertex inside the circle of a triangle stays inside while one walks towards it, but where one arrives it is a corner.
use Rattle.std.proofs.Common.{◌≡◌, ℕ, ◌<◌, Bool, true, false, not, List, length, neg_ℤ, sym, ◌∙◌}
use Rattle.std.proofs.lemmas.Bool.{false≢true, not-true}
use Rattle.exact.specs.Plane.{or, every, Vertex, spot, Tri, goes, inside_circle, empty_circle, Tiles}
use Rattle.exact.proofs.Booleans.{or_left, or_right, or_false→}
use Rattle.exact.proofs.Lists.{In, every→, every←}
use Rattle.exact.proofs.Vertices.{site, Turn, at_one, at_two, at_three, next, corner, rot, goes→}
use Rattle.exact.proofs.Algebra.Signs.{Sign, zero_sign_neg}
use Rattle.exact.proofs.Geometry.Words.{W_site}
use Rattle.exact.proofs.Geometry.Tests.{not_inside_circle→}
use Rattle.exact.proofs.Geometry.Identities.Circles.{corner_on}
use Rattle.exact.proofs.Geometry.Faces.{incircle_of, Beyond, rot_out, rot_circle, empty_circle←}
use Rattle.exact.proofs.Walk.Edges.{Power, InTriangleOf, Across}
use Rattle.exact.proofs.Walk.Everywhere.{everywhere}
use Rattle.exact.proofs.Walk.Lists.{Side, side, next_side, start, power_side, across_side, list_triangles}
use Rattle.exact.proofs.Statements.Words.{Plain, corners_only, locally}
use Rattle.exact.proofs.Statements.Tilings.{ProperTiling, corners_tiling}
use Rattle.exact.proofs.Statements.Neighbours.{neighbour}

pub has_neighbours : (vs : List Vertex) (ts : List Tri) → ProperTiling vs ts → (t : Tri) → In t ts → (k : Turn) (i : ℕ) → i < length vs → Beyond vs t (spot vs i) k →
    (u : Tri) × In u ts × (goes u (corner (next k) t) (corner k t) ≡ true)
has_neighbours vs ts T t it k i l r = neighbour vs ts T t it (corner k t) (corner (next k) t) (corner (next (next k)) t) (rot t k) i l r

-- ---- what `locally` says of a triangle u across the edge k of t
none_inside : (p a b c : Bool) → p ≡ true → or (not p) (not (or a (or b c))) ≡ true → (a ≡ false) × (b ≡ false) × (c ≡ false)
none_inside true a b c h e =
    let z = or_false→ a (or b c) (not-true (or a (or b c)) e) in let y = or_false→ b c z.1 in
    (z.0, y.0, y.1)
none_inside false a b c h e = absurd (false≢true h)

along_edge : (t u : Tri) (k : Turn) → goes u (corner (next k) t) (corner k t) ≡ true → or (goes u t.two t.one) (or (goes u t.three t.two) (goes u t.one t.three)) ≡ true
along_edge t u at_one g = or_left (goes u t.two t.one) (or (goes u t.three t.two) (goes u t.one t.three)) g
along_edge t u at_two g = or_right (goes u t.two t.one) (or (goes u t.three t.two) (goes u t.one t.three)) (or_left (goes u t.three t.two) (goes u t.one t.three) g)
along_edge t u at_three g = or_right (goes u t.two t.one) (or (goes u t.three t.two) (goes u t.one t.three)) (or_right (goes u t.three t.two) (goes u t.one t.three) g)

module _ (vs : List Vertex) (ts : List Tri) (T : ProperTiling vs ts) (local : locally vs ts ≡ true) where
  corner_clear : (t u : Tri) → In t ts → In u ts → (k : Turn) → goes u (corner (next k) t) (corner k t) ≡ true → (m : Turn) → Sign false (neg_ℤ (incircle_of vs t (spot vs (corner m u))))
  corner_clear t u it iu k g m = go m
    where
      inside : ℕ → Bool
      inside n = inside_circle (spot vs t.one) (spot vs t.two) (spot vs t.three) (spot vs n)

      clear : (inside u.one ≡ false) × (inside u.two ≡ false) × (inside u.three ≡ false)
      clear = none_inside (or (goes u t.two t.one) (or (goes u t.three t.two) (goes u t.one t.three))) (inside u.one) (inside u.two) (inside u.three) (along_edge t u k g) (every→ _ ts (every→ _ ts local t it) u iu)

      go : (m : Turn) → Sign false (neg_ℤ (incircle_of vs t (spot vs (corner m u))))
      go at_one = not_inside_circle→ (spot vs t.one) (spot vs t.two) (spot vs t.three) (spot vs u.one) clear.0
      go at_two = not_inside_circle→ (spot vs t.one) (spot vs t.two) (spot vs t.three) (spot vs u.two) clear.1
      go at_three = not_inside_circle→ (spot vs t.one) (spot vs t.two) (spot vs t.three) (spot vs u.three) clear.2

  module _ (i : ℕ) (below : i < length vs) where
    cross : (s : Side) → In s.tri ts → Beyond vs s.tri (spot vs i) s.turn → (f : Side) × In f.tri ts × Across (start vs T.ones ts T.triangle) next_side s f
    cross s it r =
        let t = s.tri in let k = s.turn in
        let n = has_neighbours vs ts T t it k i below r in let u = n.0 in
        let e = goes→ u (corner (next k) t) (corner k t) n.2 in
        (side u e.turn_at, n.1, across_side vs T.ones ts T.triangle t k u (record { here = n.1; edge = e; clear = corner_clear t u it n.1 k n.2 (next (next e.turn_at)) }))

    -- in a triangle it is a corner, on the circle
    on_circle : (s : Side) → In s.tri ts → InTriangleOf (start vs T.ones ts T.triangle) next_side false s (spot vs i) → Sign false (neg_ℤ (Power (start vs T.ones ts T.triangle) next_side s (spot vs i)))
    on_circle s it h =
        let t = s.tri in let k = s.turn in
        let w = T.corners t it i below (rot_out vs t (corner k t) (corner (next k) t) (corner (next (next k)) t) (rot t k) (spot vs i) h) in
        zero_sign_neg (Power (start vs T.ones ts T.triangle) next_side s (spot vs i))
        (power_side vs T.ones ts T.triangle t k (spot vs i) ∙ sym (rot_circle vs t T.ones i w.0 w.1 w.2 (spot vs i)) ∙ corner_on (site vs T.ones i) (site vs T.ones w.0) (site vs T.ones w.1))

    not_inside : (t : Tri) → In t ts → Sign false (neg_ℤ (incircle_of vs t (spot vs i)))
    not_inside t it = everywhere (list_triangles vs T.ones ts T.triangle) (spot vs i) (W_site (site vs T.ones i)) cross on_circle (side t at_one) it

pub local_suffices :
    (vs : List Vertex) (ts : List Tri) → Plain vs → Tiles vs ts → every (corners_only vs) ts ≡ true → locally vs ts ≡ true → every (empty_circle vs) ts ≡ true
local_suffices vs ts pl tl co local =
    let T = corners_tiling vs ts pl tl co in
    every← (empty_circle vs) ts (λ t it. empty_circle← vs t (λ k l. not_inside vs ts T local k l t it))
