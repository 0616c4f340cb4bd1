-- Without a fourth vertex on the circle of any triangle there is only one Delaunay triangulation.
-- The middle of a triangle is in one of the other triangulation; the two circles are one, so the corners are the same.
use Rattle.std.proofs.Common.{◌≡◌, ℕ, ◌<◌, Bool, true, false, ◌&&◌, eqb, List, [], length, pos, neg_ℤ, sym, refl, ap, ◌∙◌, subst, inl, inr, arith}
use Rattle.exact.specs.Plane.{or, every, Vertex, spot, Tri, circle, below_0, all_numbers, on_a_line, Delaunay, empty_circle}
use Rattle.std.proofs.lemmas.Bool.{and_from, eq-eqb}
use Rattle.exact.proofs.Booleans.{or→, and3←}
use Rattle.exact.proofs.Lists.{In, every→, every←, any←, up_to←}
use Rattle.exact.proofs.Vertices.{site, Rot, rot₁, rot₂, rot₃}
use Rattle.exact.proofs.Algebra.Signs.{◌⊞◌, ◌by◌, clash_zero}
use Rattle.exact.proofs.Algebra.Tests.{below→}
use Rattle.exact.proofs.Geometry.Words.{incircle, Site}
use Rattle.exact.proofs.Geometry.Circles.{one_circle, one_circle_back}
use Rattle.exact.proofs.Geometry.Moves.{centre, centre_place, centre_inside, orient_middle}
use Rattle.exact.proofs.Geometry.Faces.{Triangle, incircle_of, empty_circle→, rot_circle, rot_left, rot_below}
use Rattle.exact.proofs.Geometry.Corners.{CornerOf, same_corners}
use Rattle.exact.proofs.Statements.Words.{Plain, has_tri, no_more_on}
use Rattle.exact.proofs.Statements.Tilings.{corner→, ProperTiling, empty_tiling}

module _ (vs : List Vertex) (ones : (i : ℕ) → (spot vs i).w ≡ 1) where
  abbrev P : ℕ → Site
  P i = site vs ones i

  on_corner : (t : Tri) → no_more_on vs t ≡ true → (i : ℕ) → i < length vs → incircle_of vs t (spot vs i) ≡ pos 0 → CornerOf t i
  unfolding incircle
  on_corner t h i l e =
      let c = circle (spot vs t.one) (spot vs t.two) (spot vs t.three) (spot vs i) in
      elim (or→ (or (eqb i t.one) (or (eqb i t.two) (eqb i t.three))) (below_0 c)
      (every→ (λ i. or (or (eqb i t.one) (or (eqb i t.two) (eqb i t.three))) (below_0 (circle (spot vs t.one) (spot vs t.two) (spot vs t.three) (spot vs i)))) (all_numbers vs) h i (up_to← (length vs) i l))) [
        | inl f ↦ corner→ t i f
        | inr f ↦ absurd (clash_zero (below→ c f) (ap neg_ℤ e))
      ]

  -- the middle of t is in some u: the corners of t are on the circle of u
  abbrev Meets : List Tri → Tri → Type 0
  Meets us t = (u : Tri) × In u us × Triangle vs u × ((incircle_of vs u (spot vs t.one) ≡ pos 0) × (incircle_of vs u (spot vs t.two) ≡ pos 0) × (incircle_of vs u (spot vs t.three) ≡ pos 0))

  meets : (us : List Tri) → ProperTiling vs us → every (empty_circle vs) us ≡ true → (t : Tri) → Triangle vs t → empty_circle vs t ≡ true → Meets us t
  meets us U eu t g e =
      let a = P t.one in let b = P t.two in let c = P t.three in
      let one_below : t.one < length vs = omega (arith, g.least_two, g.two_below) in
      let r = U.cover (centre a b c g.turns_left) (centre_place a b c g.turns_left) (λ i j k. k t.one one_below ⊞ k t.two g.two_below ⊞ k t.three g.three_below by orient_middle (spot vs i) (spot vs j) a.at b.at c.at) in
      let u = r.0 in let f = U.triangle u r.1 in
      let u_below : u.one < length vs = omega (arith, f.least_two, f.two_below) in
      let m = every→ (empty_circle vs) us eu u r.1 in (
        u,
        r.1,
        f,
        one_circle a b c (P u.one) (P u.two) (P u.three) (centre a b c g.turns_left) (centre_inside a b c g.turns_left) r.2
            (empty_circle→ vs u m t.one one_below) (empty_circle→ vs u m t.two g.two_below) (empty_circle→ vs u m t.three g.three_below)
            (empty_circle→ vs t e u.one u_below) (empty_circle→ vs t e u.two f.two_below) (empty_circle→ vs t e u.three f.three_below),
      )

  has_tri← : (us : List Tri) (t u : Tri) → In u us → u ≡ t → has_tri us t ≡ true
  has_tri← us t u i e =
      any← (λ u. eqb u.one t.one && (eqb u.two t.two && eqb u.three t.three)) us u i
      (and3← (eqb u.one t.one) (eqb u.two t.two) (eqb u.three t.three) (eq-eqb u.one t.one (ap (λ (s : Tri). s.one) e)) (eq-eqb u.two t.two (ap (λ (s : Tri). s.two) e)) (eq-eqb u.three t.three (ap (λ (s : Tri). s.three) e)))

  -- the corners of u are on the circle of t, so they are those of t
  there : (us : List Tri) (t : Tri) → Triangle vs t → no_more_on vs t ≡ true → Meets us t → has_tri us t ≡ true
  there us t g n m = has_tri← us t u m.1 (same_corners vs ones t u g f (back u.one u.two u.three rot₁) (back u.two u.three u.one rot₂) (back u.three u.one u.two rot₃))
    where
      u : Tri
      u = m.0

      f : Triangle vs u
      f = m.2

      back : (p q r : ℕ) → Rot u p q r → CornerOf t p
      back p q r ρ =
          let on : (k : ℕ) → incircle_of vs u (spot vs k) ≡ pos 0 → incircle (spot vs p) (spot vs q) (spot vs r) (spot vs k) ≡ pos 0 = λ k z. rot_circle vs u ones p q r ρ (spot vs k) ∙ z in
          on_corner t n p (rot_below vs u p q r ρ f)
          (one_circle_back (P t.one) (P t.two) (P t.three) (P p) (P q) (P r) (rot_left vs u ones p q r ρ f) (on t.one m.3.0) (on t.two m.3.1) (on t.three m.3.2))

module _ (vs : List Vertex) (ts us : List Tri) (T : ProperTiling vs ts) (et : every (empty_circle vs) ts ≡ true) (U : ProperTiling vs us) (eu : every (empty_circle vs) us ≡ true) (n : every (no_more_on vs) ts ≡ true) where
  in_other : (t : Tri) → In t ts → has_tri us t ≡ true
  in_other t i =
      let g = T.triangle t i in
      there vs T.ones us t g (every→ (no_more_on vs) ts n t i) (meets vs T.ones us U eu t g (every→ (empty_circle vs) ts et t i))

  in_first : (u : Tri) → In u us → has_tri ts u ≡ true
  in_first u i =
      let f = U.triangle u i in
      let m = meets vs T.ones ts T et u f (every→ (empty_circle vs) us eu u i) in
      let t = m.0 in let e = every→ (no_more_on vs) ts n t m.1 in
      let one_below : u.one < length vs = omega (arith, f.least_two, f.two_below) in
      let s = same_corners vs T.ones t u m.2 f (on_corner vs T.ones t e u.one one_below m.3.0) (on_corner vs T.ones t e u.two f.two_below m.3.1) (on_corner vs T.ones t e u.three f.three_below m.3.2) in
      has_tri← vs T.ones ts u t m.1 (sym s)

pub only_one :
    (vs : List Vertex) (ts us : List Tri) → Plain vs → Delaunay vs ts → Delaunay vs us → every (no_more_on vs) ts ≡ true → every (has_tri us) ts && every (has_tri ts) us ≡ true
unfolding Delaunay every
only_one vs ts us h dt du n = go (on_a_line vs) refl
  where
    go : (b : Bool) → on_a_line vs ≡ b → every (has_tri us) ts && every (has_tri ts) us ≡ true
    go true e = subst (λ (xs : List Tri). every (has_tri us) xs && every (has_tri xs) us ≡ true) (sym (dt.0 e)) (subst (λ (ys : List Tri). every (has_tri []) ys ≡ true) (sym (du.0 e)) refl)
    go false e =
        let et = (dt.1 e).1 in let eu = (du.1 e).1 in
        let T = empty_tiling vs ts h (dt.1 e).0 et in let U = empty_tiling vs us h (du.1 e).0 eu in
        and_from (every (has_tri us) ts) (every (has_tri ts) us) (every← (has_tri us) ts (in_other vs ts us T et U eu n)) (every← (has_tri ts) us (in_first vs ts us T et U eu n))
