-- Triangles given by their edges, whatever these are (the half edges of a mesh, or a triangle of a list with one of its corners): `from e` is where e begins, `next e` is the edge after it in its triangle.
use Rattle.std.proofs.Common.{◌≡◌, Bool, true, false, ◌⊎◌, List, ℤ, neg_ℤ, sym, refl, ap, ◌∙◌, subst, inl, inr}
use Rattle.exact.specs.Plane.{Point}
use Rattle.exact.proofs.Lists.{In}
use Rattle.exact.proofs.Algebra.Signs.{Sign, split_below}
use Rattle.exact.proofs.Geometry.Words.{orient, incircle, Within, Site, Orient, Left}
use Rattle.exact.proofs.Geometry.Identities.Sides.{turn}
use Rattle.exact.proofs.Geometry.Identities.Circles.{circle_turn_place}

module _ {E : Type 0} (from : E → Site) (next : E → E) where
  -- of the triangle of e
  abbrev pub Area : E → ℤ
  Area e = Orient (from e) (from (next e)) (from (next (next e)))

  abbrev pub Power : E → Point → ℤ
  Power e x = incircle (from e).at (from (next e)).at (from (next (next e))).at x

  abbrev pub InTriangleOf : Bool → E → Point → Type 0
  InTriangleOf s e x = Within s (from e).at (from (next e)).at (from (next (next e))).at x

  -- x is strictly right of e
  abbrev pub Beyond : E → Point → Type 0
  Beyond e x = Sign true (neg_ℤ (orient (from e).at (from (next e)).at x))

  -- f is the edge e from its other side, and the corner across is not inside the circle of e's triangle
  pub record Across (e f : E) : Type 0 where
    pub starts : from f ≡ from (next e)
    pub ends : from (next f) ≡ from e
    pub clear : Sign false (neg_ℤ (Power e (from (next (next f))).at))

  -- what is known of the edges that are Inner: they make triangles that turn left; faces has an edge of each of these, vertices has their corners
  pub record Triangles (Inner : E → Type 0) (faces : List E) (vertices : List Site) : Type 0 where
    pub next_inner : (e : E) → Inner e → Inner (next e)
    pub round : (e : E) → Inner e → next (next (next e)) ≡ e
    pub left : (e : E) → Inner e → Left (from e) (from (next e)) (from (next (next e)))
    pub face_inner : (e : E) → In e faces → Inner e
    pub in_faces : (e : E) → Inner e → In e faces ⊎ (In (next e) faces ⊎ In (next (next e)) faces)
    pub in_vertices : (e : E) → Inner e → In (from e) vertices

module _ {E : Type 0} {from : E → Site} {next : E → E} {Inner : E → Type 0} {faces : List E} {vertices : List Site} (T : Triangles from next Inner faces vertices) where
  pub area_next : (e : E) → Inner e → Area from next (next e) ≡ Area from next e
  area_next e i = ap (λ (f : E). Orient (from (next e)) (from (next (next e))) (from f)) (T.round e i) ∙ sym (turn (from e) (from (next e)) (from (next (next e))))

  pub power_next : (e : E) → Inner e → (x : Point) → Power from next (next e) x ≡ Power from next e x
  power_next e i x =
      ap (λ (f : E). incircle (from (next e)).at (from (next (next e))).at (from f).at x) (T.round e i)
      ∙ sym (circle_turn_place (from e) (from (next e)) (from (next (next e))) x)

  -- the edge of e's triangle that the list has
  pub face_of : (e : E) → Inner e → (f : E) × In f faces × (Area from next f ≡ Area from next e) × ((x : Point) → Power from next f x ≡ Power from next e x)
  face_of e i = elim (T.in_faces e i) [
    | inl h ↦ (e, h, refl, λ x. refl)
    | inr s ↦ elim s [
      | inl h ↦ (next e, h, area_next e i, power_next e i)
      | inr h ↦
          let j = T.next_inner e i in
          (next (next e), h, area_next (next e) j ∙ area_next e i, λ x. power_next (next e) j x ∙ power_next e i x)
    ]
  ]

  -- x is in the triangle of e or on its border, or strictly right of one of its edges
  pub in_or_beyond : (e : E) → Inner e → (x : Point) → InTriangleOf from next false e x ⊎ (Beyond from next e x ⊎ (Beyond from next (next e) x ⊎ Beyond from next (next (next e)) x))
  in_or_beyond e i x = elim (split_below (orient (from e).at (from (next e)).at x)) [
    | inr h ↦ inr (inl h)
    | inl p ↦ elim (split_below (orient (from (next e)).at (from (next (next e))).at x)) [
      | inr h ↦ inr (inr (inl h))
      | inl q ↦ elim (split_below (orient (from (next (next e))).at (from (next (next (next e)))).at x)) [
        | inr h ↦ inr (inr (inr h))
        | inl r ↦ inl (record { ab = p; bc = q; ca = subst (λ (f : E). Sign false (orient (from (next (next e))).at (from f).at x)) (T.round e i) r })
      ]
    ]
  ]
