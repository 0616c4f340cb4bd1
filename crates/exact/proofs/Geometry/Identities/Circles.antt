-- Identities of `incircle`: turning and swapping, circles by weights, two circles through two points, two circles anywhere.
use Rattle.std.proofs.Common.{◌≡◌, [], ◌∷◌, ℤ, pos, ◌+ℤ◌, ◌-ℤ◌, ◌*ℤ◌, neg_ℤ, refl, ap, ◌∙◌, ap₂}
use Rattle.exact.specs.Plane.{Point}
use Rattle.exact.proofs.Algebra.Ring.{ring, integers}
use Rattle.exact.proofs.Geometry.Words.{W, orient, incircle, dist², dot, Site, Orient, Incircle, Dot, Dist², Volume, W_times, W³_times}
use Rattle.exact.proofs.Geometry.Reading.{sites, place, geometry}

-- ---- turning and swapping
pub circle_turn_place : (a b c : Site) (x : Point) → incircle a.at b.at c.at x ≡ incircle b.at c.at a.at x
circle_turn_place a b c x = ring (place x (sites (a ∷ b ∷ c ∷ []))) (search geometry depth 20) refl

pub circle_turn : (a b c d : Site) → Incircle a b c d ≡ Incircle b c a d
circle_turn a b c d = circle_turn_place a b c d.at

pub circle_swap : (a b c d : Site) → Incircle a b c d ≡ neg_ℤ (Incircle b a c d)
circle_swap a b c d = ring (sites (a ∷ b ∷ c ∷ d ∷ [])) (search geometry depth 20) refl

pub circle_round : (a b c d : Site) → Incircle a b c d ≡ neg_ℤ (Incircle b c d a)
circle_round a b c d = ring (sites (a ∷ b ∷ c ∷ d ∷ [])) (search geometry depth 20) refl

pub circle_last_three : (a b c d : Site) → Incircle a b c d ≡ Incircle a c d b
circle_last_three a b c d = ring (sites (a ∷ b ∷ c ∷ d ∷ [])) (search geometry depth 20) refl

-- the edge a b from its other side, and the other diagonal
pub circle_across : (a b c d : Site) → Incircle b a d c ≡ Incircle a b c d
circle_across a b c d = ring (sites (a ∷ b ∷ c ∷ d ∷ [])) (search geometry depth 20) refl

pub circle_diagonal : (a b c d : Site) → Incircle d c a b ≡ neg_ℤ (Incircle a b c d)
circle_diagonal a b c d = ring (sites (a ∷ b ∷ c ∷ d ∷ [])) (search geometry depth 20) refl

-- a corner is on its circle
pub corner_on : (a b c : Site) → Incircle a b c a ≡ pos 0
corner_on a b c = ring (sites (a ∷ b ∷ c ∷ [])) (search geometry depth 20) refl

-- ---- by the weights of x in the triangle
pub circle_weights_place : (a b c : Site) (x : Point) →
    incircle a.at b.at c.at x ≡ W x *ℤ (orient b.at c.at x *ℤ dist² a.at x +ℤ orient c.at a.at x *ℤ dist² b.at x +ℤ orient a.at b.at x *ℤ dist² c.at x)
circle_weights_place a b c x = ring (place x (sites (a ∷ b ∷ c ∷ []))) (search geometry depth 20) refl

pub circle_weights : (a b c z : Site) → Incircle a b c z ≡ Orient b c z *ℤ Dist² a z +ℤ Orient c a z *ℤ Dist² b z +ℤ Orient a b z *ℤ Dist² c z
circle_weights a b c z = circle_weights_place a b c z.at ∙ W_times z (Orient b c z *ℤ Dist² a z +ℤ Orient c a z *ℤ Dist² b z +ℤ Orient a b z *ℤ Dist² c z)

-- ---- four points, by vectors from a
pub circle_vectors : (a b c d : Site) → Orient c a d *ℤ Dist² a b ≡ Incircle a b c d +ℤ Orient b a d *ℤ Dist² a c +ℤ Orient a b c *ℤ Dist² a d
circle_vectors a b c d = ring (sites (a ∷ b ∷ c ∷ d ∷ [])) (search geometry depth 20) refl

-- by the distances from the corner v
pub circle_cone : (v a b z : Site) → Incircle v a b z ≡ Orient b v z *ℤ (Dist² v a -ℤ Dist² v z) +ℤ Orient v a z *ℤ (Dist² v b -ℤ Dist² v z) -ℤ Orient a b z *ℤ Dist² v z
circle_cone v a b z = ring (sites (v ∷ a ∷ b ∷ z ∷ [])) (search geometry depth 20) refl

-- distances from any x, in the cone of a and b at v
pub circle_distances : (v a b z : Site) (x : Point) →
    Orient v a b *ℤ (dist² x z.at -ℤ dist² x v.at) ≡ Orient b v z *ℤ (dist² x a.at -ℤ dist² x v.at) +ℤ Orient v a z *ℤ (dist² x b.at -ℤ dist² x v.at) -ℤ W x *ℤ W x *ℤ Incircle v a b z
circle_distances v a b z x = ring (place x (sites (v ∷ a ∷ b ∷ z ∷ []))) (search geometry depth 20) refl

-- ---- the line of an edge
pub circle_line_place : (a b c : Site) (x : Point) →
    incircle a.at b.at c.at x ≡ W x *ℤ (W x *ℤ (W x *ℤ (orient a.at b.at x *ℤ Dot c a b))) -ℤ W x *ℤ (W x *ℤ (Orient a b c *ℤ dot x a.at b.at))
circle_line_place a b c x = ring (place x (sites (a ∷ b ∷ c ∷ []))) (search geometry depth 20) refl

pub circle_line : (a b c z : Site) → Incircle a b c z ≡ Orient a b z *ℤ Dot c a b -ℤ Orient a b c *ℤ Dot z a b
circle_line a b c z = circle_line_place a b c z.at ∙ ap₂ ◌-ℤ◌ (once (W z.at *ℤ (W z.at *ℤ (Orient a b z *ℤ Dot c a b))) ∙ once (W z.at *ℤ (Orient a b z *ℤ Dot c a b)) ∙ once (Orient a b z *ℤ Dot c a b)) (once (W z.at *ℤ (Orient a b c *ℤ Dot z a b)) ∙ once (Orient a b c *ℤ Dot z a b))
  where
    once : (v : ℤ) → W z.at *ℤ v ≡ v
    once v = W_times z v

-- ---- the circles through a and b
pub pencil_place : (a b c p : Site) (x : Point) →
    Orient a b c *ℤ incircle a.at b.at p.at x ≡ Orient a b p *ℤ incircle a.at b.at c.at x -ℤ W x *ℤ W x *ℤ W x *ℤ (orient a.at b.at x *ℤ Incircle a b c p)
pencil_place a b c p x = ring (place x (sites (a ∷ b ∷ c ∷ p ∷ []))) (search geometry depth 20) refl

pub pencil : (a b c p z : Site) → Orient a b c *ℤ Incircle a b p z ≡ Orient a b p *ℤ Incircle a b c z -ℤ Orient a b z *ℤ Incircle a b c p
pencil a b c p z = pencil_place a b c p z.at ∙ ap (λ (v : ℤ). Orient a b p *ℤ Incircle a b c z -ℤ v) (W³_times z (Orient a b z *ℤ Incircle a b c p))

-- a b crossed, from a b c to b a d: by how much the power of x grows
pub cross_place : (a b c d : Site) (x : Point) →
    Orient a b c *ℤ incircle b.at a.at d.at x ≡ Orient b a d *ℤ incircle a.at b.at c.at x +ℤ W x *ℤ W x *ℤ W x *ℤ (orient a.at b.at x *ℤ Incircle a b c d)
cross_place a b c d x = ring (place x (sites (a ∷ b ∷ c ∷ d ∷ []))) (search geometry depth 20) refl

pub cross : (a b c d z : Site) → Orient a b c *ℤ Incircle b a d z ≡ Orient b a d *ℤ Incircle a b c z +ℤ Orient a b z *ℤ Incircle a b c d
cross a b c d z = cross_place a b c d z.at ∙ ap (λ (v : ℤ). Orient b a d *ℤ Incircle a b c z +ℤ v) (W³_times z (Orient a b z *ℤ Incircle a b c d))

-- ---- two circles: the circle of e f g by what it is to the corners of a b c
pub circle_by_corners : (a b c e f g : Site) (x : Point) →
    Orient a b c *ℤ incircle e.at f.at g.at x
    ≡ W x *ℤ W x *ℤ W x *ℤ (orient b.at c.at x *ℤ Incircle e f g a +ℤ orient c.at a.at x *ℤ Incircle e f g b +ℤ orient a.at b.at x *ℤ Incircle e f g c) +ℤ Orient e f g *ℤ incircle a.at b.at c.at x
circle_by_corners a b c e f g x = ring (place x (sites (a ∷ b ∷ c ∷ e ∷ f ∷ g ∷ []))) (search geometry depth 40 fits 20000) refl

pub circle_by_corners_site : (a b c e f g z : Site) →
    Orient a b c *ℤ Incircle e f g z ≡ Orient b c z *ℤ Incircle e f g a +ℤ Orient c a z *ℤ Incircle e f g b +ℤ Orient a b z *ℤ Incircle e f g c +ℤ Orient e f g *ℤ Incircle a b c z
circle_by_corners_site a b c e f g z =
    let sum = Orient b c z *ℤ Incircle e f g a +ℤ Orient c a z *ℤ Incircle e f g b +ℤ Orient a b z *ℤ Incircle e f g c in
    circle_by_corners a b c e f g z.at ∙ ap (λ (v : ℤ). v +ℤ Orient e f g *ℤ Incircle a b c z) (W³_times z sum)

-- what each is to the corners of the other, by the weights of x
pub two_circles : (a b c e f g : Site) (x : Point) →
    orient b.at c.at x *ℤ Incircle e f g a +ℤ orient c.at a.at x *ℤ Incircle e f g b +ℤ orient a.at b.at x *ℤ Incircle e f g c
    +ℤ (orient f.at g.at x *ℤ Incircle a b c e +ℤ orient g.at e.at x *ℤ Incircle a b c f +ℤ orient e.at f.at x *ℤ Incircle a b c g) ≡ pos 0
two_circles a b c e f g x = ring (place x (sites (a ∷ b ∷ c ∷ e ∷ f ∷ g ∷ []))) (search geometry depth 40 fits 20000) refl

-- the difference of two circles, weighed by their areas, is affine
abbrev pub Radical : Site → Site → Site → Site → Site → Site → Site → ℤ
Radical a b c e f g z = Orient e f g *ℤ Incircle a b c z -ℤ Orient a b c *ℤ Incircle e f g z

affine : (o t u m i j α β γ i₁ i₂ i₃ j₁ j₂ j₃ : ℤ) → o *ℤ i ≡ α *ℤ i₁ +ℤ β *ℤ i₂ +ℤ γ *ℤ i₃ +ℤ t *ℤ m → o *ℤ j ≡ α *ℤ j₁ +ℤ β *ℤ j₂ +ℤ γ *ℤ j₃ +ℤ u *ℤ m →
    o *ℤ (u *ℤ i -ℤ t *ℤ j) ≡ α *ℤ (u *ℤ i₁ -ℤ t *ℤ j₁) +ℤ β *ℤ (u *ℤ i₂ -ℤ t *ℤ j₂) +ℤ γ *ℤ (u *ℤ i₃ -ℤ t *ℤ j₃)
affine o t u m i j α β γ i₁ i₂ i₃ j₁ j₂ j₃ d e =
    ring (t ∷ u ∷ o ∷ i ∷ j ∷ []) {b = u *ℤ (o *ℤ i) -ℤ t *ℤ (o *ℤ j)} (search integers depth 20 fits 5000) refl
    ∙ ap₂ (λ (v w : ℤ). u *ℤ v -ℤ t *ℤ w) d e
    ∙ ring (t ∷ u ∷ m ∷ α ∷ β ∷ γ ∷ i₁ ∷ i₂ ∷ i₃ ∷ j₁ ∷ j₂ ∷ j₃ ∷ []) (search integers depth 30 fits 5000) refl

pub radical_affine : (a b c e f g p q r z : Site) →
    Orient p q r *ℤ Radical a b c e f g z ≡ Orient q r z *ℤ Radical a b c e f g p +ℤ Orient r p z *ℤ Radical a b c e f g q +ℤ Orient p q z *ℤ Radical a b c e f g r
radical_affine a b c e f g p q r z =
    affine (Orient p q r) (Orient a b c) (Orient e f g) (Incircle p q r z) (Incircle a b c z) (Incircle e f g z) (Orient q r z) (Orient r p z) (Orient p q z)
    (Incircle a b c p) (Incircle a b c q) (Incircle a b c r) (Incircle e f g p) (Incircle e f g q) (Incircle e f g r)
    (circle_by_corners_site p q r a b c z) (circle_by_corners_site p q r e f g z)

-- ---- heights on the paraboloid, weighed by areas: what a flip takes away
pub volume_turn : (a b c : Site) → Volume a b c ≡ Volume b c a
volume_turn a b c = ring (sites (a ∷ b ∷ c ∷ [])) (search geometry depth 20 fits 5000) refl

pub volume_flip : (a b c d : Site) → Volume a b c +ℤ Volume b a d ≡ Volume c a d +ℤ Volume d b c +ℤ Incircle a b c d
volume_flip a b c d = ring (sites (a ∷ b ∷ c ∷ d ∷ [])) (search geometry depth 20 fits 5000) refl
