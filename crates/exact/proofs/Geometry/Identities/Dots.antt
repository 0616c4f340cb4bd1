-- Identities of squared distances and scalar products: for what is on one line, and for what is far.
use Rattle.std.proofs.Common.{◌≡◌, [], ◌∷◌, ◌+ℤ◌, ◌-ℤ◌, ◌*ℤ◌, sym, refl, ◌∙◌}
use Rattle.exact.specs.Plane.{Point}
use Rattle.exact.proofs.Algebra.Ring.{ring}
use Rattle.exact.proofs.Geometry.Words.{X, Y, W, Δx, Δy, orient, dist², dot, Site, Orient, Dot, Dist², W_times}
use Rattle.exact.proofs.Geometry.Reading.{sites, place, places, geometry}

pub dist²_swap : (p q : Point) → dist² p q ≡ dist² q p
dist²_swap p q = ring (places (p ∷ q ∷ [])) (search geometry depth 20) refl

pub dot_swap : (o p q : Point) → dot o p q ≡ dot o q p
dot_swap o p q = ring (places (o ∷ p ∷ q ∷ [])) (search geometry depth 20) refl

pub dot_same : (p q : Point) → dot p q q ≡ dist² p q
dot_same p q = ring (places (p ∷ q ∷ [])) (search geometry depth 20) refl

pub lagrange : (o p q : Point) → dist² o p *ℤ dist² o q ≡ orient o p q *ℤ orient o p q +ℤ dot o p q *ℤ dot o p q
lagrange o p q = ring (places (o ∷ p ∷ q ∷ [])) (search geometry depth 20) refl

-- three terms with a product by e − o
pub three_terms_dot : (o e d a b : Point) → dot o d e *ℤ orient o a b ≡ dot o a e *ℤ orient o d b +ℤ dot o b e *ℤ orient o a d
three_terms_dot o e d a b = ring (places (o ∷ e ∷ d ∷ a ∷ b ∷ [])) (search geometry depth 20) refl

-- ---- a place x and two ends
pub dot_step_place : (a b : Site) (x : Point) → W x *ℤ dot a.at x b.at ≡ dist² x a.at -ℤ dot x a.at b.at
dot_step_place a b x = ring (place x (sites (a ∷ b ∷ []))) (search geometry depth 20) refl

pub dot_step : (a x b : Site) → Dot a x b ≡ Dist² x a -ℤ Dot x a b
dot_step a x b = sym (W_times x (Dot a x b)) ∙ dot_step_place a b x.at

pub dist²_sum : (a p b : Site) → Dist² a b ≡ Dot a p b +ℤ Dot b p a
dist²_sum a p b = ring (sites (a ∷ p ∷ b ∷ [])) (search geometry depth 20) refl

-- (a − z) · (b − p), against a − p
pub dot_onward : (a p b z : Site) → Dist² a p *ℤ (Dot z a b -ℤ Dot z a p) ≡ Dot a z p *ℤ Dot p a b -ℤ Orient a z p *ℤ Orient p a b
dot_onward a p b z = ring (sites (a ∷ p ∷ b ∷ z ∷ [])) (search geometry depth 20) refl

pub dot_compose : (v s p z : Site) → Dist² v p *ℤ Dot v s z ≡ Dot v s p *ℤ Dot v p z -ℤ Orient v s p *ℤ Orient v p z
dot_compose v s p z = ring (sites (v ∷ s ∷ p ∷ z ∷ [])) (search geometry depth 20) refl

pub three_dots : (a b z : Site) → Dot a b z *ℤ Dot b a z +ℤ Dot a b z *ℤ Dot z a b +ℤ Dot b a z *ℤ Dot z a b ≡ Orient a b z *ℤ Orient a b z
three_dots a b z = ring (sites (a ∷ b ∷ z ∷ [])) (search geometry depth 20) refl

-- a line u → v weighs p by the ends of c d, near which p is
pub weigh_ends : (c d p u v : Site) → Dist² c d *ℤ Orient u v p ≡ Dot d p c *ℤ Orient u v c +ℤ Dot c p d *ℤ Orient u v d +ℤ Orient c d p *ℤ (Dot u v d -ℤ Dot u v c)
weigh_ends c d p u v = ring (sites (c ∷ d ∷ p ∷ u ∷ v ∷ [])) (search geometry depth 20) refl

-- distances from any x, along a → b
pub line_distances : (a b z : Site) (x : Point) →
    Dot a z b *ℤ (dist² x b.at -ℤ dist² x a.at)
    ≡ Dist² a b *ℤ (dist² x z.at -ℤ dist² x a.at) +ℤ W x *ℤ W x *ℤ (Dot a z b *ℤ Dot b z a) +ℤ Orient a b z *ℤ (W x *ℤ (orient a.at b.at x +ℤ orient a.at b.at x -ℤ W x *ℤ Orient a b z))
line_distances a b z x = ring (place x (sites (a ∷ b ∷ z ∷ []))) (search geometry depth 20) refl

-- ---- the bend of a, b, c seen from v, where b is far
pub bend : (v a b c : Site) →
    Orient a b c *ℤ ((Orient v b c +ℤ Orient v a b +ℤ Orient v a c) *ℤ Dist² v b)
    ≡ Orient v b c *ℤ Orient v a b *ℤ Dist² a c +ℤ (Orient v b c +ℤ Orient v a b) *ℤ (Orient v b c *ℤ (Dist² v b -ℤ Dist² v a) +ℤ Orient v a b *ℤ (Dist² v b -ℤ Dist² v c))
bend v a b c = ring (sites (v ∷ a ∷ b ∷ c ∷ [])) (search geometry depth 20) refl

-- ---- by coordinates
pub dist²_Δ : (p q : Point) → dist² p q ≡ Δx p q *ℤ Δx p q +ℤ Δy p q *ℤ Δy p q
dist²_Δ p q = ring (places (p ∷ q ∷ [])) (search geometry depth 20) refl

pub dot_Δ : (o p q : Point) → dot o p q ≡ Δx o p *ℤ Δx o q +ℤ Δy o p *ℤ Δy o q
dot_Δ o p q = ring (places (o ∷ p ∷ q ∷ [])) (search geometry depth 20) refl

pub Δx_site : (a b : Site) → Δx a.at b.at ≡ X b.at -ℤ X a.at
Δx_site a b = ring (sites (a ∷ b ∷ [])) (search geometry depth 20) refl

pub Δy_site : (a b : Site) → Δy a.at b.at ≡ Y b.at -ℤ Y a.at
Δy_site a b = ring (sites (a ∷ b ∷ [])) (search geometry depth 20) refl
