-- Identities of `orient`: turning and swapping, the weights of a place in a triangle, three terms. Each is written in the shape in which its signs are read.
use Rattle.std.proofs.Common.{◌≡◌, [], ◌∷◌, ℤ, pos, ◌+ℤ◌, ◌-ℤ◌, ◌*ℤ◌, neg_ℤ, sym, refl, ◌∙◌}
use Rattle.exact.specs.Plane.{Point}
use Rattle.exact.proofs.Algebra.Ring.{ring, integers}
use Rattle.exact.proofs.Geometry.Words.{X, Y, W, orient, Site, Orient, W_times}
use Rattle.exact.proofs.Geometry.Reading.{sites, place, places, geometry}

-- ---- turning and swapping
pub turn_place : (a b : Site) (x : Point) → orient a.at b.at x ≡ orient b.at x a.at
turn_place a b x = ring (place x (sites (a ∷ b ∷ []))) (search geometry depth 20) refl

pub turn : (a b c : Site) → Orient a b c ≡ Orient b c a
turn a b c = turn_place a b c.at

pub swap_place : (a b : Site) (x : Point) → orient a.at b.at x ≡ neg_ℤ (orient b.at a.at x)
swap_place a b x = ring (place x (sites (a ∷ b ∷ []))) (search geometry depth 20) refl

pub swap : (a b c : Site) → Orient a b c ≡ neg_ℤ (Orient b a c)
swap a b c = swap_place a b c.at

-- the beginning and the end of an edge are on its line
pub start_on : (a b : Site) → Orient a b a ≡ pos 0
start_on a b = ring (sites (a ∷ b ∷ [])) (search geometry depth 20) refl

pub end_on : (a b : Site) → Orient a b b ≡ pos 0
end_on a b = ring (sites (a ∷ b ∷ [])) (search geometry depth 20) refl

-- all six orders of three, for `omega`
pub orders : (a b c : Site) → (Orient b c a ≡ Orient a b c) × (Orient c a b ≡ Orient a b c) × (Orient b a c ≡ neg_ℤ (Orient a b c)) × (Orient a c b ≡ neg_ℤ (Orient a b c)) × (Orient c b a ≡ neg_ℤ (Orient a b c))
orders a b c = (sym (turn a b c), turn c a b, swap b a c, sym (turn b a c) ∙ swap b a c, turn c b a ∙ swap b a c)

-- ---- the weights of a place x in the triangle a b c
pub weights_place : (a b c : Site) (x : Point) → W x *ℤ Orient a b c ≡ orient b.at c.at x +ℤ orient c.at a.at x +ℤ orient a.at b.at x
weights_place a b c x = ring (place x (sites (a ∷ b ∷ c ∷ []))) (search geometry depth 20) refl

pub weights : (a b c z : Site) → Orient a b c ≡ Orient b c z +ℤ Orient c a z +ℤ Orient a b z
weights a b c z = sym (W_times z (Orient a b c)) ∙ weights_place a b c z.at

pub weights_x : (a b c : Site) (x : Point) → Orient a b c *ℤ X x ≡ orient b.at c.at x *ℤ X a.at +ℤ orient c.at a.at x *ℤ X b.at +ℤ orient a.at b.at x *ℤ X c.at
weights_x a b c x = ring (place x (sites (a ∷ b ∷ c ∷ []))) (search geometry depth 20) refl

pub weights_y : (a b c : Site) (x : Point) → Orient a b c *ℤ Y x ≡ orient b.at c.at x *ℤ Y a.at +ℤ orient c.at a.at x *ℤ Y b.at +ℤ orient a.at b.at x *ℤ Y c.at
weights_y a b c x = ring (place x (sites (a ∷ b ∷ c ∷ []))) (search geometry depth 20) refl

-- a line u → v weighs a place by its corners
pub weigh_line : (a b c u v : Site) (x : Point) →
    Orient a b c *ℤ orient u.at v.at x ≡ orient b.at c.at x *ℤ Orient u v a +ℤ orient c.at a.at x *ℤ Orient u v b +ℤ orient a.at b.at x *ℤ Orient u v c
weigh_line a b c u v x = ring (place x (sites (a ∷ b ∷ c ∷ u ∷ v ∷ []))) (search geometry depth 20) refl

-- ---- three terms: of vectors, of places seen from a, and of three directions at a
abbrev pub det : ℤ → ℤ → ℤ → ℤ → ℤ
det a b c d = a *ℤ d -ℤ b *ℤ c

pub three_terms_det : (a b c d e f g h : ℤ) → det a b c d *ℤ det e f g h ≡ det a b e f *ℤ det c d g h -ℤ det a b g h *ℤ det c d e f
three_terms_det a b c d e f g h = ring (a ∷ b ∷ c ∷ d ∷ e ∷ f ∷ g ∷ h ∷ []) (search integers depth 20 fits 5000) refl

-- and with a linear function u · x + v · y
pub three_terms_linear : (u v a b c d e f : ℤ) → (u *ℤ e +ℤ v *ℤ f) *ℤ det a b c d ≡ (u *ℤ a +ℤ v *ℤ b) *ℤ det e f c d +ℤ (u *ℤ c +ℤ v *ℤ d) *ℤ det a b e f
three_terms_linear u v a b c d e f = ring (u ∷ v ∷ a ∷ b ∷ c ∷ d ∷ e ∷ f ∷ []) (search integers depth 20 fits 5000) refl

pub three_terms_place : (a b c p q : Point) → orient a b c *ℤ orient a p q ≡ orient a b p *ℤ orient a c q -ℤ orient a b q *ℤ orient a c p
three_terms_place a b c p q = ring (places (a ∷ b ∷ c ∷ p ∷ q ∷ [])) (search geometry depth 20) refl

pub three_terms : (a b c p q : Site) → Orient a b c *ℤ Orient a p q ≡ Orient a b p *ℤ Orient a c q -ℤ Orient a b q *ℤ Orient a c p
three_terms a b c p q = three_terms_place a.at b.at c.at p.at q.at

pub three_directions : (v a b c z : Site) → Orient v b c *ℤ Orient v a z +ℤ Orient v c a *ℤ Orient v b z +ℤ Orient v a b *ℤ Orient v c z ≡ pos 0
three_directions v a b c z = ring (sites (v ∷ a ∷ b ∷ c ∷ z ∷ [])) (search geometry depth 20) refl

-- ---- the edge c → d seen from p, and the edge z → y
pub seen_edge : (p z y c d : Site) → Orient z y c *ℤ Orient c d p ≡ Orient p y c *ℤ Orient c d z -ℤ Orient p z c *ℤ Orient c d y
seen_edge p z y c d = ring (sites (p ∷ z ∷ y ∷ c ∷ d ∷ [])) (search geometry depth 20) refl

-- ---- the bend of e, d, f seen from v, where d is far beyond the line o → q
pub bend_line : (v e d f o q : Site) →
    (Orient o q d -ℤ Orient o q v) *ℤ Orient e d f ≡ Orient v d f *ℤ (Orient o q d -ℤ Orient o q e) +ℤ Orient v e d *ℤ (Orient o q d -ℤ Orient o q f)
bend_line v e d f o q = ring (sites (v ∷ e ∷ d ∷ f ∷ o ∷ q ∷ [])) (search geometry depth 20) refl
