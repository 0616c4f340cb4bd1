-- Small moves: n · p + q in homogeneous coordinates is p moved a little towards q, the less the larger n. `orient` is linear in it, so what is strict stays strict for n past a bound.
use Rattle.std.proofs.Common.{◌≡◌, ℕ, zero, suc, ◌+◌, ◌*◌, ◌<◌, ◌≤◌, Bool, true, false, [], ◌∷◌, ℤ, pos, negsuc, ◌+ℤ◌, ◌*ℤ◌, neg_ℤ, refl, ap, ◌∙◌, inl, inr, arith}
use Rattle.std.proofs.Math.IntN.{*ℤ-zero, +ℤ_idl}
use borrow.Author.Differences.{up, down}
use Rattle.std.proofs.lemmas.Int.{ints}
use Rattle.exact.specs.Plane.{Point}
use Rattle.exact.proofs.Algebra.Ring.{ring}
use Rattle.exact.proofs.Algebra.Signs.{Sign, ◌⊙◌, ◌⊞◌, ◌by◌, natural_sign, split_below, clash_below}
use Rattle.exact.proofs.Geometry.Words.{orient, Within, Site, Left}
use Rattle.exact.proofs.Geometry.Reading.{places, made_points}
use Rattle.exact.proofs.Geometry.Identities.Sides.{turn, start_on, end_on}

-- ---- places made of others
abbrev pub toward : ℕ → Point → Point → Point
toward n p q = record { x = n * p.x + q.x; y = n * p.y + q.y; w = n * p.w + q.w }

abbrev pub mix : ℕ → Point → ℕ → Point → Point
mix k p l q = record { x = k * p.x + l * q.x; y = k * p.y + l * q.y; w = k * p.w + l * q.w }

abbrev pub middle : Point → Point → Point → Point
middle a b c = record { x = a.x + b.x + c.x; y = a.y + b.y + c.y; w = a.w + b.w + c.w }

pub orient_toward : (a b p q : Point) (n : ℕ) → orient a b (toward n p q) ≡ pos n *ℤ orient a b p +ℤ orient a b q
orient_toward a b p q n = ring (pos n ∷ places (a ∷ b ∷ p ∷ q ∷ [])) (search made_points depth 20 fits 20000) refl

pub orient_mix : (a b p q : Point) (k l : ℕ) → orient a b (mix k p l q) ≡ pos k *ℤ orient a b p +ℤ pos l *ℤ orient a b q
orient_mix a b p q k l = ring (pos k ∷ pos l ∷ places (a ∷ b ∷ p ∷ q ∷ [])) (search made_points depth 20 fits 20000) refl

pub orient_middle : (u v a b c : Point) → orient u v (middle a b c) ≡ orient u v a +ℤ orient u v b +ℤ orient u v c
orient_middle u v a b c = ring (places (u ∷ v ∷ a ∷ b ∷ c ∷ [])) (search made_points depth 20 fits 20000) refl

pub toward_place : (p q : Point) (n : ℕ) → 1 ≤ q.w → 1 ≤ (toward n p q).w
toward_place p q n l = omega arith

-- ---- one line
abbrev pub size : ℤ → ℕ
size z = up z + down z

more : (n : ℕ) (s t : ℤ) → Sign true s → size t < n → Sign true (pos n *ℤ s +ℤ t)
more n (pos zero) t h l = absurd (omega (arith, h.bound))
more n (pos (suc m)) t h l = record { bound = omega (arith, ints) }
more n (negsuc m) t h l = absurd (omega (arith, h.bound))

less : (n : ℕ) (s t : ℤ) → Sign true (neg_ℤ s) → size t < n → Sign true (neg_ℤ (pos n *ℤ s +ℤ t))
less n (pos m) t h l = absurd (omega (arith, ints, h.bound))
less n (negsuc m) t h l = record { bound = omega (arith, ints) }

module _ (a b p q : Point) (n : ℕ) where
  pub left_stays : Sign true (orient a b p) → size (orient a b q) < n → Sign true (orient a b (toward n p q))
  left_stays h l = more n (orient a b p) (orient a b q) h l by orient_toward a b p q n

  pub right_stays : Sign true (neg_ℤ (orient a b p)) → size (orient a b q) < n → Sign true (neg_ℤ (orient a b (toward n p q)))
  right_stays h l = less n (orient a b p) (orient a b q) h l by ap neg_ℤ (orient_toward a b p q n)

  -- what is not right after the move was not right before it
  pub left_back : Sign false (orient a b (toward n p q)) → size (orient a b q) < n → Sign false (orient a b p)
  left_back h l = elim (split_below (orient a b p)) [ inl r ↦ r | inr r ↦ absurd (clash_below (orient a b (toward n p q)) h (right_stays r l)) ]

  -- from the line it goes where q is
  pub on_moves : orient a b p ≡ pos 0 → orient a b (toward n p q) ≡ orient a b q
  on_moves h = orient_toward a b p q n ∙ ap (λ (z : ℤ). z +ℤ orient a b q) (ap (λ (z : ℤ). pos n *ℤ z) h ∙ *ℤ-zero (pos n)) ∙ +ℤ_idl (orient a b q)

  -- however far it is moved
  pub left_moves : {s : Bool} → Sign false (orient a b p) → Sign s (orient a b q) → Sign s (orient a b (toward n p q))
  left_moves {s} h l = natural_sign n ⊙ h ⊞ l by orient_toward a b p q n

pub left_mix : (a b p q : Point) (k l : ℕ) → Sign false (orient a b p) → Sign false (orient a b q) → Sign false (orient a b (mix k p l q))
left_mix a b p q k l h i = natural_sign k ⊙ h ⊞ natural_sign l ⊙ i by orient_mix a b p q k l

-- ---- one triangle: how large n must be for the move towards q
unfoldable pub reach : Point → Point → Point → Point → ℕ
reach a b c q = suc (size (orient a b q) + size (orient b c q) + size (orient c a q))

module _ (a b c q : Point) where
  pub reach_ab : size (orient a b q) < reach a b c q
  unfolding reach
  reach_ab = omega arith

  pub reach_bc : size (orient b c q) < reach a b c q
  unfolding reach
  reach_bc = omega arith

  pub reach_ca : size (orient c a q) < reach a b c q
  unfolding reach
  reach_ca = omega arith

  module _ (p : Point) (n : ℕ) (far : reach a b c q ≤ n) where
    pub inside_stays : Within true a b c p → Within true a b c (toward n p q)
    inside_stays h = record {
      ab = left_stays a b p q n h.ab (omega (arith, reach_ab));
      bc = left_stays b c p q n h.bc (omega (arith, reach_bc));
      ca = left_stays c a p q n h.ca (omega (arith, reach_ca));
    }

    pub closed_back : Within false a b c (toward n p q) → Within false a b c p
    closed_back h = record {
      ab = left_back a b p q n h.ab (omega (arith, reach_ab));
      bc = left_back b c p q n h.bc (omega (arith, reach_bc));
      ca = left_back c a p q n h.ca (omega (arith, reach_ca));
    }

-- ---- the middle of a left-turning triangle is strictly inside, and so is what is moved towards it from the border
module _ (a b c : Site) (t : Left a b c) where
  abbrev pub centre : Point
  centre = middle a.at b.at c.at

  pub centre_place : 1 ≤ centre.w
  centre_place = omega (arith, a.whole, b.whole, c.whole)

  pub centre_inside : Within true a.at b.at c.at centre
  centre_inside = record {
    ab = let l = t in omega (arith, ints, orient_middle a.at b.at a.at b.at c.at, start_on a b, end_on a b);
    bc = let l = t in omega (arith, ints, orient_middle b.at c.at a.at b.at c.at, turn a b c, start_on b c, end_on b c);
    ca = let l = t in omega (arith, ints, orient_middle c.at a.at a.at b.at c.at, turn c a b, start_on c a, end_on c a);
  }

  pub toward_centre : (p : Point) (n : ℕ) → Within false a.at b.at c.at p → Within true a.at b.at c.at (toward n p centre)
  toward_centre p n h = record {
    ab = left_moves a.at b.at p centre n h.ab centre_inside.ab;
    bc = left_moves b.at c.at p centre n h.bc centre_inside.bc;
    ca = left_moves c.at a.at p centre n h.ca centre_inside.ca;
  }
