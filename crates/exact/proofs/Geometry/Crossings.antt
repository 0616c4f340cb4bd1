-- The ray straight down from a place: how often it crosses edges of a left-turning triangle that go to the right, and how often their reverses.
-- The first is never less, it is more for what is strictly inside, and if it is more the place is in the triangle.
use Rattle.std.proofs.Common.{◌≡◌, ℕ, ◌+◌, ◌<◌, ◌≤◌, Bool, true, false, not, ◌&&◌, ◌*ℤ◌, neg_ℤ, sym, refl, ap, ◌∙◌, arith}
use Rattle.std.proofs.Math.IntN.{*ℤ_comm}
use Rattle.std.proofs.lemmas.Int.{ints}
use Rattle.exact.specs.Plane.{Point}
use Rattle.std.proofs.lemmas.Bool.{not-true, not_from_false}
use Rattle.exact.proofs.Booleans.{bit, bit_≤1, and3→, and3←}
use Rattle.exact.proofs.Algebra.Signs.{Sign, ◌by◌, weak, neg_right, cancel, left_factor}
use Rattle.exact.proofs.Algebra.IntegerTests.{not_below?, not_below?→, not_below?←, below?→, below?←, not_below_mono}
use Rattle.exact.proofs.Geometry.Words.{W, Δx, orient, Within, Site, Left, signs}
use Rattle.exact.proofs.Geometry.Identities.Sides.{turn, swap_place}
use Rattle.exact.proofs.Geometry.Triangles.{within_turn}
use Rattle.exact.proofs.Geometry.Sweep.{Before, After, left_from_before, left_from_after, not_all_before, not_all_after, sweep_weights}

-- ---- the tests: u is not to the right of x; x is left of or on u → v, so that an edge to the right is below it
abbrev before? : Point → Point → Bool
before? u x = not_below? (Δx u x)

abbrev over? : Point → Point → Point → Bool
over? u v x = not_below? (orient u v x)

-- ---- one edge
module _ (u v x : Point) where
  unfoldable pub crossing : ℕ
  crossing = bit (before? u x && (not (before? v x) && over? u v x))

  pub crossing_≤1 : crossing ≤ 1
  unfolding crossing
  crossing_≤1 = bit_≤1 (before? u x && (not (before? v x) && over? u v x))

  pub crossing→ : 1 ≤ crossing → Sign false (Δx u x) × Sign true (neg_ℤ (Δx v x)) × Sign false (orient u v x)
  unfolding crossing
  crossing→ l =
      let t = and3→ (before? u x) (not (before? v x)) (over? u v x) (bit_one (before? u x && (not (before? v x) && over? u v x)) l) in
      (not_below?→ (Δx u x) t.0, below?→ (Δx v x) (not-true (before? v x) t.1), not_below?→ (orient u v x) t.2)
    where
      bit_one : (b : Bool) → 1 ≤ bit b → b ≡ true
      bit_one true l = refl
      bit_one false l = absurd (omega arith)

  pub crossing← : Sign false (Δx u x) → Sign true (neg_ℤ (Δx v x)) → Sign false (orient u v x) → crossing ≡ 1
  unfolding crossing
  crossing← h k l = ap bit (and3← (before? u x) (not (before? v x)) (over? u v x) (not_below?← (Δx u x) h) (not_from_false (before? v x) (below?← (Δx v x) k)) (not_below?← (orient u v x) l))

-- ---- the three edges of a triangle, and their reverses
unfoldable pub rightward : Point → Point → Point → Point → ℕ
rightward a b c x = crossing a b x + crossing b c x + crossing c a x

unfoldable pub leftward : Point → Point → Point → Point → ℕ
leftward a b c x = crossing b a x + crossing c b x + crossing a c x

-- of a left-turning triangle with one corner on one side of the ray: the edge that goes right is below its reverse
one_before : (a b c : Site) (x : Point) → Sign true (W x) → Left a b c → before? a.at x ≡ true → before? b.at x ≡ false → before? c.at x ≡ false → bit (over? a.at c.at x) ≤ bit (over? a.at b.at x)
one_before a b c x w t l m n = not_below_mono (orient a.at c.at x) (orient a.at b.at x) (left_from_before a b c x w t (not_below?→ (Δx a.at x) l) (below?→ (Δx b.at x) m) (below?→ (Δx c.at x) n))

one_after : (a b c : Site) (x : Point) → Sign true (W x) → Left a b c → before? a.at x ≡ false → before? b.at x ≡ true → before? c.at x ≡ true → bit (over? b.at a.at x) ≤ bit (over? c.at a.at x)
one_after a b c x w t l m n = not_below_mono (orient b.at a.at x) (orient c.at a.at x) (left_from_after a b c x w t (below?→ (Δx a.at x) l) (not_below?→ (Δx b.at x) m) (not_below?→ (Δx c.at x) n))

module _ (a b c : Site) (x : Point) (w : Sign true (W x)) where
  pub leftward_≤ : Left a b c → leftward a.at b.at c.at x ≤ rightward a.at b.at c.at x
  unfolding rightward leftward crossing
  leftward_≤ t = go (before? a.at x) (before? b.at x) (before? c.at x) refl refl refl
    where
      t₂ : Left b c a
      t₂ = t by sym (turn a b c)

      t₃ : Left c a b
      t₃ = t by turn c a b

      go : (α β γ : Bool) → before? a.at x ≡ α → before? b.at x ≡ β → before? c.at x ≡ γ →
          bit (β && (not α && over? b.at a.at x)) + bit (γ && (not β && over? c.at b.at x)) + bit (α && (not γ && over? a.at c.at x))
          ≤ bit (α && (not β && over? a.at b.at x)) + bit (β && (not γ && over? b.at c.at x)) + bit (γ && (not α && over? c.at a.at x))
      go true true true l m n = omega arith
      go true true false l m n = omega (arith, one_after c a b x w t₃ n l m)
      go true false true l m n = omega (arith, one_after b c a x w t₂ m n l)
      go true false false l m n = omega (arith, one_before a b c x w t l m n)
      go false true true l m n = omega (arith, one_after a b c x w t l m n)
      go false true false l m n = omega (arith, one_before b c a x w t₂ m n l)
      go false false true l m n = omega (arith, one_before c a b x w t₃ n l m)
      go false false false l m n = omega arith

  pub inside_leftward : Within true a.at b.at c.at x → leftward a.at b.at c.at x < rightward a.at b.at c.at x
  unfolding rightward leftward crossing
  inside_leftward i = go (before? a.at x) (before? b.at x) (before? c.at x) refl refl refl
    where
      -- an edge of it is below x, and its reverse is not
      edge : (u v : Site) → Sign true (orient u.at v.at x) → (bit (over? u.at v.at x) ≡ 1) × (bit (over? v.at u.at x) ≡ 0)
      edge u v h = (ap bit (not_below?← (orient u.at v.at x) (weak h)), ap bit (below?← (orient v.at u.at x) (h by sym (swap_place u v x))))

      go : (α β γ : Bool) → before? a.at x ≡ α → before? b.at x ≡ β → before? c.at x ≡ γ →
          bit (β && (not α && over? b.at a.at x)) + bit (γ && (not β && over? c.at b.at x)) + bit (α && (not γ && over? a.at c.at x))
          < bit (α && (not β && over? a.at b.at x)) + bit (β && (not γ && over? b.at c.at x)) + bit (γ && (not α && over? c.at a.at x))
      go true true true l m n = absurd (not_all_before a b c x i w (not_below?→ (Δx a.at x) l) (not_below?→ (Δx b.at x) m) (not_below?→ (Δx c.at x) n))
      go true true false l m n = omega (arith, edge b c i.bc, edge c a i.ca)
      go true false true l m n = omega (arith, edge a b i.ab, edge b c i.bc)
      go true false false l m n = omega (arith, edge a b i.ab, edge c a i.ca)
      go false true true l m n = omega (arith, edge c a i.ca, edge a b i.ab)
      go false true false l m n = omega (arith, edge b c i.bc, edge a b i.ab)
      go false false true l m n = omega (arith, edge c a i.ca, edge b c i.bc)
      go false false false l m n = absurd (not_all_after a b c x i (below?→ (Δx a.at x) l) (below?→ (Δx b.at x) m) (below?→ (Δx c.at x) n))

-- ---- the other way round: x is over an edge that goes right, and strictly below another edge or its reverse
third_before : (a b c : Site) (x : Point) → Before a x → After b x → After c x → Sign false (orient a.at b.at x) → Sign true (orient c.at a.at x) → Sign false (orient b.at c.at x)
third_before a b c x la lb lc p r =
    let s : Sign true (neg_ℤ (orient c.at a.at x *ℤ Δx b.at x)) = search signs in
    let t : Sign false (neg_ℤ (orient a.at b.at x *ℤ Δx c.at x)) = search signs in
    let u : Sign true (orient b.at c.at x *ℤ Δx a.at x) = omega (arith, ints, sweep_weights a b c x) in
    weak (left_factor (orient b.at c.at x) (Δx a.at x) u la)

third_after : (a b c : Site) (x : Point) → After a x → Before b x → Before c x → Sign false (orient a.at b.at x) → Sign false (orient c.at a.at x) → Sign false (orient b.at c.at x)
third_after a b c x la lb lc p r =
    let q = orient b.at c.at x in let d = Δx a.at x in
    let s : Sign false (orient c.at a.at x *ℤ Δx b.at x) = search signs in
    let t : Sign false (orient a.at b.at x *ℤ Δx c.at x) = search signs in
    let u : Sign false (neg_ℤ (q *ℤ d)) = omega (arith, ints, sweep_weights a b c x) in
    cancel la (u by (*ℤ_comm (neg_ℤ d) q ∙ sym (neg_right q d)))

-- of two tests of which the second alone passes
passes : (p q : Bool) → bit p < bit q → (p ≡ false) × (q ≡ true)
passes true q h = absurd (omega (arith, bit_≤1 q))
passes false true h = (refl, refl)
passes false false h = absurd (omega arith)

module _ (x : Point) where
  one_before_in : (a b c : Site) → before? a.at x ≡ true → before? b.at x ≡ false → before? c.at x ≡ false → bit (over? a.at c.at x) < bit (over? a.at b.at x) → Within false a.at b.at c.at x
  one_before_in a b c l m n h =
      let t = passes (over? a.at c.at x) (over? a.at b.at x) h in
      let p = not_below?→ (orient a.at b.at x) t.1 in
      let r = below?→ (orient a.at c.at x) t.0 by swap_place c a x in
      record { ab = p; bc = third_before a b c x (not_below?→ (Δx a.at x) l) (below?→ (Δx b.at x) m) (below?→ (Δx c.at x) n) p r; ca = weak r }

  one_after_in : (a b c : Site) → before? a.at x ≡ false → before? b.at x ≡ true → before? c.at x ≡ true → bit (over? b.at a.at x) < bit (over? c.at a.at x) → Within false a.at b.at c.at x
  one_after_in a b c l m n h =
      let t = passes (over? b.at a.at x) (over? c.at a.at x) h in
      let p = weak (below?→ (orient b.at a.at x) t.0 by swap_place a b x) in
      let r = not_below?→ (orient c.at a.at x) t.1 in
      record { ab = p; bc = third_after a b c x (below?→ (Δx a.at x) l) (not_below?→ (Δx b.at x) m) (not_below?→ (Δx c.at x) n) p r; ca = r }

  pub leftward_inside : (a b c : Site) → leftward a.at b.at c.at x < rightward a.at b.at c.at x → Within false a.at b.at c.at x
  unfolding rightward leftward crossing
  leftward_inside a b c = go (before? a.at x) (before? b.at x) (before? c.at x) refl refl refl
    where
      go : (α β γ : Bool) → before? a.at x ≡ α → before? b.at x ≡ β → before? c.at x ≡ γ →
          bit (β && (not α && over? b.at a.at x)) + bit (γ && (not β && over? c.at b.at x)) + bit (α && (not γ && over? a.at c.at x))
          < bit (α && (not β && over? a.at b.at x)) + bit (β && (not γ && over? b.at c.at x)) + bit (γ && (not α && over? c.at a.at x)) →
          Within false a.at b.at c.at x
      go true true true l m n h = absurd (omega arith)
      go true true false l m n h = within_turn (one_after_in c a b n l m (omega arith))
      go true false true l m n h = within_turn (within_turn (one_after_in b c a m n l (omega arith)))
      go true false false l m n h = one_before_in a b c l m n (omega arith)
      go false true true l m n h = one_after_in a b c l m n (omega arith)
      go false true false l m n h = within_turn (within_turn (one_before_in b c a m n l (omega arith)))
      go false false true l m n h = within_turn (one_before_in c a b n l m (omega arith))
      go false false false l m n h = absurd (omega arith)
