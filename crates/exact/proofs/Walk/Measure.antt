-- The measure of a walk towards a place x, at an edge e that x is strictly right of: how many triangles have more power than that of e, then how many vertices on its circle are strictly right of e.
-- It is below (faces + 1) · (vertices + 1), and crossing e lowers it, whichever edge of the triangle across is left by.
use Rattle.std.proofs.Common.{◌≡◌, ℕ, suc, ◌+◌, ◌*◌, ◌<◌, ◌≤◌, Bool, true, false, ◌&&◌, ◌⊎◌, List, length, ℤ, pos, ◌-ℤ◌, ◌*ℤ◌, neg_ℤ, sym, ap, ◌∙◌, subst, ap₂, inl, inr, mul-le-mul_right, arith}
use Rattle.std.proofs.Math.IntN.{*ℤ_comm}
use Rattle.std.proofs.lemmas.Int.{ints}
use Rattle.exact.specs.Plane.{Point}
use Rattle.std.proofs.lemmas.Bool.{false_from_ne_true, and_from}
use Rattle.exact.proofs.Booleans.{and_left, and_right}
use Rattle.exact.proofs.Lists.{In, count, count_≤length, count_mono, count_strict}
use Rattle.exact.proofs.Algebra.Signs.{Sign, ◌⊙◌, ◌by◌, weak, split, clash_below, clash_zero, cancel}
use Rattle.exact.proofs.Algebra.IntegerTests.{above?, above?→, above?←, zero?, zero?→, zero?←}
use Rattle.exact.proofs.Geometry.Words.{W, orient, incircle, Site, Orient, Incircle, Left, Right}
use Rattle.exact.proofs.Geometry.Identities.Sides.{swap, swap_place, start_on, end_on}
use Rattle.exact.proofs.Geometry.Powers.{power_grows, power_trans, same_circle_back}
use Rattle.exact.proofs.Walk.Chords.{chord_from_start, chord_from_end}
use Rattle.exact.proofs.Walk.Edges.{Area, Power, Beyond, Across, Triangles, area_next, power_next, face_of}

module _ {E : Type 0} (from : E → Site) (next : E → E) where
  -- the triangle of f has more power than that of e: incircle / orient, both areas being positive
  unfoldable pub stronger : Point → E → E → Bool
  stronger x e f = above? (Power from next f x *ℤ Area from next e -ℤ Power from next e x *ℤ Area from next f)

  unfoldable pub ahead : E → Site → Bool
  ahead e v = zero? (Power from next e v.at) && above? (neg_ℤ (Orient (from e) (from (next e)) v))

  unfoldable pub measure : List E → List Site → Point → E → ℕ
  measure faces vertices x e = count (stronger x e) faces * suc (length vertices) + count (ahead e) vertices

  -- a bound that does not depend on e, for the fuel of a loop
  pub measure_bound : (faces : List E) (vertices : List Site) (x : Point) (e : E) → measure faces vertices x e < suc (length faces) * suc (length vertices)
  unfolding measure
  measure_bound faces vertices x e = omega (arith, mul-le-mul_right (suc (length vertices)) (count_≤length (stronger x e) faces), count_≤length (ahead e) vertices)

first_falls : (n m p q l : ℕ) → n < m → p ≤ l → n * suc l + p < m * suc l + q
first_falls n m p q l h i = omega (arith, mul-le-mul_right (suc l) h)

second_falls : (n m p q l : ℕ) → n ≤ m → p < q → n * suc l + p < m * suc l + q
second_falls n m p q l h i = omega (arith, mul-le-mul_right (suc l) h)

module _ {E : Type 0} {from : E → Site} {next : E → E} {Inner : E → Type 0} {faces : List E} {vertices : List Site} (T : Triangles from next Inner faces vertices) where
  module _ (e f : E) (ie : Inner e) (if : Inner f) (c : Across from next e f) where
    abbrev a : Site
    a = from e

    abbrev b : Site
    b = from (next e)

    abbrev d : Site
    d = from (next (next f))

    area_across : Area from next f ≡ Orient b a d
    area_across = ap₂ (λ (p q : Site). Orient p q d) c.starts c.ends

    power_across : (y : Point) → Power from next f y ≡ incircle b.at a.at d.at y
    power_across y = ap₂ (λ (p q : Site). incircle p.at q.at d.at y) c.starts c.ends

    bad : Left b a d
    bad = T.left f if by sym area_across

    -- x is not beyond the edge that was crossed, from its other side
    pub not_back : (x : Point) → Beyond from next e x → Beyond from next f x → ⊥
    not_back x r s =
        let there : Sign true (neg_ℤ (orient b.at a.at x)) = s by sym (ap₂ (λ (p q : Site). neg_ℤ (orient p.at q.at x)) c.starts c.ends) in
        clash_below (orient b.at a.at x) (weak r by swap_place b a x) there

    module _ (x : Point) (w : Sign true (W x)) (r : Beyond from next e x) where
      -- the power does not fall, and grows if the corner across is strictly outside the circle
      pub power_rises : {s : Bool} → Sign s (neg_ℤ (Power from next e d.at)) → Sign s (Power from next f x *ℤ Area from next e -ℤ Power from next e x *ℤ Area from next f)
      power_rises o = power_grows a b (from (next (next e))) d x w r o by ap₂ (λ (p q : ℤ). p *ℤ Area from next e -ℤ Power from next e x *ℤ q) (power_across x) area_across

      -- so what is inside the circle of e is inside that of f
      pub keeps_inside : Sign true (Power from next e x) → Sign true (Power from next f x)
      keeps_inside h = cancel (T.left e ie) (product (Area from next e) (Power from next f x) (Power from next e x) (Area from next f) (power_rises c.clear) (h ⊙ T.left f if))
        where
          product : (o i j n : ℤ) → Sign false (i *ℤ o -ℤ j *ℤ n) → Sign true (j *ℤ n) → Sign true (o *ℤ i)
          product o i j n h k = omega (arith, ints, *ℤ_comm o i)

      -- g is an edge of the triangle of f
      module _ (g : E) (area : Area from next g ≡ Area from next f) (power : (y : Point) → Power from next g y ≡ Power from next f y) where
        rises : {s : Bool} → Sign s (neg_ℤ (Power from next e d.at)) → Sign s (Power from next g x *ℤ Area from next e -ℤ Power from next e x *ℤ Area from next g)
        rises o = power_rises o by ap₂ (λ (p q : ℤ). p *ℤ Area from next e -ℤ Power from next e x *ℤ q) (power x) area

        passes : (h : E) → In h faces → stronger from next x g h ≡ true → stronger from next x e h ≡ true
        unfolding stronger
        passes h i t =
            above?← (Power from next h x *ℤ Area from next e -ℤ Power from next e x *ℤ Area from next h)
            (power_trans (Power from next h x) (Power from next g x) (Power from next e x) (Area from next h) (Area from next g) (Area from next e)
            (T.left h (T.face_inner h i)) (T.left f if by area) (T.left e ie)
            (above?→ (Power from next h x *ℤ Area from next g -ℤ Power from next g x *ℤ Area from next h) t) (rises c.clear))

        no_more : count (stronger from next x g) faces ≤ count (stronger from next x e) faces
        no_more = count_mono (stronger from next x g) (stronger from next x e) faces passes

        fewer : Sign true (neg_ℤ (Power from next e d.at)) → count (stronger from next x g) faces < count (stronger from next x e) faces
        unfolding stronger
        fewer o =
            let u = face_of T f if in
            count_strict (stronger from next x g) (stronger from next x e) faces passes u.0 u.1
            (false_from_ne_true (above? (Power from next u.0 x *ℤ Area from next g -ℤ Power from next g x *ℤ Area from next u.0))
            (λ h. clash_zero (above?→ (Power from next u.0 x *ℤ Area from next g -ℤ Power from next g x *ℤ Area from next u.0) h) (same (u.3 x ∙ sym (power x)) (u.2 ∙ sym area))))
            (above?← (Power from next u.0 x *ℤ Area from next e -ℤ Power from next e x *ℤ Area from next u.0)
            (power_rises o by ap₂ (λ (p q : ℤ). p *ℤ Area from next e -ℤ Power from next e x *ℤ q) (u.3 x) u.2))
          where
            same : {i j o n : ℤ} → i ≡ j → o ≡ n → i *ℤ n -ℤ j *ℤ o ≡ pos 0
            same {i} {j} {o} {n} p q = ap₂ (λ (k m : ℤ). k *ℤ n -ℤ j *ℤ m) p q ∙ nothing (j *ℤ n)
              where
                nothing : (z : ℤ) → z -ℤ z ≡ pos 0
                nothing z = omega (arith, ints)

        -- with the corner across on the circle: it is ahead of e and not of g, and what is ahead of g is ahead of e
        module _ (chord : (v : Site) → Incircle b a d v ≡ pos 0 → Beyond from next g v.at → Right a b v) (ends : Beyond from next g d.at → ⊥) where
          closer : Power from next e d.at ≡ pos 0 → count (ahead from next g) vertices < count (ahead from next e) vertices
          unfolding ahead
          closer o = count_strict (ahead from next g) (ahead from next e) vertices keep d (T.in_vertices (next (next f)) (T.next_inner (next f) (T.next_inner f if))) last first
            where
              keep : (v : Site) → In v vertices → ahead from next g v ≡ true → ahead from next e v ≡ true
              keep v i t =
                  let on? = zero? (Power from next g v.at) in let right? = above? (neg_ℤ (Orient (from g) (from (next g)) v)) in
                  let on : Incircle b a d v ≡ pos 0 = sym (power_across v.at) ∙ sym (power v.at) ∙ zero?→ (Power from next g v.at) (and_left on? right? t) in
                  and_from (zero? (Power from next e v.at)) (above? (neg_ℤ (Orient a b v)))
                  (zero?← (Power from next e v.at) (same_circle_back a b (from (next (next e))) d v o bad on))
                  (above?← (neg_ℤ (Orient a b v)) (chord v on (above?→ (neg_ℤ (Orient (from g) (from (next g)) v)) (and_right on? right? t))))

              last : ahead from next g d ≡ false
              last = false_from_ne_true (ahead from next g d) (λ t. ends (above?→ (neg_ℤ (Orient (from g) (from (next g)) d)) (and_right (zero? (Power from next g d.at)) (above? (neg_ℤ (Orient (from g) (from (next g)) d))) t)))

              first : ahead from next e d ≡ true
              first = and_from (zero? (Power from next e d.at)) (above? (neg_ℤ (Orient a b d))) (zero?← (Power from next e d.at) o) (above?← (neg_ℤ (Orient a b d)) (bad by sym (swap b a d)))

          lower : measure from next faces vertices x g < measure from next faces vertices x e
          unfolding measure
          lower = elim (split (neg_ℤ (Power from next e d.at))) [
            | inl o ↦ first_falls (count (stronger from next x g) faces) (count (stronger from next x e) faces) (count (ahead from next g) vertices) (count (ahead from next e) vertices) (length vertices) (fewer o) (count_≤length (ahead from next g) vertices)
            | inr o ↦ second_falls (count (stronger from next x g) faces) (count (stronger from next x e) faces) (count (ahead from next g) vertices) (count (ahead from next e) vertices) (length vertices) no_more
                (closer (zero_of (Power from next e d.at) o c.clear))
          ]
            where
              zero_of : (z : ℤ) → Sign false (neg_ℤ (neg_ℤ z)) → Sign false (neg_ℤ z) → z ≡ pos 0
              zero_of z h k = omega (arith, ints)

      -- THE STEP: on to either of the other two edges of the triangle across
      pub falls_next : measure from next faces vertices x (next f) < measure from next faces vertices x e
      falls_next =
          lower (next f) (area_next T f if) (power_next T f if)
          (λ v on s. chord_from_start a b d v bad on (s by sym (ap (λ (p : Site). neg_ℤ (Orient p d v)) c.ends)))
          (λ s. clash_zero s (ap neg_ℤ (ap (λ (p : Site). Orient p d d) c.ends ∙ end_on a d)))

      pub falls_last : measure from next faces vertices x (next (next f)) < measure from next faces vertices x e
      falls_last =
          let i = T.next_inner f if in
          let back : from (next (next (next f))) ≡ b = ap from (T.round f if) ∙ c.starts in
          lower (next (next f)) (area_next T (next f) i ∙ area_next T f if) (λ y. power_next T (next f) i y ∙ power_next T f if y)
          (λ v on s. chord_from_end a b d v bad on (s by sym (ap (λ (p : Site). neg_ℤ (Orient d p v)) back)))
          (λ s. clash_zero s (ap neg_ℤ (ap (λ (p : Site). Orient d p d) back ∙ start_on d b)))

      -- an edge of the triangle across that x is beyond of is one of these two
      pub falls : (g : E) → Beyond from next g x → (g ≡ f) ⊎ ((g ≡ next f) ⊎ (g ≡ next (next f))) → measure from next faces vertices x g < measure from next faces vertices x e
      falls g s (inl p) = absurd (not_back x r (subst (λ (h : E). Beyond from next h x) p s))
      falls g s (inr (inl p)) = subst (λ (h : E). measure from next faces vertices x h < measure from next faces vertices x e) (sym p) falls_next
      falls g s (inr (inr p)) = subst (λ (h : E). measure from next faces vertices x h < measure from next faces vertices x e) (sym p) falls_last
