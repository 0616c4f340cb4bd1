-- One ear forwards: p sees the outer half edge after b, and closing the ear at b moves the last covered half edge on.
use Rattle.std.proofs.Common.{◌≡◌, ℕ, ◌<◌, true, ◌≢◌, ◌⊎◌, neg_ℤ, sym, refl, ap, ◌∙◌, inl, inr, arith}
use Rattle.exact.specs.Plane.{Point}
use Rattle.exact.proofs.Algebra.Signs.{Sign, ◌by◌, split_below}
use Rattle.exact.proofs.Geometry.Words.{orient, Orient, Left, Right, LeftOn, RightOn}
use Rattle.exact.proofs.Geometry.Identities.Sides.{turn}
use Rattle.exact.proofs.Geometry.Seen.{wider}
use Rattle.dcel.specs.Map.{Map, twin}
use Rattle.dcel.specs.Mesh.{Sound}
use Rattle.dcel.specs.Surgery.{Outer, Ear, ear_patch}
use Rattle.dcel.specs.Geometry.{from, to}
use Rattle.dcel.proofs.Fits.{IsPatched}
use Rattle.dcel.proofs.Neighbours.{Neighbours, neighbours}
use Rattle.dcel.proofs.Horizon.EarClosed.{EarClosed, twin_uw, origin_uw, origin_wu, face_uw, face_vw, next_uw, next_before, origin_old, face_old, next_old, prev_old, outer_then}
use Rattle.dcel.proofs.Placed.{Placed, site, start, stop, right_on, in_start}
use Rattle.dcel.proofs.Horizon.Rim.{Seen, p, out_of_cone}
use Rattle.dcel.proofs.Horizon.Grown.{ear_grown}
use Rattle.dcel.proofs.Horizon.Covered.{Covered, still_covered, still_outer}
use Rattle.dcel.proofs.Horizon.Open.{Open, prev_b, a_not_b, seen_old, seen_outer, not_across}

module _ {pos : ℕ → Point} {m₀ m : Map} {a b : ℕ} (B : Placed pos m₀) (S : Sound m) (O : Open pos m₀ m a b) (seen : Seen pos m (m.next b) m₀.vertices) where
  abbrev h : ℕ
  h = m.next b

  near : Neighbours m b
  near = neighbours m S b O.in_b

  outer_h : m.face h ≡ 0
  outer_h = near.face_next ∙ O.outer_b

  was : Outer m₀ h
  was = seen_outer B S O h near.next_in outer_h seen

  saw : Seen pos m₀ h m₀.vertices
  saw = seen_old B S O h was seen

  not_a : h ≢ a
  not_a q = omega (arith, was.in_e, O.new_a)

  end_h : m.origin (twin h) ≡ m₀.origin (twin h)
  end_h = O.grown.origin_old (twin h) (B.mesh.sound.twin_in h was.in_e)

  pub forward_may : Ear m b
  forward_may = record { in_e = O.in_b; outer = O.outer_b; cross = λ q. omega (arith, O.at_p, end_h, B.mesh.sound.origin_in (twin h) (B.mesh.sound.twin_in h was.in_e)) }

  -- h begins where the last one ends
  joint : m₀.origin h ≡ m₀.origin (twin O.last)
  joint = ap m₀.origin O.after_last ∙ B.mesh.sound.origin_next O.last O.last_covered.was.in_e

  from_last : Left (stop B O.last) (stop B h) (p B)
  from_last = saw by ap (λ (c : ℕ). Orient (site B c) (stop B h) (p B)) (sym joint)

  module _ (n : Map) (d : IsPatched m n (ear_patch m b)) where
    K : EarClosed m n b
    K = record { sound = S; may = forward_may; is = d }

    covered : Covered pos m₀ n h
    covered = record { was = was; seen = saw; inner = λ z. omega (arith, face_vw K, S.face_in b O.in_b) }

    turn_new : Sign true (orient (from pos m b) (to pos m b) (to pos m h))
    turn_new =
        let t : Left (p B) (stop B O.last) (stop B h) = from_last by turn (p B) (stop B O.last) (stop B h) in
        t by (λ i. orient (pos (O.at_p i)) (pos (O.to_last i)) (pos (end_h i)))

    others : (x : ℕ) → x < n.half_edges → n.face x ≡ 0 → (x ≡ a) ⊎ ((x ≡ m.half_edges) ⊎ Outer m₀ x)
    others x l z = elim (outer_then K x l z) [
      | inl q ↦ inr (inl q)
      | inr k ↦ elim (O.others x k.old k.outer) [ inl q ↦ inl q | inr r ↦ elim r [ inl q ↦ absurd (k.not_e q) | inr o ↦ inr (inr o) ] ]
    ]

    -- h is not before a
    open_end : m.next h ≢ a
    open_end q = not_across B S O h near.next_in refl q seen

    -- a keeps what is before it
    pub prev_a : n.prev a ≡ m.prev a
    prev_a = prev_old K a O.in_a (a_not_b B S O) (λ q. not_a (sym q)) (λ q. open_end (sym q))

    follows : (x : ℕ) → x < m₀.half_edges → n.face x ≡ 0 → x ≢ n.prev a → n.next x ≡ m₀.next x
    follows x l z q =
        let k = still_outer O.grown K x l z in
        next_old K x k.old k.not_e k.not_vw (λ r. omega (arith, prev_b B S O, O.new_a)) ∙ O.follows x l k.outer (λ r. q (r ∙ sym prev_a))

    after : n.next m.half_edges ≡ m₀.next h
    after = next_uw K ∙ O.follows h was.in_e outer_h (λ q. open_end (ap m.next q ∙ S.next_prev a O.in_a))

    wide : Left (start B O.first) (stop B h) (p B)
    wide =
        let u = start B O.first in let v = stop B O.last in
        let r : RightOn v (stop B h) u = right_on B h was (m₀.origin O.first) (in_start B O.first O.first_covered.was) by ap (λ (c : ℕ). neg_ℤ (Orient (site B c) (stop B h) u)) (sym joint) in
        wider u v (stop B h) (p B) O.wide from_last (r by ap neg_ℤ (turn u v (stop B h)))

    cone : (x : ℕ) → Outer m₀ x → n.face x ≡ 0 → Seen pos m₀ x m₀.vertices → LeftOn (p B) (start B O.first) (start B x) → Right (p B) (stop B h) (start B x) → ⊥
    cone x o z s l r =
        let k = still_outer O.grown K x o.in_e z in
        elim (split_below (Orient (p B) (stop B O.last) (start B x))) [
          | inl f ↦ k.not_vw (out_of_cone B h x was o saw s (f by ap (λ (c : ℕ). Orient (p B) (site B c) (start B x)) joint) r)
          | inr f ↦ O.cone x o k.outer s l f
        ]

    pub forward_open : Open pos m₀ n a m.half_edges
    forward_open = record {
      grown = ear_grown pos B.geometric.whole O.grown K turn_new;
      in_a = omega (arith, O.in_a, d.half_edges_is);
      in_b = omega (arith, d.half_edges_is);
      new_a = O.new_a;
      new_b = O.grown.half_edges_more;
      outer_a = face_old K a O.in_a (a_not_b B S O) (λ q. not_a (sym q)) ∙ O.outer_a;
      outer_b = face_uw K;
      a_then_b = ap n.next (sym (prev_b B S O)) ∙ next_before K;
      at_p = origin_uw K ∙ O.at_p;
      first = O.first;
      last = h;
      first_covered = still_covered O.grown K O.first O.first_covered;
      last_covered = covered;
      from_first = origin_old K a O.in_a ∙ O.from_first;
      to_last = ap n.origin (twin_uw K) ∙ origin_wu K ∙ end_h;
      before_first = prev_a ∙ O.before_first;
      after_last = after;
      others = others;
      follows = follows;
      wide = wide;
      cone = cone;
    }
