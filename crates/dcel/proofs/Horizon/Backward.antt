-- One ear backwards: p sees the outer half edge before a, and closing the ear there moves the first covered half edge back.
use Rattle.std.proofs.Common.{◌≡◌, ℕ, ◌<◌, true, ◌≢◌, ◌⊎◌, neg_ℤ, sym, ap, ◌∙◌, inl, inr, arith}
use Rattle.exact.specs.Plane.{Point}
use Rattle.exact.proofs.Algebra.Signs.{Sign, ◌by◌, split_below}
use Rattle.exact.proofs.Geometry.Words.{orient, Orient, Left, Right, LeftOn, RightOn}
use Rattle.exact.proofs.Geometry.Seen.{wider}
use Rattle.dcel.specs.Map.{Map, twin}
use Rattle.dcel.specs.Mesh.{Sound}
use Rattle.dcel.specs.Surgery.{Outer, Ear, ear_patch}
use Rattle.dcel.specs.Geometry.{from, to}
use Rattle.dcel.proofs.Fits.{IsPatched}
use Rattle.dcel.proofs.Neighbours.{not_itself}
use Rattle.dcel.proofs.Neighbours.{Neighbours, neighbours}
use Rattle.dcel.proofs.Horizon.EarClosed.{EarClosed, origin_uw, face_uw, face_e, next_uw, prev_uw, origin_old, face_old, next_old, outer_then}
use Rattle.dcel.proofs.Placed.{Placed, site, start, stop, right_on, in_stop}
use Rattle.dcel.proofs.Horizon.Rim.{Seen, p, out_of_cone}
use Rattle.dcel.proofs.Horizon.Grown.{ear_grown}
use Rattle.dcel.proofs.Horizon.Covered.{Covered, still_covered, still_outer}
use Rattle.dcel.proofs.Horizon.Open.{Open, a_not_b, end_a, seen_old, seen_outer, not_across}

module _ {pos : ℕ → Point} {m₀ m : Map} {a b : ℕ} (B : Placed pos m₀) (S : Sound m) (O : Open pos m₀ m a b) (seen : Seen pos m (m.prev a) m₀.vertices) where
  abbrev g : ℕ
  g = m.prev a

  near : Neighbours m a
  near = neighbours m S a O.in_a

  outer_g : m.face g ≡ 0
  outer_g = near.face_prev ∙ O.outer_a

  was : Outer m₀ g
  was = seen_outer B S O g near.prev_in outer_g seen

  saw : Seen pos m₀ g m₀.vertices
  saw = seen_old B S O g was seen

  not_b : g ≢ b
  not_b q = omega (arith, was.in_e, O.new_b)

  start_g : m.origin g ≡ m₀.origin g
  start_g = O.grown.origin_old g was.in_e

  end_next : m.origin (twin (m.next g)) ≡ m₀.vertices
  end_next = ap (λ (y : ℕ). m.origin (twin y)) near.next_prev ∙ end_a B S O

  pub backward_may : Ear m g
  backward_may = record { in_e = near.prev_in; outer = outer_g; cross = λ q. omega (arith, end_next, start_g, B.mesh.sound.origin_in g was.in_e) }

  -- g ends where the first one begins
  joint : m₀.origin (twin g) ≡ m₀.origin O.first
  joint = ap (λ (y : ℕ). m₀.origin (twin y)) O.before_first ∙ sym (neighbours m₀ B.mesh.sound O.first O.first_covered.was.in_e).origin_here

  to_first : Left (start B g) (start B O.first) (p B)
  to_first = saw by ap (λ (c : ℕ). Orient (start B g) (site B c) (p B)) (sym joint)

  -- b is not before g
  open_end : m.next b ≢ g
  open_end q = not_across B S O g near.prev_in q near.next_prev seen

  b_not_next : b ≢ m.next g
  b_not_next q = a_not_b B S O (sym (q ∙ near.next_prev))

  -- what comes before g is what came before it
  before : m.prev g ≡ m₀.prev g
  before = elim (O.others y in_y outer_y) [
    | inl q ↦ absurd (not_b (sym (sym O.a_then_b ∙ ap m.next (sym q) ∙ next_y)))
    | inr r ↦ elim r [ inl q ↦ absurd (open_end (ap m.next (sym q) ∙ next_y)) | inr o ↦ old o ]
  ]
    where
      y : ℕ
      y = m.prev g

      in_y : y < m.half_edges
      in_y = S.prev_in g near.prev_in

      next_y : m.next y ≡ g
      next_y = S.next_prev g near.prev_in

      outer_y : m.face y ≡ 0
      outer_y = (neighbours m S g near.prev_in).face_prev ∙ outer_g

      old : Outer m₀ y → y ≡ m₀.prev g
      old o =
          let q : m₀.next y ≡ g = sym (O.follows y o.in_e outer_y (λ r. not_itself m S g near.prev_in (ap m.next (sym r) ∙ next_y))) ∙ next_y in
          sym (ap m₀.prev (sym q) ∙ B.mesh.sound.prev_next y o.in_e)

  module _ (n : Map) (d : IsPatched m n (ear_patch m g)) where
    K : EarClosed m n g
    K = record { sound = S; may = backward_may; is = d }

    covered : Covered pos m₀ n g
    covered = record { was = was; seen = saw; inner = λ z. omega (arith, face_e K, S.face_in g near.prev_in) }

    turn_new : Sign true (orient (from pos m g) (to pos m g) (to pos m (m.next g)))
    turn_new = to_first by (λ i. orient (pos (start_g i)) (pos ((O.grown.origin_old (twin g) (B.mesh.sound.twin_in g was.in_e) ∙ joint) i)) (pos (end_next i)))

    others : (x : ℕ) → x < n.half_edges → n.face x ≡ 0 → (x ≡ m.half_edges) ⊎ ((x ≡ b) ⊎ Outer m₀ x)
    others x l z = elim (outer_then K x l z) [
      | inl q ↦ inl q
      | inr k ↦ elim (O.others x k.old k.outer) [ inl q ↦ absurd (k.not_vw (q ∙ sym near.next_prev)) | inr r ↦ inr r ]
    ]

    follows : (x : ℕ) → x < m₀.half_edges → n.face x ≡ 0 → x ≢ n.prev m.half_edges → n.next x ≡ m₀.next x
    follows x l z q =
        let k = still_outer O.grown K x l z in
        next_old K x k.old k.not_e k.not_vw (λ r. q (r ∙ sym (prev_uw K))) ∙ O.follows x l k.outer k.not_e

    -- b keeps what follows it
    pub next_b : n.next b ≡ m.next b
    next_b = next_old K b O.in_b (λ q. not_b (sym q)) b_not_next (λ q. open_end (ap m.next q ∙ S.next_prev g near.prev_in))

    wide : Left (start B g) (stop B O.last) (p B)
    wide =
        let v = stop B O.last in
        let r : RightOn (start B g) (start B O.first) v = right_on B g was (m₀.origin (twin O.last)) (in_stop B O.last O.last_covered.was) by ap (λ (c : ℕ). neg_ℤ (Orient (start B g) (site B c) v)) (sym joint) in
        wider (start B g) (start B O.first) v (p B) to_first O.wide r

    cone : (x : ℕ) → Outer m₀ x → n.face x ≡ 0 → Seen pos m₀ x m₀.vertices → LeftOn (p B) (start B g) (start B x) → Right (p B) (stop B O.last) (start B x) → ⊥
    cone x o z s l r =
        let k = still_outer O.grown K x o.in_e z in
        elim (split_below (Orient (p B) (start B O.first) (start B x))) [
          | inl f ↦ O.cone x o k.outer s f r
          | inr f ↦ k.not_e (out_of_cone B g x was o saw s l (f by ap (λ (c : ℕ). neg_ℤ (Orient (p B) (site B c) (start B x))) joint))
        ]

    pub backward_open : Open pos m₀ n m.half_edges b
    backward_open = record {
      grown = ear_grown pos B.geometric.whole O.grown K turn_new;
      in_a = omega (arith, d.half_edges_is);
      in_b = omega (arith, O.in_b, d.half_edges_is);
      new_a = O.grown.half_edges_more;
      new_b = O.new_b;
      outer_a = face_uw K;
      outer_b = face_old K b O.in_b (λ q. not_b (sym q)) b_not_next ∙ O.outer_b;
      a_then_b = next_uw K ∙ ap m.next near.next_prev ∙ O.a_then_b;
      at_p = origin_old K b O.in_b ∙ O.at_p;
      first = g;
      last = O.last;
      first_covered = covered;
      last_covered = still_covered O.grown K O.last O.last_covered;
      from_first = origin_uw K ∙ start_g;
      to_last = origin_old K (twin b) (S.twin_in b O.in_b) ∙ O.to_last;
      before_first = prev_uw K ∙ before;
      after_last = next_b ∙ O.after_last;
      others = others;
      follows = follows;
      wide = wide;
      cone = cone;
    }
