-- After attaching, p stands before the one half edge to which it is attached.
use Rattle.std.proofs.Common.{◌≡◌, ℕ, ◌+◌, ◌<◌, ◌≢◌, ◌⊎◌, sym, ap, ◌∙◌, inl, inr, arith}
use Rattle.exact.specs.Plane.{Point}
use Rattle.dcel.specs.Map.{Map}
use Rattle.dcel.specs.Surgery.{Outer}
use Rattle.dcel.proofs.Horizon.Attached.{Attached}
use Rattle.dcel.proofs.Horizon.Attached as Attach
use Rattle.dcel.proofs.Placed.{Placed}
use Rattle.dcel.proofs.Horizon.Rim.{Seen, out_of_cone}
use Rattle.dcel.proofs.Horizon.Grown.{attach_grown}
use Rattle.dcel.proofs.Horizon.Covered.{Covered}
use Rattle.dcel.proofs.Horizon.Open.{Open}

module _ {pos : ℕ → Point} {m n : Map} {e : ℕ} (B : Placed pos m) (K : Attached m n e) (seen : Seen pos m e m.vertices) where
  covered : Covered pos m n e
  covered = record { was = K.may; seen = seen; inner = λ z. omega (arith, Attach.face_e K, K.sound.face_in e K.may.in_e) }

  others : (x : ℕ) → x < n.half_edges → n.face x ≡ 0 → (x ≡ m.half_edges + 3) ⊎ ((x ≡ m.half_edges + 1) ⊎ Outer m x)
  others x h z = elim (Attach.outer_then K x h z) [ inl q ↦ inl q | inr r ↦ elim r [ inl q ↦ inr (inl q) | inr k ↦ inr (inr (record { in_e = k.0; outer = k.2 })) ] ]

  not_e : (x : ℕ) → n.face x ≡ 0 → x ≢ e
  not_e x z q = covered.inner (sym (ap n.face q) ∙ z)

  pub attach_open : Open pos m n (m.half_edges + 3) (m.half_edges + 1)
  attach_open = record {
    grown = attach_grown pos B.geometric.whole K B.geometric.left seen;
    in_a = omega (arith, K.is.half_edges_is);
    in_b = omega (arith, K.is.half_edges_is);
    new_a = omega arith;
    new_b = omega arith;
    outer_a = Attach.face_up K;
    outer_b = Attach.face_pw K;
    a_then_b = Attach.next_up K;
    at_p = Attach.origin_pw K;
    first = e;
    last = e;
    first_covered = covered;
    last_covered = covered;
    from_first = Attach.origin_up K;
    to_last = ap n.origin (Attach.twin_pw K) ∙ Attach.origin_wp K;
    before_first = Attach.prev_up K;
    after_last = Attach.next_pw K;
    others = others;
    follows = λ x h z q. Attach.next_old K x h (not_e x z) (λ r. q (r ∙ sym (Attach.prev_up K)));
    wide = seen;
    cone = λ x o z s l r. not_e x z (out_of_cone B e x K.may o seen s l r);
  }
