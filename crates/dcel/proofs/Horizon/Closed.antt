-- When p sees neither what follows b nor what comes before a, the grown mesh is at its places.
use Rattle.std.proofs.Common.{◌≡◌, ℕ, ◌<◌, true, ◌⊎◌, neg_ℤ, sym, refl, ap, ◌∙◌, subst, inl, inr, arith, subst₂}
use Rattle.std.proofs.lemmas.Bool.{cases_eq, cases_lt}
use Rattle.exact.specs.Plane.{Point}
use Rattle.exact.proofs.Algebra.Signs.{Sign, ◌by◌, split, clash, zero_sign_neg}
use Rattle.exact.proofs.Geometry.Words.{orient, Site, Orient, Dist², RightOn, Between}
use Rattle.exact.proofs.Geometry.Identities.Sides.{start_on, end_on}
use Rattle.exact.proofs.Geometry.Triangles.{same_not_apart}
use Rattle.exact.proofs.Geometry.Spots.{same_of}
use Rattle.exact.proofs.Geometry.Tests.{not_left←}
use Rattle.exact.proofs.Geometry.Betweenness.{between_swap, between_apart}
use Rattle.exact.proofs.Geometry.Tangents.{outside_edge, free_end, free_start}
use Rattle.exact.proofs.Geometry.Horizon.{in_cone}
use Rattle.exact.proofs.Geometry.Seen.{turned_away}
use Rattle.dcel.specs.Map.{Map, twin}
use Rattle.dcel.specs.Mesh.{Sound}
use Rattle.dcel.specs.Surgery.{Outer}
use Rattle.dcel.specs.Geometry.{Geometric}
use Rattle.dcel.proofs.StrictlyBetween.{not_strictly_between←}
use Rattle.dcel.proofs.Placed.{Placed, site, start, stop, ends_apart, right_on, none_between, in_start, in_stop, on_line}
use Rattle.dcel.proofs.Horizon.Rim.{Unseen, p, Hidden, elsewhere, same_hidden}
use Rattle.dcel.proofs.Horizon.LastSeen.{tangent_end}
use Rattle.dcel.proofs.Horizon.FirstSeen.{tangent_start}
use Rattle.dcel.proofs.Horizon.Open.{Open, end_a}

module _ {pos : ℕ → Point} {m₀ m : Map} {a b : ℕ} (B : Placed pos m₀) (S : Sound m) (O : Open pos m₀ m a b) (ahead : Unseen pos m (m.next b) m₀.vertices) (behind : Unseen pos m (m.prev a) m₀.vertices) where
  abbrev P : Site
  P = p B

  abbrev first : ℕ
  first = O.first

  abbrev last : ℕ
  last = O.last

  first_was : Outer m₀ first
  first_was = O.first_covered.was

  last_was : Outer m₀ last
  last_was = O.last_covered.was

  -- an old half edge has the places that it had
  unseen_old : (x y : ℕ) → x ≡ y → y < m₀.half_edges → Unseen pos m x m₀.vertices → Hidden B y
  unseen_old x y q l h =
      let f = ap m.origin q ∙ O.grown.origin_old y l in let t = ap (λ (z : ℕ). m.origin (twin z)) q ∙ O.grown.origin_old (twin y) (B.mesh.sound.twin_in y l) in
      h by (λ i. neg_ℤ (orient (pos (sym f i)) (pos (sym t i)) (pos m₀.vertices)))

  -- ---- all is right of or on u → p and p → v
  right_u : (z : ℕ) → z < m₀.vertices → RightOn (start B first) P (site B z)
  right_u = tangent_start B first first_was O.first_covered.seen (unseen_old (m.prev a) (m₀.prev first) O.before_first (B.mesh.sound.prev_in first first_was.in_e) behind)

  right_v : (z : ℕ) → z < m₀.vertices → RightOn P (stop B last) (site B z)
  right_v = tangent_end B last last_was O.last_covered.seen (unseen_old (m.next b) (m₀.next last) O.after_last (B.mesh.sound.next_in last last_was.in_e) ahead)

  -- so p sees nothing more
  hidden : (x : ℕ) → Outer m₀ x → m.face x ≡ 0 → Hidden B x
  hidden x o z = elim (split (Orient (start B x) (stop B x) P)) [ inl s ↦ absurd (seen s) | inr h ↦ h ]
    where
      seen : Sign true (Orient (start B x) (stop B x) P) → ⊥
      seen s =
          let k = in_cone (start B first) (start B last) (stop B last) P (start B x) (stop B x) O.last_covered.seen (right_on B last last_was (m₀.origin x) (in_start B x o))
          (right_u (m₀.origin x) (in_start B x o)) (right_v (m₀.origin x) (in_start B x o)) (right_v (m₀.origin (twin x)) (in_stop B x o)) s in
          O.cone x o z s k.0 k.1

  -- ---- nothing is between u and p, nor between p and v, and p is between no ends
  free_u : (z : ℕ) → z < m₀.vertices → Between (start B first) P (site B z) → ⊥
  free_u z l h = clash (free_start (start B first) (stop B first) P (site B z) O.first_covered.seen h) (right_on B first first_was z l)

  free_v : (z : ℕ) → z < m₀.vertices → Between P (stop B last) (site B z) → ⊥
  free_v z l h = clash (free_end (start B last) (stop B last) P (site B z) O.last_covered.seen (between_swap P (stop B last) (site B z) h)) (right_on B last last_was z l)

  free_p : (x : ℕ) → Outer m₀ x → Between (start B x) (stop B x) P → ⊥
  free_p x o = outside_edge (start B last) (stop B last) P (start B x) (stop B x) O.last_covered.seen (right_on B last last_was (m₀.origin x) (in_start B x o)) (right_on B last last_was (m₀.origin (twin x)) (in_stop B x o))

  no_end : (u v : Site) → Between u v v → ⊥
  no_end u v h = same_not_apart v v (same_of v v refl refl) (between_apart u v v h).1

  -- ---- an old vertex, or p
  old_or_p : (Q : ℕ → Type 0) → ((z : ℕ) → z < m₀.vertices → Q z) → Q m₀.vertices → (z : ℕ) → z < m.vertices → Q z
  old_or_p Q f g z l = elim (cases_eq z m₀.vertices) [ inl q ↦ subst Q (sym q) g | inr q ↦ f z (omega (arith, O.grown.vertices_is)) ]

  -- what is said of the ends of every outer half edge
  each_outer : (Q : ℕ → ℕ → Type 0) → Q (m₀.origin first) m₀.vertices → Q m₀.vertices (m₀.origin (twin last)) → ((x : ℕ) → Outer m₀ x → m.face x ≡ 0 → Q (m₀.origin x) (m₀.origin (twin x))) →
      (x : ℕ) → x < m.half_edges → m.face x ≡ 0 → Q (m.origin x) (m.origin (twin x))
  each_outer Q f g k x l z = elim (O.others x l z) [
    | inl q ↦ subst₂ Q (sym (ap m.origin q ∙ O.from_first)) (sym (ap (λ (y : ℕ). m.origin (twin y)) q ∙ end_a B S O)) f
    | inr r ↦ elim r [
      | inl q ↦ subst₂ Q (sym (ap m.origin q ∙ O.at_p)) (sym (ap (λ (y : ℕ). m.origin (twin y)) q ∙ O.to_last)) g
      | inr o ↦ subst₂ Q (sym (O.grown.origin_old x o.in_e)) (sym (O.grown.origin_old (twin x) (B.mesh.sound.twin_in x o.in_e))) (k x o z)
    ]
  ]

  right : (x : ℕ) → x < m.half_edges → m.face x ≡ 0 → (z : ℕ) → z < m.vertices → RightOn (site B (m.origin x)) (site B (m.origin (twin x))) (site B z)
  right = each_outer (λ u v. (z : ℕ) → z < m.vertices → RightOn (site B u) (site B v) (site B z))
      (old_or_p (λ z. RightOn (start B first) P (site B z)) right_u (zero_sign_neg _ (end_on (start B first) P)))
      (old_or_p (λ z. RightOn P (stop B last) (site B z)) right_v (zero_sign_neg _ (start_on P (stop B last))))
      (λ x o z. old_or_p (λ v. RightOn (start B x) (stop B x) (site B v)) (right_on B x o) (hidden x o z))

  clear : (x : ℕ) → x < m.half_edges → m.face x ≡ 0 → (z : ℕ) → z < m.vertices → Between (site B (m.origin x)) (site B (m.origin (twin x))) (site B z) → ⊥
  clear = each_outer (λ u v. (z : ℕ) → z < m.vertices → Between (site B u) (site B v) (site B z) → ⊥)
      (old_or_p (λ z. Between (start B first) P (site B z) → ⊥) free_u (no_end (start B first) P))
      (old_or_p (λ z. Between P (stop B last) (site B z) → ⊥) free_v (λ h. no_end (stop B last) P (between_swap P (stop B last) P h)))
      (λ x o z. old_or_p (λ v. Between (start B x) (stop B x) (site B v) → ⊥) (none_between B x o) (free_p x o))

  -- ---- nothing else that is outer begins where the first one did
  not_first : (x : ℕ) → Outer m₀ x → m.face x ≡ 0 → m₀.origin first ≡ m₀.origin x → ⊥
  not_first x o z q = elim (cases_lt 1 m₀.faces) [
    | inl f ↦ O.first_covered.inner (ap m.face (B.geometric.once f first x first_was.in_e o.in_e first_was.outer o.outer q) ∙ z)
    | inr f ↦ turned_away (start B first) (stop B first) (stop B x) P O.first_covered.seen (hidden x o z by ap (λ (c : ℕ). neg_ℤ (Orient (site B c) (stop B x) P)) q)
        (right_u (m₀.origin (twin x)) (in_stop B x o)) (on_line B (omega arith) first first_was.in_e (m₀.origin (twin x)) (in_stop B x o)) (ends_apart B x o.in_e by ap (λ (c : ℕ). Dist² (site B c) (stop B x)) q)
  ]

  abbrev Kind : ℕ → Type 0
  Kind x = (x ≡ a) ⊎ ((x ≡ b) ⊎ Outer m₀ x)

  once : (x y : ℕ) → m.face x ≡ 0 → m.face y ≡ 0 → m.origin x ≡ m.origin y → Kind x → Kind y → x ≡ y
  once x y zx zy q (inl f) (inl g) = f ∙ sym g
  once x y zx zy q (inl f) (inr (inl g)) = absurd (omega (arith, in_start B first first_was, sym O.from_first ∙ ap m.origin (sym f) ∙ q ∙ ap m.origin g ∙ O.at_p))
  once x y zx zy q (inl f) (inr (inr o)) = absurd (not_first y o zy (sym O.from_first ∙ ap m.origin (sym f) ∙ q ∙ O.grown.origin_old y o.in_e))
  once x y zx zy q (inr (inl f)) (inl g) = absurd (omega (arith, in_start B first first_was, sym O.from_first ∙ ap m.origin (sym g) ∙ sym q ∙ ap m.origin f ∙ O.at_p))
  once x y zx zy q (inr (inl f)) (inr (inl g)) = f ∙ sym g
  once x y zx zy q (inr (inl f)) (inr (inr o)) = absurd (omega (arith, in_start B y o, sym O.at_p ∙ ap m.origin (sym f) ∙ q ∙ O.grown.origin_old y o.in_e))
  once x y zx zy q (inr (inr o)) (inl g) = absurd (not_first x o zx (sym O.from_first ∙ ap m.origin (sym g) ∙ sym q ∙ O.grown.origin_old x o.in_e))
  once x y zx zy q (inr (inr o)) (inr (inl g)) = absurd (omega (arith, in_start B x o, sym O.at_p ∙ ap m.origin (sym g) ∙ sym q ∙ O.grown.origin_old x o.in_e))
  once x y zx zy q (inr (inr o)) (inr (inr r)) = same_hidden B first first_was O.first_covered.seen x y o r (sym (O.grown.origin_old x o.in_e) ∙ q ∙ O.grown.origin_old y r.in_e) (hidden x o zx) (hidden y r zy)

  apart : (u v : ℕ) → u < m.vertices → v < m.vertices → (pos u).x ≡ (pos v).x → (pos u).y ≡ (pos v).y → u ≡ v
  apart u v l k = old_or_p (λ u. (pos u).x ≡ (pos v).x → (pos u).y ≡ (pos v).y → u ≡ v)
      (λ u l. old_or_p (λ v. (pos u).x ≡ (pos v).x → (pos u).y ≡ (pos v).y → u ≡ v) (λ v k. B.geometric.apart u v l k) (λ e f. absurd (other u l e f)) v k)
      (old_or_p (λ v. (pos m₀.vertices).x ≡ (pos v).x → (pos m₀.vertices).y ≡ (pos v).y → m₀.vertices ≡ v) (λ v k e f. absurd (other v k (sym e) (sym f))) (λ e f. refl) v k) u l
    where
      other : (u : ℕ) → u < m₀.vertices → (pos u).x ≡ (pos m₀.vertices).x → (pos u).y ≡ (pos m₀.vertices).y → ⊥
      other u l e f = elsewhere B last last_was O.last_covered.seen u l (same_of (site B u) P e f)

  pub closed : Geometric pos m
  closed = record {
    left = O.grown.left;
    right = λ x l z v k. not_left← (pos (m.origin x)) (pos (m.origin (twin x))) (pos v) (right x l z v k);
    clear = λ x l z v k. not_strictly_between← (pos (m.origin x)) (pos (m.origin (twin x))) (pos v) (clear x l z v k);
    once = λ f x y l k zx zy q. once x y zx zy q (O.others x l zx) (O.others y k zy);
    ends = λ f. absurd (omega (arith, O.grown.faces_more, B.mesh.sound.face_in first first_was.in_e));
    single = λ f. absurd (omega (arith, O.grown.faces_more, B.mesh.sound.face_in first first_was.in_e));
    whole = B.geometric.whole;
    apart = apart;
  }
