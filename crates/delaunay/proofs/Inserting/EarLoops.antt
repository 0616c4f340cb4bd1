-- The ears of a vertex outside: closed ahead while it sees the next outer half edge, then behind while it sees the one before, and then it sees no more.
use Rattle.std.proofs.Common.{◌≡◌, ℕ, zero, suc, ◌+◌, ◌<◌, ◌≤◌, Bool, true, false, List, Some, None, sym, refl, ap, ◌∙◌, subst, inl, inr, arith}
use Rattle.exact.specs.Plane.{point}
use Rattle.std.proofs.lemmas.Bool.{cases_Bool}
use Rattle.dcel.specs.Layout.{Size}
use Rattle.dcel.specs.Map.{Map}
use Rattle.dcel.specs.Surgery.{Ear}
use Rattle.dcel.specs.Memory.{map_of, vertices_in, half_edges_in}
use Rattle.dcel.specs.Geometry.{AtRest}
use Rattle.dcel.proofs.Placed.{Placed}
use Rattle.dcel.proofs.Horizon.Steps.{sight, forward_ear, forward, backward_ear, backward, backward_ahead}
use Rattle.dcel.proofs.Horizon.Fuel.{to_close, ear_to_close}
use Rattle.delaunay.specs.Iterate.{iterate}
use Rattle.delaunay.specs.declared.outside.Way.TheVariants.{Ahead as way-Ahead, Behind as way-Behind}
use Rattle.delaunay.specs.Outside.{Rim, rim, ear_listed, ear_seen, closed_on}
use Rattle.delaunay.specs.Walk.{left_at}
use Rattle.delaunay.proofs.Loops.{iterate_stop, iterate_next}
use Rattle.delaunay.proofs.Inserting.OneMore.{places_with}
use Rattle.delaunay.proofs.Inserting.Put.{Put}
use Rattle.delaunay.proofs.Inserting.Ears.{OpenIn, left_sight, ear_map, ear_open, all_closed}

module _ (s : Size) (m : List ℕ) (x y d : ℕ) (B : Placed (places_with s m x y) (map_of s m)) (some : 0 < (map_of s m).faces) where
  abbrev g : List ℕ → Map
  g r = map_of s r

  -- does the vertex see the half edge e of memory r?
  abbrev sees : List ℕ → ℕ → Bool
  sees r e = sight (places_with s m x y) (map_of s r) (vertices_in s m) e

  -- an ear less to close
  fewer : (r : List ℕ) {a b : ℕ} (O : OpenIn s m x y d r a b) (e : ℕ) → Ear (g r) e → to_close (g (ear_listed s r e)) < to_close (g r)
  fewer r O e may = omega (arith, ap (λ (f : Map). to_close f + 1) (ear_map s m x y d r O e may) ∙ ear_to_close (g r) O.holds.mesh e may)

  -- ---- ahead
  module _ (r : List ℕ) (b : ℕ) where
    stops_ahead : left_at s r ((g r).next b) (point x y) ≡ false → closed_on s way-Ahead (point x y) (rim r b) ≡ None
    unfolding closed_on ear_seen
    stops_ahead f = rw f refl

    goes_ahead : left_at s r ((g r).next b) (point x y) ≡ true → closed_on s way-Ahead (point x y) (rim r b) ≡ Some (rim (ear_listed s r b) (half_edges_in s r))
    unfolding closed_on ear_seen
    goes_ahead t = rw t refl

  pub record Ahead (a k : ℕ) (r : Rim) : Type 0 where
    pub reached : OpenIn s m x y d r.words a r.edge
    pub unseen : sees r.words ((g r.words).next r.edge) ≡ false
    pub few : to_close (g r.words) ≤ k

  ahead_done : (k : ℕ) (r : List ℕ) (a b : ℕ) → OpenIn s m x y d r a b → to_close (g r) ≤ k → left_at s r ((g r).next b) (point x y) ≡ false → (fuel : ℕ) → Ahead a k (iterate (closed_on s way-Ahead (point x y)) fuel (rim r b))
  ahead_done k r a b O l f fuel =
      subst (Ahead a k) (sym (iterate_stop (closed_on s way-Ahead (point x y)) fuel (rim r b) (stops_ahead r b f))) (record { reached = O; unseen = sym (left_sight s m x y d r O ((g r).next b)) ∙ f; few = l })

  module _ (r : List ℕ) {a b : ℕ} (O : OpenIn s m x y d r a b) (t : left_at s r ((map_of s r).next b) (point x y) ≡ true) where
    ear_ahead : Ear (g r) b
    ear_ahead = forward_ear B O.holds.mesh O.grown_open (sym (left_sight s m x y d r O ((g r).next b)) ∙ t)

    open_ahead : OpenIn s m x y d (ear_listed s r b) a (half_edges_in s r)
    open_ahead = ear_open s m x y d r O b ear_ahead some (forward B O.holds.mesh O.grown_open (sym (left_sight s m x y d r O ((g r).next b)) ∙ t))

    fewer_ahead : to_close (g (ear_listed s r b)) < to_close (g r)
    fewer_ahead = fewer r O b ear_ahead

  pub ahead : (fuel k : ℕ) (r : List ℕ) (a b : ℕ) → OpenIn s m x y d r a b → to_close (g r) ≤ fuel → to_close (g r) ≤ k → Ahead a k (iterate (closed_on s way-Ahead (point x y)) fuel (rim r b))
  ahead zero k r a b O h l = elim (cases_Bool (left_at s r ((g r).next b) (point x y))) [ inl t ↦ absurd (omega (arith, fewer_ahead r O t)) | inr f ↦ ahead_done k r a b O l f zero ]
  ahead (suc fuel) k r a b O h l = elim (cases_Bool (left_at s r ((g r).next b) (point x y))) [
    | inl t ↦
        let q = fewer_ahead r O t in
        subst (Ahead a k) (sym (iterate_next (closed_on s way-Ahead (point x y)) fuel (rim r b) (rim (ear_listed s r b) (half_edges_in s r)) (goes_ahead r b t)))
        (ahead fuel k (ear_listed s r b) a (half_edges_in s r) (open_ahead r O t) (omega arith) (omega arith))
    | inr f ↦ ahead_done k r a b O l f (suc fuel)
  ]

  -- ---- behind
  module _ (r : List ℕ) (a : ℕ) where
    stops_behind : left_at s r ((g r).prev a) (point x y) ≡ false → closed_on s way-Behind (point x y) (rim r a) ≡ None
    unfolding closed_on ear_seen
    stops_behind f = rw f refl

    goes_behind : left_at s r ((g r).prev a) (point x y) ≡ true → closed_on s way-Behind (point x y) (rim r a) ≡ Some (rim (ear_listed s r ((g r).prev a)) (half_edges_in s r))
    unfolding closed_on ear_seen
    goes_behind t = rw t refl

  module _ (rest : AtRest (places_with s m x y) (map_of s m)) where
    abbrev Done : Rim → Type 0
    Done r = Put s m x y d r.words

    behind_done : (r : List ℕ) (a b : ℕ) → OpenIn s m x y d r a b → sees r ((g r).next b) ≡ false → left_at s r ((g r).prev a) (point x y) ≡ false → (fuel : ℕ) → Done (iterate (closed_on s way-Behind (point x y)) fuel (rim r a))
    behind_done r a b O u f fuel = subst Done (sym (iterate_stop (closed_on s way-Behind (point x y)) fuel (rim r a) (stops_behind r a f))) (all_closed s m x y d r O B rest u (sym (left_sight s m x y d r O ((g r).prev a)) ∙ f))

    module _ (r : List ℕ) {a b : ℕ} (O : OpenIn s m x y d r a b) (t : left_at s r ((map_of s r).prev a) (point x y) ≡ true) where
      seen_behind : sees r ((g r).prev a) ≡ true
      seen_behind = sym (left_sight s m x y d r O ((g r).prev a)) ∙ t

      ear_behind : Ear (g r) ((g r).prev a)
      ear_behind = backward_ear B O.holds.mesh O.grown_open seen_behind

      open_behind : OpenIn s m x y d (ear_listed s r ((g r).prev a)) (half_edges_in s r) b
      open_behind = ear_open s m x y d r O ((g r).prev a) ear_behind some (backward B O.holds.mesh O.grown_open seen_behind)

      fewer_behind : to_close (g (ear_listed s r ((g r).prev a))) < to_close (g r)
      fewer_behind = fewer r O ((g r).prev a) ear_behind

      still_unseen : sees r ((g r).next b) ≡ false → sees (ear_listed s r ((g r).prev a)) ((g (ear_listed s r ((g r).prev a))).next b) ≡ false
      still_unseen u = ap (λ (f : Map). sight (places_with s m x y) f (vertices_in s m) (f.next b)) (ear_map s m x y d r O ((g r).prev a) ear_behind) ∙ backward_ahead B O.holds.mesh O.grown_open seen_behind ∙ u

    pub behind : (fuel : ℕ) (r : List ℕ) (a b : ℕ) → OpenIn s m x y d r a b → to_close (g r) ≤ fuel → sees r ((g r).next b) ≡ false → Done (iterate (closed_on s way-Behind (point x y)) fuel (rim r a))
    behind zero r a b O h u = elim (cases_Bool (left_at s r ((g r).prev a) (point x y))) [ inl t ↦ absurd (omega (arith, fewer_behind r O t)) | inr f ↦ behind_done r a b O u f zero ]
    behind (suc fuel) r a b O h u = elim (cases_Bool (left_at s r ((g r).prev a) (point x y))) [
      | inl t ↦
          subst Done (sym (iterate_next (closed_on s way-Behind (point x y)) fuel (rim r a) (rim (ear_listed s r ((g r).prev a)) (half_edges_in s r)) (goes_behind r a t)))
          (behind fuel (ear_listed s r ((g r).prev a)) (half_edges_in s r) b (open_behind r O t) (omega (arith, fewer_behind r O t)) (still_unseen r O t u))
      | inr f ↦ behind_done r a b O u f (suc fuel)
    ]
