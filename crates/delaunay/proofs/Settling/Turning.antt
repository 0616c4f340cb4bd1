-- One turn: the first edge comes off the list, and is flipped if it is wrong, with the four sides of its quadrilateral put on.
use Rattle.std.proofs.Common.{◌≡◌, ℕ, ◌+◌, ◌*◌, ◌<◌, Bool, true, false, List, [], ◌∷◌, Some, sym, refl, ap, subst, inl, inr, arith}
use Rattle.std.proofs.Math.Path.{fun_ext}
use Rattle.exact.specs.Plane.{Point, pick}
use Rattle.exact.proofs.Lists.{In}
use Rattle.dcel.specs.Layout.{Size}
use Rattle.dcel.specs.Map.{Map, twin}
use Rattle.dcel.specs.Mesh.{Sound, zero_count}
use Rattle.dcel.specs.Surgery.{flip_patch}
use Rattle.dcel.specs.Memory.{map_of, half_edges_in}
use Rattle.dcel.specs.Holds.{sites_of, Becomes}
use Rattle.dcel.specs.Operations.{flipped as flipped_in}
use Rattle.dcel.specs.Geometry.{Geometric}
use Rattle.dcel.specs.Legal.{Ready, flip, illegal}
use Rattle.dcel.specs.Volume.{volume}
use Rattle.dcel.proofs.Laws.{flip_keeps}
use Rattle.dcel.proofs.Legal.WrongEdge.{WrongEdge, flippable}
use Rattle.dcel.proofs.Legal.Steps.{take_off, Flipped, flipped}
use Rattle.dcel.proofs.Legal.Loop.{illegal→, not_illegal→}
use Rattle.delaunay.specs.Places.{place_of, wrong_at}
use Rattle.delaunay.specs.Worklist.{popped}
use Rattle.delaunay.specs.Legalize.{to_flip, turned, settled_edge, settle}
use Rattle.delaunay.specs.Kept.{Held, AmongListed, HalfListed, Unsettled}
use Rattle.delaunay.proofs.Settling.Beside.{SameVertices, same_vertices_then, places_by_sites, beside, beside_vertices, beside_held}
use Rattle.delaunay.proofs.Settling.Links.{lists_rewritten}
use Rattle.delaunay.proofs.Settling.Words.{off_list}
use Rattle.delaunay.proofs.Settling.Pushing.{Adds, adds_none, add_edge}
use Rattle.delaunay.proofs.Settling.Popping.{Takes, first_is, takes_first}
use Rattle.delaunay.proofs.Settling.Halves.{edge_on, still_on, first_off, adds_unsettled}

abbrev pub volume_of : Size → List ℕ → ℕ
volume_of s m = volume (place_of s m) (map_of s m)

-- n is m after a turn: four times the volume and the edges on the list, together, are less
pub record Turned (s : Size) (m n : List ℕ) : Type 0 where
  pub list : List ℕ
  pub unsettled : Unsettled s n list
  pub same : SameVertices s m n
  pub falls : 4 * volume_of s n + off_list s m < 4 * volume_of s m + off_list s n

to_flip_is : (s : Size) (m : List ℕ) (e : ℕ) → to_flip s m e ≡ illegal (place_of s m) (map_of s m) e
unfolding to_flip wrong_at illegal
to_flip_is s m e = refl

module _ (s : Size) (m : List ℕ) (i : ℕ) (l : List ℕ) (U : Unsettled s m (i ∷ l)) where
  abbrev e : ℕ
  e = 2 * i

  abbrev p : List ℕ
  p = popped s m

  abbrev pos : ℕ → Point
  pos = place_of s p

  abbrev map : Map
  map = map_of s p

  T : Takes s m l p
  T = takes_first s m i l U.lists (omega (arith, U.held.holds.long))

  held : Held s p
  held = beside_held s m p T.beside U.held

  S : Sound map
  S = held.holds.mesh.sound

  ready : Ready pos map (HalfListed (i ∷ l))
  ready = beside s m p T.beside (λ q g. Ready q g (HalfListed (i ∷ l))) U.ready

  kept : SameVertices s m p
  kept = beside_vertices s m p T.beside

  in_list : (j : ℕ) → AmongListed j (i ∷ l) → 2 * j < half_edges_in s p
  in_list j k = omega (arith, U.listed_in j k, kept.half_edges_are)

  same_volume : volume_of s p ≡ volume_of s m
  same_volume = beside s m p T.beside (λ q g. volume q g ≡ volume_of s m) refl

  right_turn : illegal pos map e ≡ false → Turned s m p
  right_turn t = record {
    list = l;
    unsettled = record {
      held = held;
      lists = T.lists;
      listed_in = λ j k. in_list j (inr k);
      ready = take_off pos map held.geometric.whole (HalfListed (i ∷ l)) (HalfListed l) e (first_off i l) (not_illegal→ pos map e t) ready;
    };
    same = kept;
    falls = omega (arith, same_volume, T.off_is);
  }

  module _ (bad : WrongEdge pos map e) where
    abbrev q : List ℕ
    q = flipped_in s p e

    abbrev n : List ℕ
    n = turned s p e

    F : Flipped pos map e (flip map e)
    F = flipped pos map held.holds.mesh held.geometric e bad

    K : Becomes s p (flip_patch map e) (sites_of s p) q
    K = flip_keeps s p e held.holds (flippable pos map S held.geometric e bad)

    -- what is said of the flipped map at these places is so in memory
    in_memory : (P : (ℕ → Point) → Map → Type 0) → P pos (flip map e) → P (place_of s q) (map_of s q)
    in_memory P h = subst (λ (o : ℕ → Point). P o (map_of s q)) (sym (places_by_sites s p q K.wrote.sites_are)) (subst (P pos) (sym K.wrote.map_is) h)

    flip_kept : SameVertices s p q
    flip_kept = record {
      sites_are = K.wrote.sites_are;
      vertices_are = ap (λ (g : Map). g.vertices) K.wrote.map_is;
      half_edges_are = ap (λ (g : Map). g.half_edges) K.wrote.map_is;
      faces_are = ap (λ (g : Map). g.faces) K.wrote.map_is;
      header_is = λ j h. K.wrote.header_is j (omega arith);
    }

    abbrev sides : List ℕ
    sides = map.prev (twin e) ∷ map.next (twin e) ∷ map.prev e ∷ map.next e ∷ []

    in_sides : (x : ℕ) → In x sides → x < half_edges_in s q
    in_sides x k = omega (arith, flip_kept.half_edges_are, old x k)
      where
        h : e < map.half_edges
        h = bad.in_e

        old : (x : ℕ) → In x sides → x < map.half_edges
        old x (inl r) = omega (arith, S.prev_in (twin e) (S.twin_in e h))
        old x (inr (inl r)) = omega (arith, S.next_in (twin e) (S.twin_in e h))
        old x (inr (inr (inl r))) = omega (arith, S.prev_in e h)
        old x (inr (inr (inr (inl r)))) = omega (arith, S.next_in e h)
        old x (inr (inr (inr (inr k)))) = absurd k

    A : Adds s q l sides n
    unfolding turned
    A =
        let a = adds_none s q l (lists_rewritten s p _ _ q l K.wrote T.lists) in
        let b = add_edge s q l _ _ K.holds a (map.next e) (in_sides _ (inr (inr (inr (inl refl))))) in
        let c = add_edge s q l _ _ K.holds b (map.prev e) (in_sides _ (inr (inr (inl refl)))) in
        let d = add_edge s q l _ _ K.holds c (map.next (twin e)) (in_sides _ (inr (inl refl))) in
        add_edge s q l _ _ K.holds d (map.prev (twin e)) (in_sides _ (inl refl))

    flip_ready : Ready pos (flip map e) (HalfListed A.list)
    flip_ready =
        F.ready (HalfListed (i ∷ l)) (HalfListed A.list) (λ x a b k. still_on l A.list A.old x (first_off i l x a b k))
        (edge_on _ _ (A.new _ (inr (inr (inr (inl refl)))))) (edge_on _ _ (A.new _ (inr (inr (inl refl))))) (edge_on _ _ (A.new _ (inr (inl refl)))) (edge_on _ _ (A.new _ (inl refl))) ready

    same_words : off_list s q ≡ off_list s p
    same_words = ap (λ (w : ℕ → ℕ). zero_count w (3 * s.vertices)) (fun_ext K.wrote.worklist_is)

    lower : volume_of s n < volume_of s m
    lower = beside s q n A.beside (λ o g. volume o g < volume_of s m) (in_memory (λ o g. volume o g < volume_of s m) (omega (arith, F.lower, same_volume)))

    wrong_turn : Turned s m n
    wrong_turn = record {
      list = A.list;
      unsettled = adds_unsettled s q l sides n (record { holds = K.holds; geometric = in_memory Geometric F.geometric }) A (λ j k. omega (arith, in_list j (inr k), flip_kept.half_edges_are)) in_sides
          (in_memory (λ o g. Ready o g (HalfListed A.list)) flip_ready);
      same = same_vertices_then s m p n kept (same_vertices_then s p q n flip_kept (beside_vertices s q n A.beside));
      falls = omega (arith, lower, T.off_is, same_words, A.off_most);
    }

  -- and it is the turn that the loop takes
  pub turn_taken : settle s m ≡ Some (settled_edge s p e)
  unfolding settle
  turn_taken = rw (first_is s m i l U.lists) refl

  pub one_turn : Turned s m (settled_edge s p e)
  unfolding settled_edge
  one_turn = by (to_flip s p e) (to_flip_is s p e)
    where
      by : (b : Bool) → b ≡ illegal pos map e → Turned s m (pick b (turned s p e) p)
      by true t = wrong_turn (illegal→ pos map e (in_list i (inl refl)) (sym t))
      by false t = right_turn (sym t)
