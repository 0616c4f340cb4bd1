-- A point is put in: refused if a coordinate is too large or there is no room, and otherwise its number is shown.
use Rattle.std.proofs.Common.{◌≡◌, ℕ, ◌<◌, Bool, true, false, ◌&&◌, ltb, leb, List, [], ◌∷◌, length, Some, None, sym, refl, ap, ◌∙◌, ap₂, inl, inr, arith}
use Rattle.exact.specs.Plane.{pick, none_of, point}
use Rattle.std.proofs.lemmas.Bool.{cases_Bool, ltb-true, leb-true, leb-false}
use Rattle.exact.proofs.Booleans.{true_false, and_left, and_right}
use Rattle.dcel.specs.Layout.{Size, header, total}
use Rattle.dcel.specs.Memory.{cell, vertices_in, vertex_count}
use Rattle.dcel.specs.Geometry.{triangles}
use Rattle.dcel.proofs.Becoming.{at_most_below}
use Rattle.delaunay.specs.Insert.{inserted as put_into, inserted_number}
use Rattle.delaunay.specs.Kept.{vertices_of, Standing}
use Rattle.triangles.specs.House.{House, insert, found, inserted, refusal, vertices_after, changes, After, Shown, core}
use Rattle.triangles.specs.Promise.{said, next, shows, refused, ran, runs}
use Rattle.triangles.specs.Machine.{does, at_end, put_in, machine_step, machine}
use Rattle.triangles.proofs.Promises.Modes.{end_alike, ended, standing_long}
use Rattle.triangles.proofs.Promises.Running.{runs_refused, runs_done, runs_shows}
use Rattle.triangles.proofs.Promises.Numbered.{found_alone}
use Rattle.delaunay.proofs.AtRest.{vertices_length, standing_delaunay}
use Rattle.delaunay.proofs.Inserting.Standing.{Renewed, Added}
use Rattle.delaunay.proofs.Inserting.Inserted.{InsertionLaw, inserted_law}
use Rattle.triangles.proofs.Promises.Grown.{Here, here, nowhere, vertices_renewed, found_renewed, vertices_grown, found_grown}
use Rattle.triangles.proofs.Promises.Houses.{house_of, stands_itself, stands_alike, goes_refused, goes_well, Answered, answered}

module _ (s : Size) (m : List ℕ) (a b d : ℕ) where
  abbrev in_square : Bool
  in_square = ltb a s.coordinates && ltb b s.coordinates

  put_too_far : in_square ≡ false → put_in s m a b d ≡ does m (refused 6)
  unfolding put_in
  put_too_far q = rw q refl

  module _ (q : in_square ≡ true) (e : ltb d 18446744073709551616 ≡ true) where
    put_full : inserted_number s m a b ≡ None → put_in s m a b d ≡ does m (refused 7)
    unfolding put_in
    put_full n = rw (q, e, n) refl

    put_shown : (v : ℕ) → inserted_number s m a b ≡ Some v → put_in s m a b d ≡ does (at_end s (put_into s m a b d)) (shows (v ∷ []))
    unfolding put_in
    put_shown v n = rw (q, e, n) refl

    -- the number is shown, and that is all
    runs_shown : (v : ℕ) → inserted_number s m a b ≡ Some v → length (put_into s m a b d) ≡ total s →
        runs 2 (machine s) m (said (insert a b d)) [] ≡ ran (at_end s (put_into s m a b d)) ((v ∷ []) ∷ []) 0
    unfolding machine machine_step
    runs_shown v n z =
        runs_shows (machine s) m (said (insert a b d)) [] 1 (at_end s (put_into s m a b d)) (v ∷ []) (put_shown v n) (omega arith)
        ∙ runs_done (machine s) (at_end s (put_into s m a b d)) next ((v ∷ []) ∷ []) 0 (at_end s (put_into s m a b d)) (ended s (put_into s m a b d) (omega arith))

module _ (s : Size) (c_is : s.coordinates ≡ 1048576) (v_is : s.vertices ≡ 16384) (m : List ℕ) (t : Standing s m) (a b d : ℕ) (e : ltb d 18446744073709551616 ≡ true) where
  abbrev h : House
  h = house_of s m

  abbrev n : List ℕ
  n = put_into s m a b d

  refusal_is : refusal h (insert a b d) ≡ pick (in_square s m a b d) (pick (none_of (found (vertices_of s m) (point a b)) && leb s.vertices (length (vertices_of s m))) 7 0) 6
  unfolding refusal
  refusal_is = ap₂ (λ (c v : ℕ). pick (ltb a c && ltb b c) (pick (none_of (found (vertices_of s m) (point a b)) && leb v (length (vertices_of s m))) 7 0) 6) (sym c_is) (sym v_is)

  too_far : in_square s m a b d ≡ false → Answered s m h (insert a b d)
  unfolding machine machine_step core
  too_far q = answered s m h (insert a b d) 1 h (ran m [] 6) (runs_refused (machine s) m (said (insert a b d)) [] 0 m 6 (put_too_far s m a b d q) (omega arith) (omega arith))
      (goes_refused h (insert a b d) m 6 refl (refusal_is ∙ rw q refl) (omega arith)) (stands_itself s m t)

  module _ (q : in_square s m a b d ≡ true) where
    abbrev a_in : a < s.coordinates
    a_in = ltb-true a s.coordinates (and_left (ltb a s.coordinates) (ltb b s.coordinates) q)

    abbrev b_in : b < s.coordinates
    b_in = ltb-true b s.coordinates (and_right (ltb a s.coordinates) (ltb b s.coordinates) q)

    law : InsertionLaw s m a b
    law = inserted_law s m (omega arith) t a b a_in b_in

    -- where a vertex is, its number is shown and only its data are others
    there_already : (v : ℕ) → found (vertices_of s m) (point a b) ≡ v ∷ [] → Answered s m h (insert a b d)
    unfolding core none_of After vertices_after changes Shown inserted
    there_already v f =
        let p : Here s m a b v = here s m a b v [] f in
        let l = law.old v p.in_range p.place_is in
        let r : Renewed s m v d n = l.1 d in
        let z : length n ≡ total s = standing_long s n r.standing in
        let vs_are = vertices_renewed s m a b d v p r in
        answered s m h (insert a b d) 2 (house_of s n) (ran (at_end s n) ((v ∷ []) ∷ []) 0) (runs_shown s m a b d q e v l.0 z)
        (goes_well h (insert a b d) (at_end s n) (house_of s n) ((v ∷ []) ∷ []) refl (refusal_is ∙ rw (q, f) refl)
        (vs_are ∙ rw f refl, λ c. ap triangles r.map_is, λ c. absurd (true_false (none_of (found (vertices_of s m) (point a b))) c (rw f refl)))
        (ap (λ (l : List ℕ). l ∷ []) (sym (found_renewed s m a b d v p r ∙ f)))) (stands_alike (end_alike s n z) r.standing)

    -- where none is
    module _ (f : found (vertices_of s m) (point a b) ≡ []) where
      no_room : leb s.vertices (length (vertices_of s m)) ≡ true → Answered s m h (insert a b d)
      unfolding machine machine_step core none_of
      no_room l =
          let full : vertices_in s m ≡ s.vertices = omega (arith, leb-true s.vertices (length (vertices_of s m)) l, vertices_length s m, at_most_below s.vertices (cell s header m vertex_count)) in
          answered s m h (insert a b d) 1 h (ran m [] 7)
          (runs_refused (machine s) m (said (insert a b d)) [] 0 m 7 (put_full s m a b d q e (law.full (nowhere s m a b f) full).0) (omega arith) (omega arith))
          (goes_refused h (insert a b d) m 7 refl (refusal_is ∙ rw (q, f, l) refl) (omega arith)) (stands_itself s m t)

      one_more : leb s.vertices (length (vertices_of s m)) ≡ false → Answered s m h (insert a b d)
      unfolding core none_of After vertices_after changes Shown inserted
      one_more l =
          let room : vertices_in s m < s.vertices = omega (arith, leb-false s.vertices (length (vertices_of s m)) l, vertices_length s m) in
          let i = law.new (nowhere s m a b f) room in
          let r : Added s m a b d n = i.1 d in
          let z : length n ≡ total s = standing_long s n r.standing in
          let v = vertices_in s m in
          answered s m h (insert a b d) 2 (house_of s n) (ran (at_end s n) ((v ∷ []) ∷ []) 0) (runs_shown s m a b d q e v i.0 z)
          (goes_well h (insert a b d) (at_end s n) (house_of s n) ((v ∷ []) ∷ []) refl (refusal_is ∙ rw (q, f, l) refl)
          (vertices_grown s m a b d r ∙ rw f refl, λ c. absurd (true_false (none_of (found (vertices_of s m) (point a b))) (rw f refl) c), λ c. standing_delaunay s n r.standing)
          (ap (λ (l : List ℕ). l ∷ []) (sym (found_grown s m a b d r f)))) (stands_alike (end_alike s n z) r.standing)

    by_number : (is : List ℕ) → found (vertices_of s m) (point a b) ≡ is → Answered s m h (insert a b d)
    by_number [] f = elim (cases_Bool (leb s.vertices (length (vertices_of s m)))) [ inl l ↦ no_room f l | inr l ↦ one_more f l ]
    by_number (v ∷ is) f = there_already v (f ∙ ap (λ (l : List ℕ). v ∷ l) (found_alone 0 (vertices_of s m) (point a b) v is f))

  pub insert_answered : Answered s m h (insert a b d)
  insert_answered = elim (cases_Bool (in_square s m a b d)) [ inl q ↦ by_number q (found (vertices_of s m) (point a b)) refl | inr q ↦ too_far q ]
