-- All faces are shown, one after the other, and memory is left as it was, but for what the machine is at.
use Rattle.std.proofs.Common.{◌≡◌, ℕ, zero, suc, ◌+◌, ◌-◌, ◌<◌, ◌≤◌, true, false, ltb, List, [], ◌∷◌, ◌++◌, length, sym, refl, ap, ◌∙◌, ap₂, true≢false, append_assoc, append-nil, arith}
use mathlib.Core.Path.{fun_ext}
use Rattle.exact.specs.Plane.{each, up_to, Tri}
use Rattle.std.proofs.lemmas.Bool.{lt-ltb, le-ltb}
use Rattle.dcel.specs.Layout.{Size, header, total}
use Rattle.dcel.specs.Map.{Map}
use Rattle.dcel.specs.Memory.{cell, put, map_of, faces_in}
use Rattle.dcel.specs.Geometry.{face_tri, triangles}
use Rattle.dcel.proofs.Cells.{cell_same, length_put}
use Rattle.delaunay.specs.Kept.{Standing}
use Rattle.triangles.specs.House.{all_faces, rows_of, refusal, vertices_after, changes, After, Shown, core}
use Rattle.triangles.specs.Promise.{Event, said, next, shows, done, ran, runs}
use Rattle.triangles.specs.Machine.{mode, cursor, listing, does, at_end, row_of, next_face, going_on, machine_step, machine}
use Rattle.exact.proofs.Enumerations.{each_first}
use Rattle.triangles.proofs.Promises.Modes.{end_alike, Alike, alike_itself, alike_then, head_put, map_alike, standing_long}
use Rattle.triangles.proofs.Promises.Running.{runs_done, runs_shows}
use Rattle.triangles.proofs.Promises.Houses.{house_of, stands_alike, goes_well, Answered, answered}

-- with the number of the face that was shown last
abbrev at_face : Size → List ℕ → ℕ → List ℕ
at_face s m i = put s header (put s header m mode listing) cursor i

module _ (s : Size) (m : List ℕ) (z : length m ≡ total s) where
  abbrev M : Map
  M = map_of s m

  -- the faces after the first i, k of them
  abbrev rows_from : ℕ → ℕ → List (List ℕ)
  rows_from i k = rows_of (each (λ j. face_tri M (suc (i + j))) (up_to k))

  abbrev row_after : ℕ → List ℕ
  row_after i = row_of (face_tri M (i + 1))

  rows_first : (i k : ℕ) → rows_from i (suc k) ≡ row_of (face_tri M (i + 1)) ∷ rows_from (i + 1) k
  unfolding rows_of
  rows_first i k =
      let here : suc (i + 0) ≡ i + 1 = omega arith in
      ap rows_of (each_first (λ j. face_tri M (suc (i + j))) k)
      ∙ ap₂ (λ (f : ℕ) (l : ℕ → ℕ). row_of (face_tri M f) ∷ rows_of (each (λ j. face_tri M (l j)) (up_to k))) here (fun_ext (λ j. (let q : suc (i + suc j) ≡ suc (i + 1 + j) = omega arith in q)))

  -- what is left of the listing, from memory that differs in its modes alone
  pub record Listed (l : List ℕ) (v : Event) (ss : List (List ℕ)) (i k : ℕ) : Type 0 where
    pub memory : List ℕ
    pub alike : Alike s m memory
    pub runs_so : runs (suc k) (machine s) l v ss ≡ ran memory (ss ++ rows_from i k) 0

  module _ (l : List ℕ) (a : Alike s m l) where
    long : length l ≡ total s
    long = a.long ∙ z

    abbrev shown : ℕ → List ℕ
    shown i = at_face s l (i + 1)

    moded : length (put s header l mode listing) ≡ total s
    moded = length_put s header l mode listing ∙ long

    shown_alike : (i : ℕ) → Alike s m (shown i)
    shown_alike i =
        alike_then s m l (shown i) a (alike_then s l (put s header l mode listing) (shown i) (head_put s l mode listing (omega (arith, long)) (omega arith) (omega arith))
        (head_put s (put s header l mode listing) cursor (i + 1) (omega (arith, moded)) (omega arith) (omega arith)))

    faces_are : faces_in s l ≡ faces_in s m
    faces_are = ap (λ (x : Map). x.faces) (map_alike a)

    face_next : (i : ℕ) → i + 1 < faces_in s m → next_face s l i ≡ does (shown i) (shows (row_of (face_tri M (i + 1))))
    unfolding next_face
    face_next i h =
        let q : ltb (i + 1) (faces_in s l) ≡ true = lt-ltb (i + 1) (faces_in s l) (omega (arith, faces_are)) in
        rw q (ap (λ (x : Map). does (shown i) (shows (row_of (face_tri x (i + 1))))) (map_alike a))

    face_none : (i : ℕ) → faces_in s m ≤ i + 1 → next_face s l i ≡ does (at_end s l) done
    unfolding next_face
    face_none i h =
        let q : ltb (i + 1) (faces_in s l) ≡ false = le-ltb (i + 1) (faces_in s l) (omega (arith, faces_are)) in
        rw q refl

    goes_on : (i : ℕ) → going_on s (shown i) ≡ next_face s (shown i) (i + 1)
    unfolding going_on
    goes_on i =
        let p : cell s header (shown i) mode ≡ listing = cell_same s header (put s header l mode listing) cursor (i + 1) mode (omega (arith, moded)) (omega arith) ∙ cell_same s header l mode listing mode (omega (arith, long)) (omega arith) in
        let c : cell s header (shown i) cursor ≡ i + 1 = cell_same s header (put s header l mode listing) cursor (i + 1) cursor (omega (arith, moded)) (omega arith) in
        rw (p, c) refl

  -- one more row, ahead of the others
  one_listed : (l : List ℕ) (a : Alike s m l) (v : Event) (ss : List (List ℕ)) (i k : ℕ) → (machine s).step l v ≡ next_face s l i → i + 1 < faces_in s m →
      Listed (shown l a i) next (ss ++ row_after i ∷ []) (i + 1) k → Listed l v ss i (suc k)
  one_listed l a v ss i k e h r = record {
    memory = r.memory;
    alike = r.alike;
    runs_so =
        runs_shows (machine s) l v ss (suc k) (shown l a i) (row_after i) (e ∙ face_next l a i h) (omega arith) ∙ r.runs_so
        ∙ ap (λ (x : List (List ℕ)). ran r.memory x 0) (append_assoc ss (row_after i ∷ []) (rows_from (i + 1) k) ∙ ap (λ (x : List (List ℕ)). ss ++ x) (sym (rows_first i k)));
  }

  pub rows_listed : (k i : ℕ) → k ≡ faces_in s m - 1 - i → (l : List ℕ) → Alike s m l → (v : Event) → (machine s).step l v ≡ next_face s l i → (ss : List (List ℕ)) → Listed l v ss i k
  unfolding machine machine_step rows_of each up_to
  rows_listed zero i q l a v e ss = record {
    memory = at_end s l;
    alike = alike_then s m l (at_end s l) a (end_alike s l (long l a));
    runs_so = runs_done (machine s) l v ss 0 (at_end s l) (e ∙ face_none l a i (omega arith)) ∙ ap (λ (x : List (List ℕ)). ran (at_end s l) x 0) (sym (append-nil ss));
  }
  rows_listed (suc k) i q l a v e ss =
      one_listed l a v ss i k e (omega arith) (rows_listed k (i + 1) (omega arith) (shown l a i) (shown_alike l a i) next (goes_on l a i) (ss ++ row_after i ∷ []))

module _ (s : Size) (m : List ℕ) (t : Standing s m) where
  -- memory but for the modes, all rows, and no refusal
  pub record AllShown : Type 0 where
    pub fuel : ℕ
    pub memory : List ℕ
    pub alike : Alike s m memory
    pub runs_so : runs fuel (machine s) m (said all_faces) [] ≡ ran memory (rows_of (triangles (map_of s m))) 0

  pub all_shown : AllShown
  unfolding machine machine_step
  all_shown =
      let k : ℕ = faces_in s m - 1 in
      let r = rows_listed s m (standing_long s m t) k 0 (omega arith) m (alike_itself s m) (said all_faces) refl [] in
      let from_one : (λ (j : ℕ). face_tri (map_of s m) (suc (0 + j))) ≡ (λ (j : ℕ). face_tri (map_of s m) (suc j)) = fun_ext (λ j. ap (face_tri (map_of s m)) (let q : suc (0 + j) ≡ suc j = omega arith in q)) in
      record {
        fuel = suc k;
        memory = r.memory;
        alike = r.alike;
        runs_so = r.runs_so ∙ ap (λ (f : ℕ → Tri). ran r.memory (rows_of (each f (up_to k))) 0) from_one;
      }

  pub faces_answered : Answered s m (house_of s m) all_faces
  unfolding core refusal After vertices_after changes Shown
  faces_answered =
      let r = all_shown in
      answered s m (house_of s m) all_faces r.fuel (house_of s m) (ran r.memory (rows_of (triangles (map_of s m))) 0) r.runs_so
      (goes_well (house_of s m) all_faces r.memory (house_of s m) (rows_of (triangles (map_of s m))) refl refl (refl, λ e. refl, λ e. absurd (true≢false (sym e))) refl) (stands_alike r.alike t)
