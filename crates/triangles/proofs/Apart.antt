-- Vertices stay apart: what one that comes, is replaced or goes leaves.
use Rattle.std.proofs.Common.{◌≡◌, ℕ, zero, suc, ◌+◌, ◌-◌, ◌<◌, ◌≤◌, Bool, true, false, not, ◌&&◌, eqb, ltb, List, [], ◌∷◌, ◌++◌, length, sym, refl, ap, ◌∙◌, subst, ap₂, inl, inr, arith}
use Rattle.std.proofs.lemmas.List.{length_push}
use Rattle.std.proofs.lemmas.Bool.{cases_lt, and_from, not-true, not_from_false, false_from_ne_true, eqb-true, ltb-true}
use Rattle.exact.specs.Plane.{pick, or, every, any, Point, point, Vertex, vertex, vertex_at, all_apart, same_spot}
use Rattle.exact.proofs.Booleans.{and_left, and_right, or_false→, or_false←, true_false}
use Rattle.exact.proofs.Vertices.{same_spot_swap, spot_whole}
use Rattle.triangles.specs.House.{insert, remove, locate, nearest, all_faces, around, hull, clear, found_from, found, refusal, set_nth, all_but_last, removed, inserted, vertices_after}
use Rattle.triangles.specs.Promise.{Plain, StayApart, ComeAndGone}
use Rattle.triangles.proofs.Rows.{set_last, but_last, none_snoc←, none_snoc→, none_set, every_snoc←, every_snoc→, every_set, Ends, ends, last_at, set_front}

pub come_and_gone : ComeAndGone
unfolding ComeAndGone
come_and_gone vs a b d h = ap all_but_last (set_last vs (vertex a b d) _) ∙ but_last vs _

-- ---- apart
abbrev pub taken : Point → List Vertex → Bool
taken p vs = any (λ u. same_spot u.at p) vs

taken_swap : (p : Point) (vs : List Vertex) → taken p vs ≡ false → any (λ u. same_spot p u.at) vs ≡ false
unfolding any
taken_swap p [] h = refl
taken_swap p (v ∷ vs) h =
    let q = or_false→ (same_spot v.at p) (taken p vs) h in
    or_false← (same_spot p v.at) (any (λ u. same_spot p u.at) vs) (false_from_ne_true (same_spot p v.at) (λ e. true_false (same_spot v.at p) (same_spot_swap p v.at e) q.0)) (taken_swap p vs q.1)

apart_snoc← : (vs : List Vertex) (x : Vertex) → all_apart vs ≡ true → taken x.at vs ≡ false → all_apart (vs ++ x ∷ []) ≡ true
unfolding all_apart any
apart_snoc← [] x h k = refl
apart_snoc← (v ∷ vs) x h k =
    let f = λ (u : Vertex). same_spot v.at u.at in let q = or_false→ (same_spot v.at x.at) (taken x.at vs) k in
    and_from (not (any f (vs ++ x ∷ []))) (all_apart (vs ++ x ∷ []))
    (not_from_false (any f (vs ++ x ∷ [])) (none_snoc← f vs x (not-true (any f vs) (and_left (not (any f vs)) (all_apart vs) h)) q.0))
    (apart_snoc← vs x (and_right (not (any f vs)) (all_apart vs) h) q.1)

apart_snoc→ : (vs : List Vertex) (x : Vertex) → all_apart (vs ++ x ∷ []) ≡ true → (all_apart vs ≡ true) × (taken x.at vs ≡ false)
unfolding all_apart any
apart_snoc→ [] x h = (refl, refl)
apart_snoc→ (v ∷ vs) x h =
    let f = λ (u : Vertex). same_spot v.at u.at in
    let a = none_snoc→ f vs x (not-true (any f (vs ++ x ∷ [])) (and_left (not (any f (vs ++ x ∷ []))) (all_apart (vs ++ x ∷ [])) h)) in
    let q = apart_snoc→ vs x (and_right (not (any f (vs ++ x ∷ []))) (all_apart (vs ++ x ∷ [])) h) in
    (and_from (not (any f vs)) (all_apart vs) (not_from_false (any f vs) a.0) q.0, or_false← (same_spot v.at x.at) (taken x.at vs) a.1 q.1)

apart_set : (vs : List Vertex) (i : ℕ) (x : Vertex) → all_apart vs ≡ true → taken x.at vs ≡ false → all_apart (set_nth vs i x) ≡ true
unfolding all_apart any set_nth
apart_set [] i x h k = refl
apart_set (v ∷ vs) zero x h k =
    let f = λ (u : Vertex). same_spot v.at u.at in let q = or_false→ (same_spot v.at x.at) (taken x.at vs) k in
    and_from (not (any (λ u. same_spot x.at u.at) vs)) (all_apart vs) (not_from_false (any (λ u. same_spot x.at u.at) vs) (taken_swap x.at vs q.1)) (and_right (not (any f vs)) (all_apart vs) h)
apart_set (v ∷ vs) (suc i) x h k =
    let f = λ (u : Vertex). same_spot v.at u.at in let q = or_false→ (same_spot v.at x.at) (taken x.at vs) k in
    and_from (not (any f (set_nth vs i x))) (all_apart (set_nth vs i x))
    (not_from_false (any f (set_nth vs i x)) (none_set f vs i x (not-true (any f vs) (and_left (not (any f vs)) (all_apart vs) h)) q.0))
    (apart_set vs i x (and_right (not (any f vs)) (all_apart vs) h) q.1)

-- ---- a vertex where one is already: nothing but data changes
module _ (x : Vertex) where
  any_same : (f : Point → Bool) (vs : List Vertex) (i : ℕ) → (vertex_at vs i).at ≡ x.at → any (λ u. f u.at) (set_nth vs i x) ≡ any (λ u. f u.at) vs
  unfolding any set_nth vertex_at
  any_same f [] i e = refl
  any_same f (v ∷ vs) zero e = ap (λ (p : Point). or (f p) (any (λ u. f u.at) vs)) (sym e)
  any_same f (v ∷ vs) (suc i) e = ap (λ (b : Bool). or (f v.at) b) (any_same f vs i e)

  every_same : (f : Point → Bool) (vs : List Vertex) (i : ℕ) → (vertex_at vs i).at ≡ x.at → every (λ u. f u.at) (set_nth vs i x) ≡ every (λ u. f u.at) vs
  unfolding every set_nth vertex_at
  every_same f [] i e = refl
  every_same f (v ∷ vs) zero e = ap (λ (p : Point). f p && every (λ u. f u.at) vs) (sym e)
  every_same f (v ∷ vs) (suc i) e = ap (λ (b : Bool). f v.at && b) (every_same f vs i e)

  apart_same : (vs : List Vertex) (i : ℕ) → (vertex_at vs i).at ≡ x.at → all_apart (set_nth vs i x) ≡ all_apart vs
  unfolding all_apart set_nth vertex_at
  apart_same [] i e = refl
  apart_same (v ∷ vs) zero e = ap (λ (p : Point). not (any (λ u. same_spot p u.at) vs) && all_apart vs) (sym e)
  apart_same (v ∷ vs) (suc i) e = ap₂ (λ (b c : Bool). not b && c) (any_same (same_spot v.at) vs i e) (apart_same vs i e)

-- where the first one at a spot stands
pub record Found (vs : List Vertex) (p : Point) (from i : ℕ) : Type 0 where
  pub j : ℕ
  pub is : i ≡ from + j
  pub in_range : j < length vs
  pub same : same_spot (vertex_at vs j).at p ≡ true

pub found_one : (from : ℕ) (vs : List Vertex) (p : Point) (i : ℕ) (is : List ℕ) → found_from from vs p ≡ i ∷ is → Found vs p from i
unfolding found_from vertex_at
found_one from [] p i is e = cc
found_one from (v ∷ vs) p i is e = at (same_spot v.at p) refl e (λ q. found_one (suc from) vs p i is q)
  where
    later : Found vs p (suc from) i → Found (v ∷ vs) p from i
    later r = record { j = suc r.j; is = omega (arith, r.is); in_range = omega (arith, r.in_range); same = r.same }

    at : (s : Bool) → same_spot v.at p ≡ s → pick s (from ∷ []) (found_from (suc from) vs p) ≡ i ∷ is → (found_from (suc from) vs p ≡ i ∷ is → Found vs p (suc from) i) → Found (v ∷ vs) p from i
    at true q e next = record { j = 0; is = let z : from ≡ i = cc in omega arith; in_range = omega arith; same = q }
    at false q e next = later (next e)

pub found_none : (from : ℕ) (vs : List Vertex) (p : Point) → found_from from vs p ≡ [] → taken p vs ≡ false
unfolding found_from any
found_none from [] p e = refl
found_none from (v ∷ vs) p e = at (same_spot v.at p) refl e (λ q. found_none (suc from) vs p q)
  where
    at : (s : Bool) → same_spot v.at p ≡ s → pick s (from ∷ []) (found_from (suc from) vs p) ≡ [] → (found_from (suc from) vs p ≡ [] → taken p vs ≡ false) → or (same_spot v.at p) (taken p vs) ≡ false
    at true q e next = cc
    at false q e next = or_false← (same_spot v.at p) (taken p vs) q (next e)

pub same_place : (q : Point) (a b : ℕ) → q.w ≡ 1 → same_spot q (point a b) ≡ true → q ≡ point a b
same_place q a b h e =
    let ex : q.x ≡ a = eqb-true q.x a (and_left (eqb q.x a) (eqb q.y b) e) in
    let ey : q.y ≡ b = eqb-true q.y b (and_right (eqb q.x a) (eqb q.y b) e) in
    λ k. record { x = ex k; y = ey k; w = h k }

abbrev one : Point → Bool
one p = eqb p.w 1

inserted_plain : (vs : List Vertex) (a b d : ℕ) → Plain vs → (is : List ℕ) → found vs (point a b) ≡ is → Plain (inserted vs is a b d)
unfolding inserted
inserted_plain vs a b d h [] e = (apart_snoc← vs (vertex a b d) h.0 (found_none 0 vs (point a b) e), every_snoc← (λ v. one v.at) vs (vertex a b d) h.1 refl)
inserted_plain vs a b d h (i ∷ is) e =
    let f = found_one 0 vs (point a b) i is e in
    let j_is : f.j ≡ i = omega (arith, f.is) in
    let s : (vertex_at vs i).at ≡ point a b = same_place (vertex_at vs i).at a b (spot_whole vs h.1 i) (rw (sym j_is) f.same) in
    (apart_same (vertex a b d) vs i s ∙ h.0, every_same (vertex a b d) one vs i s ∙ h.1)

-- ---- a vertex goes: the last one takes its place
gone : (vs : List Vertex) (u : Vertex) (i : ℕ) → Plain (vs ++ u ∷ []) → i ≤ length vs → Plain (all_but_last (set_nth (vs ++ u ∷ []) i u))
gone vs u i h l =
    let a = apart_snoc→ vs u h.0 in let w = every_snoc→ (λ v. one v.at) vs u h.1 in
    elim (cases_lt i (length vs)) [
      | inl lt ↦ subst Plain (sym (ap all_but_last (set_front vs i u u lt) ∙ but_last (set_nth vs i u) u)) (apart_set vs i u a.0 a.1, every_set (λ v. one v.at) vs i u w.0 w.1)
      | inr ge ↦
          let e : i ≡ length vs = omega arith in
          subst Plain (sym (ap (λ (k : ℕ). all_but_last (set_nth (vs ++ u ∷ []) k u)) e ∙ ap all_but_last (set_last vs u u) ∙ but_last vs u)) (a.0, w.0)
    ]

removed_plain : (vs : List Vertex) (i : ℕ) → Plain vs → i < length vs → Plain (removed vs i)
removed_plain [] i h l = absurd (omega arith)
removed_plain (v ∷ vs) i h l = from (ends v vs)
  where
    from : Ends (v ∷ vs) → Plain (removed (v ∷ vs) i)
    from e =
        let n : length (v ∷ vs) ≡ length e.front + 1 = ap length e.is ∙ length_push e.front e.last in
        let k : length (v ∷ vs) - 1 ≡ length e.front = omega arith in
        let at : vertex_at (v ∷ vs) (length (v ∷ vs) - 1) ≡ e.last = ap₂ (λ (l : List Vertex) (j : ℕ). vertex_at l j) e.is k ∙ last_at e.front e.last in
        subst Plain (sym (ap₂ (λ (l : List Vertex) (x : Vertex). all_but_last (set_nth l i x)) e.is at)) (gone e.front e.last i (subst Plain e.is h) (omega arith))

pub stay_apart : StayApart
unfolding StayApart vertices_after refusal all_apart every
stay_apart h (insert a b d) p r = inserted_plain h.vertices a b d p (found h.vertices (point a b)) refl
stay_apart h (remove i) p r = removed_plain h.vertices i p (at (ltb i (length h.vertices)) refl r)
  where
    at : (s : Bool) → ltb i (length h.vertices) ≡ s → ◌≡◌ {A = ℕ} (pick s 0 3) 0 → i < length h.vertices
    at true e z = ltb-true i (length h.vertices) e
    at false e z = absurd (omega arith)
stay_apart h (locate a b) p r = p
stay_apart h (nearest a b) p r = p
stay_apart h all_faces p r = p
stay_apart h (around i) p r = p
stay_apart h hull p r = p
stay_apart h clear p r = (refl, refl)
