-- What is known round a half edge of a sound map, and of the numbers that follow the last half edge.
use Rattle.std.proofs.Common.{◌≡◌, ℕ, ◌+◌, ◌-◌, ◌%◌, ◌<◌, ◌≢◌, sym, ap, ◌∙◌, subst, inl, inr, arith}
use Rattle.std.proofs.lemmas.Bool.{cases_lt}
use Rattle.dcel.specs.Map.{Map, twin}
use Rattle.dcel.specs.Mesh.{Among, Sound}
use Rattle.dcel.proofs.Twins.{twin_twin, twin_ne}

-- no half edge comes next to itself
pub not_itself : (m : Map) → Sound m → (e : ℕ) → e < m.half_edges → m.next e ≢ e
not_itself m S e h q = S.no_loop e h (sym (ap m.origin q) ∙ S.origin_next e h)

-- what is known round a half edge of an inner face
pub record InTriangle (m : Map) (e : ℕ) : Type 0 where
  pub in_e : e < m.half_edges
  pub next_in : m.next e < m.half_edges
  pub prev_in : m.prev e < m.half_edges
  pub next_next : m.next (m.next e) ≡ m.prev e
  pub next_prev : m.next (m.prev e) ≡ e
  pub prev_next : m.prev (m.next e) ≡ e
  pub prev_prev : m.prev (m.prev e) ≡ m.next e
  pub face_next : m.face (m.next e) ≡ m.face e
  pub face_prev : m.face (m.prev e) ≡ m.face e
  pub not_next : e ≢ m.next e
  pub not_prev : e ≢ m.prev e
  pub next_not_prev : m.next e ≢ m.prev e
  pub origin_next : m.origin (m.next e) ≡ m.origin (twin e)
  pub origin_prev : m.origin (m.prev e) ≡ m.origin (twin (m.next e))
  pub origin_here : m.origin e ≡ m.origin (twin (m.prev e))
  pub face_in : m.face e < m.faces
  pub edge_is : Among (m.edge (m.face e)) e (m.next e) (m.prev e)

pub in_triangle : (m : Map) → Sound m → (e : ℕ) → e < m.half_edges → m.face e ≢ 0 → InTriangle m e
in_triangle m S e h z =
    let next_in : m.next e < m.half_edges = S.next_in e h in
    let prev_in : m.prev e < m.half_edges = S.prev_in e h in
    let face_next : m.face (m.next e) ≡ m.face e = S.face_next e h in
    let next_prev : m.next (m.prev e) ≡ e = S.next_prev e h in
    let prev_next : m.prev (m.next e) ≡ e = S.prev_next e h in
    let face_prev : m.face (m.prev e) ≡ m.face e = sym (S.face_next (m.prev e) prev_in) ∙ ap m.face next_prev in
    let next_next : m.next (m.next e) ≡ m.prev e = sym (S.prev_next (m.next (m.next e)) (S.next_in _ next_in)) ∙ ap m.prev (S.three e h z) in
    let prev_prev : m.prev (m.prev e) ≡ m.next e = ap m.prev (sym next_next) ∙ S.prev_next (m.next e) next_in in
    record {
      in_e = h;
      next_in = next_in;
      prev_in = prev_in;
      next_next = next_next;
      next_prev = next_prev;
      prev_next = prev_next;
      prev_prev = prev_prev;
      face_next = face_next;
      face_prev = face_prev;
      not_next = λ q. not_itself m S e h (sym q);
      not_prev = λ q. not_itself m S e h (ap m.next q ∙ next_prev);
      next_not_prev = λ q. not_itself m S (m.next e) next_in (next_next ∙ sym q);
      origin_next = S.origin_next e h;
      origin_prev = ap m.origin (sym next_next) ∙ S.origin_next (m.next e) next_in;
      origin_here = ap m.origin (sym next_prev) ∙ S.origin_next (m.prev e) prev_in;
      face_in = S.face_in e h;
      edge_is = subst (λ x. Among (m.edge (m.face e)) e (m.next e) x) next_next (S.edge_of e h z);
    }

-- the twins of new pairs
pub record NewPairs (m : Map) : Type 0 where
  pub even : m.half_edges % 2 ≡ 0
  pub t0 : twin m.half_edges ≡ m.half_edges + 1
  pub t1 : twin (m.half_edges + 1) ≡ m.half_edges
  pub t2 : twin (m.half_edges + 2) ≡ m.half_edges + 3
  pub t3 : twin (m.half_edges + 3) ≡ m.half_edges + 2
  pub t4 : twin (m.half_edges + 4) ≡ m.half_edges + 5
  pub t5 : twin (m.half_edges + 5) ≡ m.half_edges + 4

pub new_pairs : (m : Map) → Sound m → NewPairs m
unfolding twin
new_pairs m S =
    let ev : m.half_edges % 2 ≡ 0 = elim (cases_lt 0 m.half_edges) [ inl p ↦ omega (arith, S.twin_in (m.half_edges - 1) (omega arith)) | inr p ↦ omega arith ] in
    record { even = ev; t0 = omega arith; t1 = omega arith; t2 = omega arith; t3 = omega arith; t4 = omega arith; t5 = omega arith }

-- what is known round any half edge
pub record Neighbours (m : Map) (e : ℕ) : Type 0 where
  pub in_e : e < m.half_edges
  pub next_in : m.next e < m.half_edges
  pub prev_in : m.prev e < m.half_edges
  pub next_prev : m.next (m.prev e) ≡ e
  pub prev_next : m.prev (m.next e) ≡ e
  pub face_next : m.face (m.next e) ≡ m.face e
  pub face_prev : m.face (m.prev e) ≡ m.face e
  pub origin_next : m.origin (m.next e) ≡ m.origin (twin e)
  pub origin_here : m.origin e ≡ m.origin (twin (m.prev e))
  pub face_in : m.face e < m.faces

pub neighbours : (m : Map) → Sound m → (e : ℕ) → e < m.half_edges → Neighbours m e
neighbours m S e h =
    let prev_in : m.prev e < m.half_edges = S.prev_in e h in
    let next_prev : m.next (m.prev e) ≡ e = S.next_prev e h in
    record {
      in_e = h;
      next_in = S.next_in e h;
      prev_in = prev_in;
      next_prev = next_prev;
      prev_next = S.prev_next e h;
      face_next = S.face_next e h;
      face_prev = sym (S.face_next (m.prev e) prev_in) ∙ ap m.face next_prev;
      origin_next = S.origin_next e h;
      origin_here = ap m.origin (sym next_prev) ∙ S.origin_next (m.prev e) prev_in;
      face_in = S.face_in e h;
    }

-- half edges of one face are among its three
pub same_face : (m : Map) → Sound m → (e g : ℕ) → e < m.half_edges → g < m.half_edges → m.face e ≢ 0 → m.face g ≡ m.face e → Among g e (m.next e) (m.prev e)
same_face m S e g h l z q =
    let k = in_triangle m S e h z in
    let r = in_triangle m S g l (λ w. z (sym q ∙ w)) in
    let x : m.edge (m.face g) ≡ m.edge (m.face e) = ap m.edge q in
    let next_prev = r.next_prev in
    let prev_next = r.prev_next in
    let prev_prev = r.prev_prev in
    let next_next = r.next_next in
    elim k.edge_is [
      | inl a ↦ elim r.edge_is [ inl b ↦ inl (cc) | inr w ↦ elim w [ inl b ↦ inr (inr (cc)) | inr b ↦ inr (inl (cc)) ] ]
      | inr v ↦ elim v [
        | inl a ↦ elim r.edge_is [ inl b ↦ inr (inl (cc)) | inr w ↦ elim w [ inl b ↦ inl (cc) | inr b ↦ inr (inr (cc)) ] ]
        | inr a ↦ elim r.edge_is [ inl b ↦ inr (inr (cc)) | inr w ↦ elim w [ inl b ↦ inr (inl (cc)) | inr b ↦ inl (cc) ] ]
      ]
    ]

-- so an inner half edge and its twin have two faces
pub two_faces : (m : Map) → Sound m → (e : ℕ) → e < m.half_edges → m.face e ≢ 0 → m.face (twin e) ≢ m.face e
two_faces m S e h z q =
    let k = in_triangle m S e h z in
    elim (same_face m S e (twin e) h (S.twin_in e h) z q) [
      | inl a ↦ twin_ne e a
      | inr v ↦ elim v [
        | inl a ↦ S.no_loop (m.prev e) k.prev_in (k.origin_prev ∙ ap (λ x. m.origin (twin x)) (sym a) ∙ ap m.origin (twin_twin e) ∙ k.origin_here)
        | inr a ↦ S.no_loop (m.next e) k.next_in (k.origin_next ∙ ap m.origin a ∙ k.origin_prev)
      ]
    ]

-- every half edge of a face is the face's own, its next or its next's next
pub face_three : (m : Map) → Sound m → (f e : ℕ) → 0 < f → f < m.faces → e < m.half_edges → m.face e ≡ f → Among e (m.edge f) (m.next (m.edge f)) (m.next (m.next (m.edge f)))
face_three m S f e p h l q =
    let i = S.edge_in f p h in
    let g = S.edge_face f p h in
    let z : m.face (m.edge f) ≢ 0 = λ r. omega arith in
    rw (in_triangle m S (m.edge f) i z).next_next (same_face m S (m.edge f) e i l z (q ∙ sym g))
