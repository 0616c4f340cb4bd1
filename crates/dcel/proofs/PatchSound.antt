-- A patch that fits keeps a map sound.
use Rattle.std.proofs.Common.{◌≡◌, ℕ, ◌<◌, ◌≢◌, sym, ap, ◌∙◌, subst, inl, inr, arith, ⊎_elim}
use Rattle.std.proofs.lemmas.Bool.{cases_lt}
use Rattle.dcel.specs.Pairs.{Source, Target}
use Rattle.dcel.specs.Map.{Map, twin}
use Rattle.dcel.specs.Mesh.{Among, Sound}
use Rattle.dcel.specs.Patch.{Patch}
use Rattle.dcel.proofs.Changes.{at_source, at_target, both, source?, target?}
use Rattle.dcel.proofs.Fits.{IsPatched, Relinks, Fits}
use Rattle.dcel.proofs.Twins.{twin_twin}

module _ (m n : Map) (S : Sound m) (p : Patch) (d : IsPatched m n p) (r : Relinks m p) (w : Fits m n p) where
  -- a place that no list has is old
  pub old_tail : (e : ℕ) → e < n.half_edges → (Source e p.links → ⊥) → e < m.half_edges
  old_tail e h f = elim (cases_lt e m.half_edges) [ inl l ↦ l | inr k ↦ absurd (f (w.new_edge e (omega arith) h).0) ]

  old_head : (e : ℕ) → e < n.half_edges → (Target e p.links → ⊥) → e < m.half_edges
  old_head e h f = elim (cases_lt e m.half_edges) [ inl l ↦ l | inr k ↦ absurd (f (w.new_edge e (omega arith) h).1) ]

  -- off the links, next leads to what keeps its prev
  next_head : (e : ℕ) → e < m.half_edges → (Source e p.links → ⊥) → Target (m.next e) p.links → ⊥
  next_head e h f v = f (subst (λ x. Source x p.links) (S.prev_next e h) ((at_target _ p.links r.heads (m.next e) v).1 (S.next_in e h)))

  prev_tail : (e : ℕ) → e < m.half_edges → (Target e p.links → ⊥) → Source (m.prev e) p.links → ⊥
  prev_tail e h f k = f (subst (λ x. Target x p.links) (S.next_prev e h) ((at_source _ p.links r.tails (m.prev e) k).1 (S.prev_in e h)))

  next_in : (e : ℕ) → e < n.half_edges → n.next e < n.half_edges
  next_in e h = ⊎_elim by off (source? e p.links)
    where
      by : Source e p.links → n.next e < n.half_edges
      by k = let x = at_source _ p.links (both _ _ p.links d.next_at w.link_in) e k in omega (arith, x.1.0, x.1.1.1)

      off : (Source e p.links → ⊥) → n.next e < n.half_edges
      off f = let o = old_tail e h f in omega (arith, d.next_off e f, S.next_in e o, w.half_edges_more)

  prev_in : (e : ℕ) → e < n.half_edges → n.prev e < n.half_edges
  prev_in e h = ⊎_elim by off (target? e p.links)
    where
      by : Target e p.links → n.prev e < n.half_edges
      by k = let x = at_target _ p.links (both _ _ p.links d.prev_at w.link_in) e k in omega (arith, x.1.0, x.1.1.0)

      off : (Target e p.links → ⊥) → n.prev e < n.half_edges
      off f = let o = old_head e h f in omega (arith, d.prev_off e f, S.prev_in e o, w.half_edges_more)

  prev_next : (e : ℕ) → e < n.half_edges → n.prev (n.next e) ≡ e
  prev_next e h = ⊎_elim by off (source? e p.links)
    where
      by : Source e p.links → n.prev (n.next e) ≡ e
      by k = let x = at_source _ p.links (both _ _ p.links d.next_at d.prev_at) e k in ap n.prev x.1.0 ∙ x.1.1

      off : (Source e p.links → ⊥) → n.prev (n.next e) ≡ e
      off f = let o = old_tail e h f in ap n.prev (d.next_off e f) ∙ d.prev_off (m.next e) (next_head e o f) ∙ S.prev_next e o

  next_prev : (e : ℕ) → e < n.half_edges → n.next (n.prev e) ≡ e
  next_prev e h = ⊎_elim by off (target? e p.links)
    where
      by : Target e p.links → n.next (n.prev e) ≡ e
      by k = let x = at_target _ p.links (both _ _ p.links d.prev_at d.next_at) e k in ap n.next x.1.0 ∙ x.1.1

      off : (Target e p.links → ⊥) → n.next (n.prev e) ≡ e
      off f = let o = old_head e h f in ap n.next (d.prev_off e f) ∙ d.next_off (m.prev e) (prev_tail e o f) ∙ S.next_prev e o

  -- off the links, origins and faces of e and of what comes next are as they were
  origin_old : (e : ℕ) → e < m.half_edges → (Source e p.links → ⊥) → n.origin (m.next e) ≡ n.origin (twin e)
  origin_old e o f =
      d.origin_off (m.next e) (λ k. f (subst (λ x. Source x p.links) (S.prev_next e o) ((at_source _ p.origins w.origin_fits (m.next e) k).1.1 (S.next_in e o)).0))
      ∙ S.origin_next e o
      ∙ sym (d.origin_off (twin e) (λ k. f (subst (λ x. Source x p.links) (twin_twin e) ((at_source _ p.origins w.origin_fits (twin e) k).1.1 (S.twin_in e o)).1)))

  pub face_old : (e : ℕ) → e < m.half_edges → (Source e p.links → ⊥) → n.face e ≡ m.face e
  face_old e o f = d.face_off e (λ k. f ((at_source _ p.sides w.side_fits e k).1.1 o).0)

  face_next_old : (e : ℕ) → e < m.half_edges → (Source e p.links → ⊥) → n.face (m.next e) ≡ m.face e
  face_next_old e o f =
      d.face_off (m.next e) (λ k. f (subst (λ x. Source x p.links) (S.prev_next e o) ((at_source _ p.sides w.side_fits (m.next e) k).1.1 (S.next_in e o)).1))
      ∙ S.face_next e o

  origin_next : (e : ℕ) → e < n.half_edges → n.origin (n.next e) ≡ n.origin (twin e)
  origin_next e h = ⊎_elim by off (source? e p.links)
    where
      by : Source e p.links → n.origin (n.next e) ≡ n.origin (twin e)
      by k = let x = at_source _ p.links (both _ _ p.links d.next_at w.ends) e k in ap n.origin x.1.0 ∙ x.1.1

      off : (Source e p.links → ⊥) → n.origin (n.next e) ≡ n.origin (twin e)
      off f = let o = old_tail e h f in ap n.origin (d.next_off e f) ∙ origin_old e o f

  face_next : (e : ℕ) → e < n.half_edges → n.face (n.next e) ≡ n.face e
  face_next e h = ⊎_elim by off (source? e p.links)
    where
      by : Source e p.links → n.face (n.next e) ≡ n.face e
      by k = let x = at_source _ p.links (both _ _ p.links d.next_at w.same_side) e k in ap n.face x.1.0 ∙ x.1.1

      off : (Source e p.links → ⊥) → n.face (n.next e) ≡ n.face e
      off f = let o = old_tail e h f in ap n.face (d.next_off e f) ∙ face_next_old e o f ∙ sym (face_old e o f)

  origin_in : (e : ℕ) → e < n.half_edges → n.origin e < n.vertices
  origin_in e h = ⊎_elim by off (source? e p.origins)
    where
      by : Source e p.origins → n.origin e < n.vertices
      by k = let x = at_source _ p.origins (both _ _ p.origins d.origin_at w.origin_fits) e k in omega (arith, x.1.0, x.1.1.0)

      off : (Source e p.origins → ⊥) → n.origin e < n.vertices
      off f = elim (cases_lt e m.half_edges) [ inl o ↦ omega (arith, d.origin_off e f, S.origin_in e o, w.vertices_more) | inr k ↦ absurd (f (w.new_edge e (omega arith) h).3) ]

  face_in : (e : ℕ) → e < n.half_edges → n.face e < n.faces
  face_in e h = ⊎_elim by off (source? e p.sides)
    where
      by : Source e p.sides → n.face e < n.faces
      by k = let x = at_source _ p.sides (both _ _ p.sides d.face_at w.side_fits) e k in omega (arith, x.1.0, x.1.1.0)

      off : (Source e p.sides → ⊥) → n.face e < n.faces
      off f = elim (cases_lt e m.half_edges) [ inl o ↦ omega (arith, d.face_off e f, S.face_in e o, w.faces_more) | inr k ↦ absurd (f (w.new_edge e (omega arith) h).2) ]

  -- off the links, in a face, the whole face is off the links
  next_off_too : (e : ℕ) → e < m.half_edges → m.face e ≢ 0 → (Source e p.links → ⊥) → Source (m.next e) p.links → ⊥
  next_off_too e o z f k =
      f (subst (λ x. Source x p.links) (S.prev_next e o) ((at_source _ p.links r.whole (m.next e) k).1 (S.next_in e o) (λ q. z (sym (S.face_next e o) ∙ q))))

  -- of such a half edge, all as it was
  pub record Stays (e : ℕ) : Type 0 where
    pub old : e < m.half_edges
    pub face_is : n.face e ≡ m.face e
    pub inner : m.face e ≢ 0
    pub once : n.next e ≡ m.next e
    pub twice : n.next (m.next e) ≡ m.next (m.next e)
    pub thrice : n.next (m.next (m.next e)) ≡ e
    pub off_1 : Source (m.next e) p.links → ⊥
    pub off_2 : Source (m.next (m.next e)) p.links → ⊥

  pub stays : (e : ℕ) → e < n.half_edges → n.face e ≢ 0 → (Source e p.links → ⊥) → Stays e
  stays e h z f =
      let o : e < m.half_edges = old_tail e h f in
      let s : n.face e ≡ m.face e = face_old e o f in
      let i : m.face e ≢ 0 = λ q. z (s ∙ q) in
      let o1 : m.next e < m.half_edges = S.next_in e o in
      let i1 : m.face (m.next e) ≢ 0 = λ q. i (sym (S.face_next e o) ∙ q) in
      let f1 : Source (m.next e) p.links → ⊥ = next_off_too e o i f in
      let f2 : Source (m.next (m.next e)) p.links → ⊥ = next_off_too (m.next e) o1 i1 f1 in
      record { old = o; face_is = s; inner = i; once = d.next_off e f; twice = d.next_off (m.next e) f1; thrice = d.next_off (m.next (m.next e)) f2 ∙ S.three e o i; off_1 = f1; off_2 = f2 }

  three : (e : ℕ) → e < n.half_edges → n.face e ≢ 0 → n.next (n.next (n.next e)) ≡ e
  three e h z = ⊎_elim by off (source? e p.links)
    where
      by : Source e p.links → n.next (n.next (n.next e)) ≡ e
      by k = let x = at_source _ p.links (both _ _ p.links d.next_at w.rounds) e k in ap (λ y. n.next (n.next y)) x.1.0 ∙ (x.1.1 z).0

      off : (Source e p.links → ⊥) → n.next (n.next (n.next e)) ≡ e
      off f = let s = stays e h z f in ap (λ y. n.next (n.next y)) s.once ∙ ap n.next s.twice ∙ s.thrice

  no_loop : (e : ℕ) → e < n.half_edges → n.origin e ≢ n.origin (twin e)
  no_loop e h q = elim (source? e p.origins) [
    | inl k ↦ (at_source _ p.origins w.loops e k).1 q
    | inr f ↦ elim (source? (twin e) p.origins) [ inl k ↦ (at_source _ p.origins w.loops (twin e) k).1 (sym (ap n.origin (twin_twin e) ∙ q)) | inr g ↦ off f g ]
  ]
    where
      off : (Source e p.origins → ⊥) → (Source (twin e) p.origins → ⊥) → ⊥
      off f g = elim (cases_lt e m.half_edges) [ inl o ↦ S.no_loop e o (sym (d.origin_off e f) ∙ q ∙ d.origin_off (twin e) g) | inr k ↦ f (w.new_edge e (omega arith) h).3 ]

  edge_in : (f : ℕ) → 0 < f → f < n.faces → n.edge f < n.half_edges
  edge_in f f0 h = ⊎_elim by off (source? f p.edges)
    where
      by : Source f p.edges → n.edge f < n.half_edges
      by k = let x = at_source _ p.edges (both _ _ p.edges d.edge_at w.edge_fits) f k in omega (arith, x.1.0, x.1.1.0)

      off : (Source f p.edges → ⊥) → n.edge f < n.half_edges
      off g = elim (cases_lt f m.faces) [ inl o ↦ omega (arith, d.edge_off f g, S.edge_in f f0 o, w.half_edges_more) | inr k ↦ absurd (g (w.new_face f (omega arith) h)) ]

  edge_face : (f : ℕ) → 0 < f → f < n.faces → n.face (n.edge f) ≡ f
  edge_face f f0 h = ⊎_elim by off (source? f p.edges)
    where
      by : Source f p.edges → n.face (n.edge f) ≡ f
      by k = let x = at_source _ p.edges (both _ _ p.edges d.edge_at w.edge_fits) f k in ap n.face x.1.0 ∙ x.1.1.1

      off_old : (Source f p.edges → ⊥) → f < m.faces → n.face (n.edge f) ≡ f
      off_old g o =
          let s : m.face (m.edge f) ≡ f = S.edge_face f f0 o in
          let z : m.face (m.edge f) ≢ 0 = omega arith in
          ap n.face (d.edge_off f g)
          ∙ d.face_off (m.edge f) (λ k. g (subst (λ x. Source x p.edges) s (((at_source _ p.sides w.side_fits (m.edge f) k).1.1 (S.edge_in f f0 o)).2 z)))
          ∙ s

      off : (Source f p.edges → ⊥) → n.face (n.edge f) ≡ f
      off g = elim (cases_lt f m.faces) [ inl o ↦ off_old g o | inr k ↦ absurd (g (w.new_face f (omega arith) h)) ]

  edge_of : (e : ℕ) → e < n.half_edges → n.face e ≢ 0 → Among (n.edge (n.face e)) e (n.next e) (n.next (n.next e))
  edge_of e h z = ⊎_elim by off (source? e p.links)
    where
      by : Source e p.links → Among (n.edge (n.face e)) e (n.next e) (n.next (n.next e))
      by k =
          let x = at_source _ p.links (both _ _ p.links d.next_at w.rounds) e k in
          subst (λ y. Among (n.edge (n.face e)) e y (n.next y)) (sym x.1.0) (x.1.1 z).1

      off : (Source e p.links → ⊥) → Among (n.edge (n.face e)) e (n.next e) (n.next (n.next e))
      off f =
          let s = stays e h z f in
          let a : Among (m.edge (m.face e)) e (m.next e) (m.next (m.next e)) = S.edge_of e s.old s.inner in
          let g : Source (m.face e) p.edges → ⊥ =
          λ k. let l : Source (m.edge (m.face e)) p.links = (at_source _ p.edges w.edge_fits (m.face e) k).1.2 (omega (arith, s.inner)) (S.face_in e s.old) in
          elim a [
            | inl q ↦ f (subst (λ x. Source x p.links) q l)
            | inr r ↦ elim r [ inl q ↦ s.off_1 (subst (λ x. Source x p.links) q l) | inr q ↦ s.off_2 (subst (λ x. Source x p.links) q l) ]
          ] in
          let c : n.edge (n.face e) ≡ m.edge (m.face e) = ap n.edge s.face_is ∙ d.edge_off (m.face e) g in
          let n1 = s.once in
          let n2 = s.twice in
          elim a [ inl q ↦ inl (cc) | inr r ↦ elim r [ inl q ↦ inr (inl (cc)) | inr q ↦ inr (inr (cc)) ] ]

  out_in : (v : ℕ) → v < n.vertices → n.out v < n.half_edges
  out_in v h = ⊎_elim by off (source? v p.outs)
    where
      by : Source v p.outs → n.out v < n.half_edges
      by k = let x = at_source _ p.outs (both _ _ p.outs d.out_at w.out_fits) v k in omega (arith, x.1.0, x.1.1.0)

      off : (Source v p.outs → ⊥) → n.out v < n.half_edges
      off g = elim (cases_lt v m.vertices) [ inl o ↦ omega (arith, d.out_off v g, S.out_in v o, w.half_edges_more) | inr k ↦ absurd (g (w.new_vertex v (omega arith) h)) ]

  out_origin : (v : ℕ) → v < n.vertices → n.origin (n.out v) ≡ v
  out_origin v h = ⊎_elim by off (source? v p.outs)
    where
      by : Source v p.outs → n.origin (n.out v) ≡ v
      by k = let x = at_source _ p.outs (both _ _ p.outs d.out_at w.out_fits) v k in ap n.origin x.1.0 ∙ x.1.1.1

      off_old : (Source v p.outs → ⊥) → v < m.vertices → n.origin (n.out v) ≡ v
      off_old g o =
          let s : m.origin (m.out v) ≡ v = S.out_origin v o in
          ap n.origin (d.out_off v g)
          ∙ d.origin_off (m.out v) (λ k. g (subst (λ x. Source x p.outs) s ((at_source _ p.origins w.origin_fits (m.out v) k).1.1 (S.out_in v o)).2))
          ∙ s

      off : (Source v p.outs → ⊥) → n.origin (n.out v) ≡ v
      off g = elim (cases_lt v m.vertices) [ inl o ↦ off_old g o | inr k ↦ absurd (g (w.new_vertex v (omega arith) h)) ]

  pub patched_sound : Sound n
  patched_sound = record { twin_in = w.twins; next_in = next_in; prev_in = prev_in; prev_next = prev_next; next_prev = next_prev; origin_in = origin_in; origin_next = origin_next; face_in = face_in; face_next = face_next; three = three; no_loop = no_loop; edge_in = edge_in; edge_face = edge_face; edge_of = edge_of; out_in = out_in; out_origin = out_origin }
