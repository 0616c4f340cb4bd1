-- The loop over a list of edges: with fuel of four times the volume and the length of the list it ends with nothing on the list and the map at rest.
use Rattle.std.proofs.Common.{◌≡◌, ℕ, zero, suc, ◌+◌, ◌*◌, ◌<◌, ◌≤◌, Bool, true, false, not, ◌&&◌, eqb, ◌≢◌, List, [], ◌∷◌, length, refl, inl, inr, arith}
use Rattle.exact.specs.Plane.{Point, pick}
use Rattle.std.proofs.lemmas.Bool.{not-true, eqb-true, eqb-false}
use Rattle.exact.proofs.Booleans.{and_left, and_right}
use Rattle.exact.proofs.Lists.{In}
use Rattle.dcel.specs.Map.{Map, twin}
use Rattle.dcel.specs.Mesh.{Sound, Mesh}
use Rattle.dcel.specs.Geometry.{Geometric, wrong, AtRest}
use Rattle.dcel.specs.Volume.{volume}
use Rattle.dcel.specs.Legal.{Ready, flip, illegal, with_sides, Work, legalize}
use Rattle.dcel.proofs.Legal.WrongEdge.{WrongEdge}
use Rattle.dcel.proofs.Legal.Steps.{nothing_listed, AllBut, take_off, Flipped, flipped}

-- ---- the test
pub illegal→ : (pos : ℕ → Point) (m : Map) (e : ℕ) → e < m.half_edges → illegal pos m e ≡ true → WrongEdge pos m e
unfolding illegal
illegal→ pos m e h t =
    let left? = not (eqb (m.face e) 0) in
    let right? = not (eqb (m.face (twin e)) 0) in
    let r = and_right left? (right? && wrong pos m e) t in
    record {
      in_e = h;
      left = eqb-false (m.face e) 0 (not-true (eqb (m.face e) 0) (and_left left? (right? && wrong pos m e) t));
      right = eqb-false (m.face (twin e)) 0 (not-true (eqb (m.face (twin e)) 0) (and_left right? (wrong pos m e) r));
      wrong_e = and_right right? (wrong pos m e) r;
    }

pub not_illegal→ : (pos : ℕ → Point) (m : Map) (e : ℕ) → illegal pos m e ≡ false → m.face e ≢ 0 → m.face (twin e) ≢ 0 → wrong pos m e ≡ false
unfolding illegal
not_illegal→ pos m e t z z' = go (eqb (m.face e) 0) (eqb (m.face (twin e)) 0) (wrong pos m e) refl refl t
  where
    go : (p q r : Bool) → eqb (m.face e) 0 ≡ p → eqb (m.face (twin e)) 0 ≡ q → not p && (not q && r) ≡ false → r ≡ false
    go true q r a b t = absurd (z (eqb-true (m.face e) 0 a))
    go false true r a b t = absurd (z' (eqb-true (m.face (twin e)) 0 b))
    go false false r a b t = t

-- ---- what the loop keeps, and how it ends
pub record Pending (pos : ℕ → Point) (m : Map) (Listed : ℕ → Type 0) : Type 0 where
  pub mesh : Mesh m
  pub geometric : Geometric pos m
  pub in_range : (e : ℕ) → Listed e → e < m.half_edges
  pub ready : Ready pos m Listed

pub record Legalized (pos : ℕ → Point) (m : Map) (r : Work) : Type 0 where
  pub done : r.todo ≡ []
  pub mesh : Mesh r.map
  pub geometric : Geometric pos r.map
  pub at_rest : AtRest pos r.map
  pub vertices_is : r.map.vertices ≡ m.vertices
  pub half_edges_is : r.map.half_edges ≡ m.half_edges
  pub faces_is : r.map.faces ≡ m.faces

abbrev pub OnList : List ℕ → ℕ → Type 0
OnList todo x = In x todo

at_end : (pos : ℕ → Point) (m : Map) → Pending pos m (OnList []) → Legalized pos m (record { map = m; todo = [] })
at_end pos m P = record { done = refl; mesh = P.mesh; geometric = P.geometric; at_rest = nothing_listed pos m P.ready; vertices_is = refl; half_edges_is = refl; faces_is = refl }

without_first : (e : ℕ) (todo : List ℕ) → AllBut (OnList (e ∷ todo)) e (OnList todo)
without_first e todo x p q (inl k) = absurd (p k)
without_first e todo x p q (inr k) = inl k

sides_first : (m : Map) (e : ℕ) (todo : List ℕ) → AllBut (OnList (e ∷ todo)) e (OnList (with_sides m e todo))
sides_first m e todo x p q (inl k) = absurd (p k)
sides_first m e todo x p q (inr k) = inl (inr (inr (inr (inr k))))

module _ (pos : ℕ → Point) (m : Map) (e : ℕ) (todo : List ℕ) (P : Pending pos m (OnList (e ∷ todo))) where
  right_off : illegal pos m e ≡ false → Pending pos m (OnList todo)
  right_off t = record {
    mesh = P.mesh;
    geometric = P.geometric;
    in_range = λ x k. P.in_range x (inr k);
    ready = take_off pos m P.geometric.whole (OnList (e ∷ todo)) (OnList todo) e (without_first e todo) (not_illegal→ pos m e t) P.ready;
  }

  wrong_flipped : (n : Map) → n.half_edges ≡ m.half_edges → Flipped pos m e n → Pending pos n (OnList (with_sides m e todo))
  wrong_flipped n same F = record {
    mesh = F.mesh;
    geometric = F.geometric;
    in_range = λ x k. omega (arith, in_old x k);
    ready = F.ready (OnList (e ∷ todo)) (OnList (with_sides m e todo)) (sides_first m e todo) (inl (inl refl)) (inl (inr (inl refl))) (inl (inr (inr (inl refl)))) (inl (inr (inr (inr (inl refl))))) P.ready;
  }
    where
      S : Sound m
      S = P.mesh.sound

      h : e < m.half_edges
      h = P.in_range e (inl refl)

      in_old : (x : ℕ) → In x (with_sides m e todo) → x < m.half_edges
      in_old x (inl q) = omega (arith, S.next_in e h)
      in_old x (inr (inl q)) = omega (arith, S.prev_in e h)
      in_old x (inr (inr (inl q))) = omega (arith, S.next_in (twin e) (S.twin_in e h))
      in_old x (inr (inr (inr (inl q)))) = omega (arith, S.prev_in (twin e) (S.twin_in e h))
      in_old x (inr (inr (inr (inr k)))) = P.in_range x (inr k)

of_flipped : (pos : ℕ → Point) (m : Map) (e : ℕ) (r : Work) → Legalized pos (flip m e) r → Legalized pos m r
of_flipped pos m e r L = record { done = L.done; mesh = L.mesh; geometric = L.geometric; at_rest = L.at_rest; vertices_is = L.vertices_is; half_edges_is = L.half_edges_is; faces_is = L.faces_is }

pub legalized : (pos : ℕ → Point) (fuel : ℕ) (m : Map) (todo : List ℕ) → Pending pos m (OnList todo) → 4 * volume pos m + length todo ≤ fuel → Legalized pos m (legalize pos fuel m todo)
unfolding legalize
legalized pos zero m [] P l = at_end pos m P
legalized pos zero m (e ∷ todo) P l = absurd (omega arith)
legalized pos (suc fuel) m [] P l = at_end pos m P
legalized pos (suc fuel) m (e ∷ todo) P l = go (illegal pos m e) refl (λ m todo P l. legalized pos fuel m todo P l)
  where
    go : (b : Bool) → illegal pos m e ≡ b → ((m : Map) (todo : List ℕ) → Pending pos m (OnList todo) → 4 * volume pos m + length todo ≤ fuel → Legalized pos m (legalize pos fuel m todo)) →
        Legalized pos m (pick b (legalize pos fuel (flip m e) (with_sides m e todo)) (legalize pos fuel m todo))
    go true t again =
        let F = flipped pos m P.mesh P.geometric e (illegal→ pos m e (P.in_range e (inl refl)) t) in
        of_flipped pos m e _ (again (flip m e) (with_sides m e todo) (wrong_flipped pos m e todo P (flip m e) refl F) (omega (arith, F.lower)))
    go false t again = again m todo (right_off pos m e todo P t) (omega arith)
