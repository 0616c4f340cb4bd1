-- Edges that come on the list: just those, each once, and nothing else changes.
use Rattle.std.proofs.Common.{◌≡◌, ℕ, ◌+◌, ◌*◌, ◌/◌, ◌<◌, ◌≤◌, ◌≢◌, ◌⊎◌, List, [], ◌∷◌, ◌++◌, length, sym, refl, ap, ◌∙◌, subst, inl, inr, arith, length-append}
use Rattle.std.proofs.lemmas.Bool.{eq-eqb, ne_eqb, cases_eq}
use Rattle.exact.proofs.Lists.{In, in_left, in_right, in_append}
use Rattle.dcel.specs.Layout.{Size, header, worklist, edge_next, edge_prev, total}
use Rattle.dcel.specs.Memory.{cell, map_of, half_edges_in}
use Rattle.dcel.specs.Holds.{Holds}
use Rattle.dcel.proofs.Counting.{zero_bit_is}
use Rattle.dcel.proofs.Becoming.{at_most_same, at_most_below}
use Rattle.delaunay.specs.Worklist.{list_head, head_of, pushed, pushed_face}
use Rattle.delaunay.specs.Kept.{Linked, AmongListed, Lists}
use Rattle.delaunay.proofs.Settling.Beside.{SameButList, same_list, same_list_then}
use Rattle.delaunay.proofs.Settling.Links.{listed?, head_room, listed_word, linked_same}
use Rattle.delaunay.proofs.Settling.Words.{off_list, Relinked, word_first}

-- n is m with the edges of some half edges on the list too
pub record Adds (s : Size) (m : List ℕ) (l : List ℕ) (es : List ℕ) (n : List ℕ) : Type 0 where
  pub list : List ℕ
  pub lists : Lists s n list
  pub beside : SameButList s m n
  pub old : (i : ℕ) → AmongListed i l → AmongListed i list
  pub new : (e : ℕ) → In e es → AmongListed (e / 2) list
  pub only : (i : ℕ) → AmongListed i list → AmongListed i l ⊎ ((e : ℕ) × In e es × (i ≡ e / 2))
  pub off_most : off_list s m ≤ off_list s n + length es

module _ (s : Size) where
  pub adds_none : (m l : List ℕ) → Lists s m l → Adds s m l [] m
  adds_none m l L = record { list = l; lists = L; beside = same_list s m; old = λ i k. k; new = λ e k. absurd k; only = λ i k. inl k; off_most = omega arith }

  pub adds_then : (m l es n fs o : List ℕ) (A : Adds s m l es n) → Adds s n A.list fs o → Adds s m l (fs ++ es) o
  adds_then m l es n fs o A B = record {
    list = B.list;
    lists = B.lists;
    beside = same_list_then s m n o A.beside B.beside;
    old = λ i k. B.old i (A.old i k);
    new = λ e k. elim (in_append e fs es k) [ inl a ↦ B.new e a | inr a ↦ B.old (e / 2) (A.new e a) ];
    only = λ i k. elim (B.only i k) [ inl a ↦ before i (A.only i a) | inr a ↦ inr (a.0, in_left a.0 fs es a.1, a.2) ];
    off_most = omega (arith, A.off_most, B.off_most, length-append fs es);
  }
    where
      before : (i : ℕ) → AmongListed i l ⊎ ((e : ℕ) × In e es × (i ≡ e / 2)) → AmongListed i l ⊎ ((e : ℕ) × In e (fs ++ es) × (i ≡ e / 2))
      before i (inl a) = inl a
      before i (inr a) = inr (a.0, in_right a.0 fs es a.1, a.2)

  -- one edge: its word says whether it is there already
  module _ (m l : List ℕ) (e : ℕ) (z : total s ≤ length m) (L : Lists s m l) (r : e / 2 < 3 * s.vertices) where
    there : cell s worklist m (e / 2) ≢ 0 → Adds s m l (e ∷ []) m
    there q = record {
      list = l;
      lists = L;
      beside = same_list s m;
      old = λ i k. k;
      new = λ f k. elim k [ inl p ↦ subst (λ (x : ℕ). AmongListed (x / 2) l) (sym p) listed | inr a ↦ absurd a ];
      only = λ i k. inl k;
      off_most = omega arith;
    }
      where
        listed : AmongListed (e / 2) l
        listed = elim (listed? (e / 2) l) [ inl k ↦ k | inr f ↦ absurd (q (L.others (e / 2) f)) ]

    comes : (n : List ℕ) → cell s worklist m (e / 2) ≡ 0 → Relinked s m (e / 2) (head_of s m + 1) (e / 2 + 1) n → Adds s m l (e ∷ []) n
    comes n q R = record {
      list = e / 2 ∷ l;
      lists = record {
        linked = (R.head_is, r, (cell s header m list_head, R.word_is ∙ ap (λ (k : ℕ). k + 1) (at_most_same _ _ (head_room s m _ l L.linked)), rest));
        others = λ i f. R.others_are i (λ p. f (inl p)) ∙ L.others i (λ k. f (inr k));
      };
      beside = R.beside;
      old = λ i k. inr k;
      new = λ f k. elim k [ inl p ↦ inl (ap (λ (x : ℕ). x / 2) p) | inr a ↦ absurd a ];
      only = λ i k. elim k [ inl p ↦ inr (e, inl refl, p) | inr a ↦ inl a ];
      off_most = omega (arith, R.off_are, zero_bit_is (cell s worklist m (e / 2)) q);
    }
      where
        rest : Linked s n (cell s header m list_head) l
        rest = linked_same s m n _ l (λ i k. R.others_are i (λ p. listed_word s m _ l i L.linked k (ap (cell s worklist m) p ∙ q))) L.linked

    pub adds_edge : Adds s m l (e ∷ []) (pushed s m e)
    unfolding pushed
    adds_edge = elim (cases_eq (cell s worklist m (e / 2)) 0) [
      | inl q ↦ rw (eq-eqb (cell s worklist m (e / 2)) 0 q) (comes _ q (word_first s m z (e / 2) (head_of s m + 1) (e / 2 + 1) r))
      | inr q ↦ rw (ne_eqb (cell s worklist m (e / 2)) 0 q) (there q)
    ]

  -- one more
  module _ (m l es n : List ℕ) (H : Holds s m) (A : Adds s m l es n) where
    pub add_edge : (e : ℕ) → e < half_edges_in s m → Adds s m l (e ∷ es) (pushed s n e)
    add_edge e h = adds_then m l es n (e ∷ []) (pushed s n e) A
        (adds_edge n A.list e (omega (arith, A.beside.long, H.long)) A.lists (omega (arith, at_most_below (6 * s.vertices) (cell s header m 1))))

  -- the three edges of a face
  pub add_face : (m l es n : List ℕ) → Holds s m → Adds s m l es n → (e : ℕ) → e < half_edges_in s m → Adds s m l ((map_of s m).prev e ∷ (map_of s m).next e ∷ e ∷ es) (pushed_face s n e)
  unfolding pushed_face
  add_face m l es n H A e h =
      let q = (map_of s m).next e in
      let p = (map_of s m).prev e in
      let B = add_edge m l es n H A e h in
      let C = add_edge m l (e ∷ es) (pushed s n e) H B q (H.mesh.sound.next_in e h) in
      let D = add_edge m l (q ∷ e ∷ es) (pushed s (pushed s n e) q) H C p (H.mesh.sound.prev_in e h) in
      rw (A.beside.table_is edge_next refl refl e, A.beside.table_is edge_prev refl refl e) D
