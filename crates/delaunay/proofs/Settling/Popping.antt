-- The first edge comes off the list, and nothing else changes.
use Rattle.std.proofs.Common.{◌≡◌, ℕ, ◌+◌, ◌-◌, ◌*◌, ◌≤◌, List, [], ◌∷◌, length, Some, None, sym, refl, ap, ◌∙◌, subst, inl, inr, arith, ⊎_elim}
use Rattle.std.proofs.lemmas.Bool.{eq-eqb, ne_eqb, cases_eq}
use Rattle.dcel.specs.Layout.{Size, header, worklist, total}
use Rattle.dcel.specs.Memory.{cell, put}
use Rattle.dcel.proofs.Counting.{zero_bit_zero, zero_bit_positive}
use Rattle.dcel.proofs.Becoming.{at_most_same}
use Rattle.delaunay.specs.Worklist.{list_head, head_of, first_listed, popped}
use Rattle.delaunay.specs.Kept.{Linked, AmongListed, Lists}
use Rattle.delaunay.proofs.Settling.Beside.{SameButList}
use Rattle.delaunay.proofs.Settling.Links.{head_room, listed_once, linked_same}
use Rattle.delaunay.proofs.Settling.Words.{off_list, Relinked, head_first}

-- n is m without the first of its list, which had l after it
pub record Takes (s : Size) (m l n : List ℕ) : Type 0 where
  pub lists : Lists s n l
  pub beside : SameButList s m n
  pub off_is : off_list s n ≡ off_list s m + 1

pub nothing_first : (s : Size) (m : List ℕ) → Lists s m [] → first_listed s m ≡ None
unfolding first_listed
nothing_first s m L =
    let h : head_of s m ≡ 0 = at_most_same _ _ (head_room s m _ [] L.linked) ∙ L.linked in
    rw (eq-eqb (head_of s m) 0 h) refl

module _ (s : Size) (m : List ℕ) (i : ℕ) (l : List ℕ) (L : Lists s m (i ∷ l)) where
  head_is : head_of s m ≡ i + 1
  head_is = at_most_same _ _ (head_room s m _ (i ∷ l) L.linked) ∙ L.linked.0

  pub first_is : first_listed s m ≡ Some (2 * i)
  unfolding first_listed
  first_is =
      let k : head_of s m - 1 ≡ i = omega (arith, head_is) in
      rw (ne_eqb (head_of s m) 0 (omega (arith, head_is)), k) refl

  abbrev after : ℕ
  after = cell s worklist m i - 1

  abbrev taken : List ℕ
  taken = put s worklist (put s header m list_head after) i 0

  popped_is : popped s m ≡ taken
  unfolding popped
  popped_is =
      let k : head_of s m - 1 ≡ i = omega (arith, head_is) in
      rw (ne_eqb (head_of s m) 0 (omega (arith, head_is)), k) refl

  takes : Relinked s m i 0 after taken → Takes s m l taken
  takes R = record {
    lists = record {
      linked = subst (λ (h : ℕ). Linked s taken h l) (sym R.head_is) rest;
      others = λ j f. elim (cases_eq j i) [ inl q ↦ ap (cell s worklist taken) q ∙ R.word_is | inr q ↦ R.others_are j q ∙ L.others j (⊎_elim q f) ];
    };
    beside = R.beside;
    off_is = omega (arith, R.off_are, zero_bit_zero, zero_bit_positive (cell s worklist m i) (omega (arith, L.linked.2.1)));
  }
    where
      on : Linked s m after l
      on = let k : L.linked.2.0 ≡ after = omega (arith, L.linked.2.1) in subst (λ (h : ℕ). Linked s m h l) k L.linked.2.2

      rest : Linked s taken after l
      rest = linked_same s m taken after l (λ j k. R.others_are j (λ q. listed_once s m after l i on (omega (arith, L.linked.2.1)) (subst (λ (x : ℕ). AmongListed x l) q k))) on

  pub takes_first : total s ≤ length m → Takes s m l (popped s m)
  takes_first z = subst (Takes s m l) (sym popped_is) (takes (head_first s m z i 0 after L.linked.1))
