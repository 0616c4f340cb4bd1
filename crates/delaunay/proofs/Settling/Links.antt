-- Edges linked from a head on: none is there twice.
use Rattle.std.proofs.Common.{◌≡◌, ℕ, ◌+◌, ◌*◌, ◌<◌, ◌≤◌, ◌≢◌, ◌⊎◌, List, [], ◌∷◌, length, sym, refl, ap, ◌∙◌, subst, inl, inr, arith, ⊎_elim}
use Rattle.std.proofs.lemmas.Bool.{cases_eq}
use Rattle.dcel.specs.Layout.{Size, header, worklist}
use Rattle.dcel.specs.Patch.{Patch}
use Rattle.dcel.specs.Memory.{cell}
use Rattle.dcel.specs.Holds.{Sites, Rewritten}
use Rattle.delaunay.specs.Worklist.{list_head}
use Rattle.delaunay.specs.Kept.{Linked, AmongListed, Lists}

pub listed? : (i : ℕ) (l : List ℕ) → AmongListed i l ⊎ (AmongListed i l → ⊥)
listed? i [] = inr (λ k. k)
listed? i (j ∷ l) = elim (cases_eq i j) [
  | inl q ↦ inl (inl q)
  | inr q ↦ elim (listed? i l) [ inl k ↦ inl (inr k) | inr f ↦ inr (⊎_elim q f) ]
]

module _ (s : Size) (m : List ℕ) where
  pub head_room : (h : ℕ) (l : List ℕ) → Linked s m h l → h ≤ 3 * s.vertices
  head_room h [] L = omega arith
  head_room h (i ∷ l) L = omega (arith, L.0, L.1)

  pub listed_room : (h : ℕ) (l : List ℕ) (i : ℕ) → Linked s m h l → AmongListed i l → i < 3 * s.vertices
  listed_room h [] i L k = absurd k
  listed_room h (j ∷ l) i L (inl q) = omega (arith, L.1)
  listed_room h (j ∷ l) i L (inr k) = listed_room L.2.0 l i L.2.2 k

  -- what is on the list has a word that is not 0
  pub listed_word : (h : ℕ) (l : List ℕ) (i : ℕ) → Linked s m h l → AmongListed i l → cell s worklist m i ≢ 0
  listed_word h [] i L k z = absurd k
  listed_word h (j ∷ l) i L (inl q) z = let w : cell s worklist m i ≡ cell s worklist m j = ap (cell s worklist m) q in omega (arith, L.2.1)
  listed_word h (j ∷ l) i L (inr k) z = listed_word L.2.0 l i L.2.2 k z

  -- a head has one list
  same_length : (h g : ℕ) (l r : List ℕ) → h ≡ g → Linked s m h l → Linked s m g r → length l ≡ length r
  same_length h g [] [] q L R = refl
  same_length h g [] (j ∷ r) q L R = absurd (omega (arith, R.0))
  same_length h g (i ∷ l) [] q L R = absurd (omega (arith, L.0))
  same_length h g (i ∷ l) (j ∷ r) q L R =
      let ij : i ≡ j = omega (arith, L.0, R.0) in
      let w : cell s worklist m i ≡ cell s worklist m j = ap (cell s worklist m) ij in
      let rest = same_length L.2.0 R.2.0 l r (omega (arith, L.2.1, R.2.1)) L.2.2 R.2.2 in
      omega arith

  -- from an edge on, a shorter list
  from_listed : (h : ℕ) (l : List ℕ) (i k : ℕ) → Linked s m h l → AmongListed i l → cell s worklist m i ≡ k + 1 → (r : List ℕ) × Linked s m k r × (length r < length l)
  from_listed h [] i k L a w = absurd a
  from_listed h (j ∷ l) i k L (inl q) w =
      let v : cell s worklist m i ≡ cell s worklist m j = ap (cell s worklist m) q in
      let e : L.2.0 ≡ k = omega (arith, L.2.1) in
      (l, subst (λ (x : ℕ). Linked s m x l) e L.2.2, omega arith)
  from_listed h (j ∷ l) i k L (inr a) w = let r = from_listed L.2.0 l i k L.2.2 a w in (r.0, r.1, omega (arith, r.2))

  -- what an edge leads on to does not come back to it
  pub listed_once : (k : ℕ) (l : List ℕ) (i : ℕ) → Linked s m k l → cell s worklist m i ≡ k + 1 → AmongListed i l → ⊥
  listed_once k l i L w a = let r = from_listed k l i k L a w in omega (arith, same_length k k l r.0 refl L r.1, r.2)

module _ (s : Size) (m n : List ℕ) where
  -- the words of a list's edges alone count
  pub linked_same : (h : ℕ) (l : List ℕ) → ((i : ℕ) → AmongListed i l → cell s worklist n i ≡ cell s worklist m i) → Linked s m h l → Linked s n h l
  linked_same h [] f L = L
  linked_same h (i ∷ l) f L = (L.0, L.1, (L.2.0, f i (inl refl) ∙ L.2.1, linked_same L.2.0 l (λ j k. f j (inr k)) L.2.2))

  pub lists_same : (l : List ℕ) → cell s header n list_head ≡ cell s header m list_head → ((i : ℕ) → cell s worklist n i ≡ cell s worklist m i) → Lists s m l → Lists s n l
  lists_same l q f L = record {
    linked = subst (λ (h : ℕ). Linked s n h l) (sym q) (linked_same (cell s header m list_head) l (λ i k. f i) L.linked);
    others = λ i g. f i ∙ L.others i g;
  }

-- a surgery leaves the list
pub lists_rewritten : (s : Size) (m : List ℕ) (p : Patch) (t : Sites) (n l : List ℕ) → Rewritten s m p t n → Lists s m l → Lists s n l
lists_rewritten s m p t n l W L = lists_same s m n l (W.header_is list_head (omega arith)) W.worklist_is L
