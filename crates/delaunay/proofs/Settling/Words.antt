-- The head and the word of one edge are written: nothing but the list changes, and of the words only that one.
use Rattle.std.proofs.Common.{◌≡◌, ℕ, ◌+◌, ◌*◌, ◌<◌, ◌≤◌, cond, eqb, ◌≢◌, List, [], ◌∷◌, length, refl, ap, ◌∙◌, arith}
use Rattle.std.proofs.Math.Path.{fun_ext}
use Rattle.std.proofs.lemmas.Bool.{eq-eqb, ne_eqb, cond-true, cond-false}
use Rattle.dcel.specs.Layout.{Size, header, worklist, total}
use Rattle.dcel.specs.Pairs.{changed}
use Rattle.dcel.specs.Mesh.{zero_bit, zero_count}
use Rattle.dcel.specs.Memory.{cell, put}
use Rattle.dcel.proofs.Cells.{cell_same, cell_other, length_put}
use Rattle.dcel.proofs.Counting.{changes, zero_count_most}
use Rattle.delaunay.specs.Worklist.{list_head}
use Rattle.delaunay.proofs.Settling.Beside.{SameButList}

-- how many edges are off the list
abbrev pub off_list : Size → List ℕ → ℕ
off_list s m = zero_count (cell s worklist m) (3 * s.vertices)

pub off_list_most : (s : Size) (m : List ℕ) → off_list s m ≤ 3 * s.vertices
off_list_most s m = zero_count_most (cell s worklist m) (3 * s.vertices)

-- n is m with the head h, and the word w at edge i
pub record Relinked (s : Size) (m : List ℕ) (i w h : ℕ) (n : List ℕ) : Type 0 where
  pub beside : SameButList s m n
  pub head_is : cell s header n list_head ≡ h
  pub word_is : cell s worklist n i ≡ w
  pub others_are : (j : ℕ) → j ≢ i → cell s worklist n j ≡ cell s worklist m j
  pub off_are : off_list s n + zero_bit (cell s worklist m i) ≡ off_list s m + zero_bit w

module _ (s : Size) (m : List ℕ) (z : total s ≤ length m) (i w h : ℕ) (r : i < 3 * s.vertices) where
  relinked : (n : List ℕ) → SameButList s m n → cell s header n list_head ≡ h → ((j : ℕ) → cell s worklist n j ≡ cond (eqb j i) w (cell s worklist m j)) → Relinked s m i w h n
  unfolding changed
  relinked n B q f = record {
    beside = B;
    head_is = q;
    word_is = f i ∙ cond-true (eqb i i) _ _ (eq-eqb i i refl);
    others_are = λ j p. f j ∙ cond-false (eqb j i) _ _ (ne_eqb j i p);
    off_are = off;
  }
    where
      words : cell s worklist n ≡ changed ((i, w) ∷ []) (cell s worklist m)
      words = fun_ext f

      off : off_list s n + zero_bit (cell s worklist m i) ≡ off_list s m + zero_bit w
      off = omega (arith, ap (λ (g : ℕ → ℕ). zero_count g (3 * s.vertices)) words, changes ((i, w) ∷ []) (cell s worklist m) (3 * s.vertices) (tt, tt) (r, tt))

  -- the word first
  abbrev with_word : List ℕ
  with_word = put s worklist m i w

  pub word_first : Relinked s m i w h (put s header with_word list_head h)
  word_first = relinked (put s header with_word list_head h) beside (head list_head) (λ j. cell_other s worklist header with_word list_head h j refl ∙ cell_same s worklist m i w j z r)
    where
      head : (j : ℕ) → cell s header (put s header with_word list_head h) j ≡ cond (eqb j list_head) h (cell s header m j)
      head j = cell_same s header with_word list_head h j (omega (arith, length_put s worklist m i w)) (omega arith) ∙ ap (cond (eqb j list_head) h) (cell_other s header worklist m i w j refl)

      beside : SameButList s m (put s header with_word list_head h)
      beside = record {
        long = length_put s header with_word list_head h ∙ length_put s worklist m i w;
        table_is = λ k a b j. cell_other s k header with_word list_head h j a ∙ cell_other s k worklist m i w j b;
        header_is = λ j q. head j ∙ cond-false (eqb j list_head) _ _ (ne_eqb j list_head q);
      }

  -- the head first
  abbrev with_head : List ℕ
  with_head = put s header m list_head h

  pub head_first : Relinked s m i w h (put s worklist with_head i w)
  head_first = relinked (put s worklist with_head i w) beside (head list_head)
      (λ j. cell_same s worklist with_head i w j (omega (arith, length_put s header m list_head h)) r ∙ ap (cond (eqb j i) w) (cell_other s worklist header m list_head h j refl))
    where
      head : (j : ℕ) → cell s header (put s worklist with_head i w) j ≡ cond (eqb j list_head) h (cell s header m j)
      head j = cell_other s header worklist with_head i w j refl ∙ cell_same s header m list_head h j z (omega arith)

      beside : SameButList s m (put s worklist with_head i w)
      beside = record {
        long = length_put s worklist with_head i w ∙ length_put s header m list_head h;
        table_is = λ k a b j. cell_other s k worklist with_head i w j b ∙ cell_other s k header m list_head h j a;
        header_is = λ j q. head j ∙ cond-false (eqb j list_head) _ _ (ne_eqb j list_head q);
      }
