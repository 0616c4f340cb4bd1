-- Two properties that the writing of words keeps: how long a memory is, and that all its words are below a limit.
use Rattle.std.proofs.Common.{◌≡◌, ℕ, zero, suc, ◌+◌, ◌*◌, ◌%◌, ◌<◌, Bool, true, false, cond, ltb, List, [], ◌∷◌, length, get_or, set, ◌∙◌, arith}
use Rattle.dcel.specs.Layout.{Size, Table, place, rows}
use Rattle.dcel.specs.Memory.{cell, put}
use Rattle.dcel.proofs.Twins.{twin_below}
use Rattle.dcel.proofs.Cells.{length_put}
use Rattle.dcel.proofs.Steady.Writes.{Keeping}

pub length_keeping : (s : Size) (n : ℕ) → Keeping s (λ m. length m ≡ n) (λ v. Unit {0})
length_keeping s n = record {
  written = λ k i {m} {v} p w. length_put s k m i v ∙ p;
  read = λ k i {m} p. tt;
  few = λ {n} h. tt;
  less = λ {a} {b} h w. tt;
  twinned = λ {e} w. tt;
}

module _ (limit : ℕ) where
  abbrev pub AllBelow : List ℕ → Type 0
  AllBelow [] = Unit {0}
  AllBelow (x ∷ xs) = (x < limit) × AllBelow xs

  set_below : (m : List ℕ) (i v : ℕ) → AllBelow m → v < limit → AllBelow (set m i v)
  set_below [] i v h b = tt
  set_below (x ∷ m) zero v h b = (b, h.1)
  set_below (x ∷ m) (suc i) v h b = (h.0, set_below m i v h.1 b)

  get_below : (m : List ℕ) (i : ℕ) → 0 < limit → AllBelow m → get_or m i 0 < limit
  get_below [] i z h = z
  get_below (x ∷ m) zero z h = h.0
  get_below (x ∷ m) (suc i) z h = get_below m i z h.1

  module _ (s : Size) where
    put_below : (k : Table) (m : List ℕ) (i v : ℕ) → AllBelow m → v < limit → AllBelow (put s k m i v)
    unfolding put
    put_below k m i v h b = by (ltb i (rows s k))
      where
        by : (t : Bool) → AllBelow (cond t (set m (place s k i) v) m)
        by true = set_below m (place s k i) v h b
        by false = h

    cell_below : (k : Table) (m : List ℕ) (i : ℕ) → 0 < limit → AllBelow m → cell s k m i < limit
    unfolding cell
    cell_below k m i z h = by (ltb i (rows s k))
      where
        by : (t : Bool) → cond t (get_or m (place s k i) 0) 0 < limit
        by true = get_below m (place s k i) z h
        by false = z

    -- the limit is even, and above the numbers of a mesh
    pub below_keeping : limit % 2 ≡ 0 → 6 * s.vertices + 6 < limit → Keeping s AllBelow (λ v. v < limit)
    below_keeping even above = record {
      written = λ k i {m} {v} p w. put_below k m i v p w;
      read = λ k i {m} p. cell_below k m i (omega arith) p;
      few = λ {n} h. omega arith;
      less = λ {a} {b} h w. omega arith;
      twinned = λ {e} w. twin_below limit e even w;
    }
