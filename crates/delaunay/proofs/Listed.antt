-- The list of edges to look at.
use Rattle.std.proofs.Common.{◌≡◌, ℕ, Bool, true, false, eqb, List, Some, None, sym, refl}
use Rattle.exact.specs.Plane.{pick}
use Rattle.dcel.specs.Layout.{Size}
use Rattle.delaunay.specs.Worklist.{head_of, first_listed, popped}
use Rattle.delaunay.specs.Legalize.{settle}

-- where the test that refuses a number passes, what it keeps is kept
pub pick_none : (b : Bool) (m n : List ℕ) (i : ℕ) → None ≡ pick b None (Some i) → pick b m n ≡ m
pick_none true m n i e = refl
pick_none false m n i e = cc

-- an empty list stays as it is
pub popped_none : (s : Size) (m : List ℕ) → None ≡ first_listed s m → popped s m ≡ m
unfolding first_listed popped
popped_none s m e = pick_none (eqb (head_of s m) 0) m _ _ e

pub settle_none : (s : Size) (m : List ℕ) → None ≡ first_listed s m → settle s m ≡ None
unfolding settle
settle_none s m e = rw (sym e) refl
