-- Where there is no room for another vertex, nothing is changed.
use Rattle.std.proofs.Common.{◌≡◌, ℕ, List, None}
use Rattle.exact.specs.Plane.{point}
use Rattle.dcel.specs.Layout.{Size}
use Rattle.delaunay.specs.Insert.{full_at, inserted, inserted_number}
use Rattle.delaunay.specs.Walk.{located}
use Rattle.delaunay.proofs.Listed.{pick_none}

pub refused_same : (s : Size) (m : List ℕ) (x y d : ℕ) → None ≡ inserted_number s m x y → inserted s m x y d ≡ m
unfolding inserted inserted_number
refused_same s m x y d e = pick_none (full_at s m (located s m (point x y))) m _ _ e
