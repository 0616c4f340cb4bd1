-- The two halves of an edge.
use Rattle.std.proofs.Common.{◌≡◌, ℕ, ◌%◌, ◌<◌, ◌≢◌, arith}
use Rattle.dcel.specs.Map.{twin}

pub twin_twin : (e : ℕ) → twin (twin e) ≡ e
unfolding twin
twin_twin e = omega arith

pub twin_ne : (e : ℕ) → twin e ≢ e
unfolding twin
twin_ne e = omega arith

pub twin_below : (z e : ℕ) → z % 2 ≡ 0 → e < z → twin e < z
unfolding twin
twin_below z e p h = omega arith

-- twins of different half edges are different
pub twin_apart : (x y : ℕ) → x ≢ y → twin x ≢ twin y
unfolding twin
twin_apart x y h q = omega arith
