-- Two edges that pass the vertical line through a place to the right, each with the other's ends on its left or on it: they begin at one place, or one begins strictly between the ends of the other.
use Rattle.std.proofs.Common.{true, ◌⊎◌, inl, inr, arith}
use Rattle.std.proofs.lemmas.Int.{ints}
use Rattle.exact.specs.Plane.{Point}
use Rattle.exact.proofs.Algebra.Signs.{Sign, weak, split}
use Rattle.exact.proofs.Geometry.Words.{W, Δx, Site, LeftOn, Same, Between}
use Rattle.exact.proofs.Geometry.Identities.Dots.{dist²_swap, Δx_site}
use Rattle.exact.proofs.Geometry.Sweep.{Before, After, same_start}

pub same_starts : (a b c d : Site) (x : Point) → Sign true (W x) → Before a x → After b x → Before c x → After d x →
    LeftOn a b c → LeftOn a b d → LeftOn c d a → LeftOn c d b → Same a c ⊎ (Between a b c ⊎ Between c d a)
same_starts a b c d x w la lb lc ld abc abd cda cdb = elim (split (Δx a.at c.at)) [
  | inl h ↦ elim (same_start a b c d x w la lb lc ld (weak h) abc cda cdb) [ inl s ↦ inl s | inr k ↦ inr (inl k) ]
  | inr h ↦ elim (same_start c d a b x w lc ld la lb (omega (arith, ints, Δx_site a c, Δx_site c a)) cda abc abd) [ inl s ↦ inl (same_swap s) | inr k ↦ inr (inr k) ]
]
  where
    same_swap : Same c a → Same a c
    same_swap s = rw (dist²_swap a.at c.at) s
