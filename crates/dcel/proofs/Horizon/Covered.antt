-- Old outer half edges that the new vertex sees: those that have a face by now, and those that are outer still.
use Rattle.std.proofs.Common.{◌≡◌, ℕ, ◌<◌, ◌≢◌, sym, ◌∙◌, inl, inr, arith}
use Rattle.exact.specs.Plane.{Point}
use Rattle.dcel.specs.Map.{Map}
use Rattle.dcel.specs.Surgery.{Outer}
use Rattle.dcel.proofs.Horizon.EarClosed.{EarClosed, StillOuter, ear_keeps, outer_then}
use Rattle.dcel.proofs.Horizon.Grown.{Grown}
use Rattle.dcel.proofs.Horizon.Rim.{Seen}

-- x was outer and seen from the new vertex, and has a face now
pub record Covered (pos : ℕ → Point) (m₀ m : Map) (x : ℕ) : Type 0 where
  pub was : Outer m₀ x
  pub seen : Seen pos m₀ x m₀.vertices
  pub inner : m.face x ≢ 0

-- after an ear
module _ {pos : ℕ → Point} {m₀ m n : Map} {e : ℕ} (g : Grown pos m₀ m) (K : EarClosed m n e) where
  pub still_covered : (x : ℕ) → Covered pos m₀ m x → Covered pos m₀ n x
  still_covered x c = record { was = c.was; seen = c.seen; inner = λ z. c.inner (sym (ear_keeps K x (omega (arith, c.was.in_e, g.half_edges_more)) c.inner).face_kept ∙ z) }

  pub still_outer : (x : ℕ) → x < m₀.half_edges → n.face x ≡ 0 → StillOuter K x
  still_outer x l z = elim (outer_then K x (omega (arith, g.half_edges_more, K.is.half_edges_is)) z) [ inl q ↦ absurd (omega (arith, g.half_edges_more)) | inr k ↦ k ]
