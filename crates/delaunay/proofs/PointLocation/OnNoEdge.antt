-- A place outside, or on a line past its end, is on no segment between two vertices.
use Rattle.std.proofs.Common.{◌≡◌, ℕ, ◌<◌, ◌≤◌, inl, inr, arith}
use Rattle.std.proofs.lemmas.Int.{ints}
use Rattle.exact.specs.Plane.{Point}
use Rattle.exact.proofs.Algebra.Signs.{clash}
use Rattle.exact.proofs.Geometry.Words.{Site, Left, On, Apart, Between}
use Rattle.exact.proofs.Geometry.Identities.Sides.{start_on, end_on, orders}
use Rattle.exact.proofs.Geometry.Betweenness.{ends_right}
use Rattle.exact.proofs.Geometry.LineOrder.{Before, along_start, along_end, between_order, order_between}
use Rattle.dcel.specs.Map.{Map, twin}
use Rattle.dcel.specs.Mesh.{Sound}
use Rattle.dcel.specs.Geometry.{from, to, Geometric}
use Rattle.dcel.proofs.StrictlyBetween.{not_strictly_between→}
use Rattle.dcel.proofs.NoFace.{on_line}
use Rattle.dcel.proofs.Sites.{site, start, stop, outer_right, ends_apart}

module _ {pos : ℕ → Point} {m : Map} (S : Sound m) (G : Geometric pos m) (p : Site) (c d : ℕ) (hc : c < m.vertices) (hd : d < m.vertices) (k : Between (site G c) (site G d) p) (e : ℕ) (h : e < m.half_edges) where
  abbrev a : Site
  a = start G e

  abbrev b : Site
  b = stop G e

  pub not_outside : m.face e ≡ 0 → Left a b p → ⊥
  not_outside z l = clash l (ends_right (site G c) (site G d) p a b (outer_right G e h z c hc) (outer_right G e h z d hd) k)

  pub not_past : m.faces ≤ 1 → m.next e ≡ twin e → Between a p b → ⊥
  not_past flat end past = elim (between_order a b ab a p b (start_on a b) (end_on a b) past) [
    | inl f ↦ elim (between_order a b ab (site G c) (site G d) p (line c hc) on k) [ inl g ↦ beyond d hd f.0 f.1 g.1 | inr g ↦ beyond c hc f.0 f.1 g.1 ]
    | inr f ↦ let back = f.1 in omega (arith, ints, ab, along_start a b, along_end a b)
  ]
    where
      ab : Apart (start G e) (stop G e)
      ab = ends_apart S G e h

      line : (v : ℕ) → v < m.vertices → On (start G e) (stop G e) (site G v)
      line v l = on_line S flat G e h v l

      on : On (start G e) (stop G e) p
      on = omega (arith, ints, past.on, orders a b p)

      -- the end of the line would be between its neighbour and v
      beyond : (v : ℕ) → v < m.vertices → Before a b a b → Before a b b p → Before a b p (site G v) → ⊥
      beyond v l f g i =
          not_strictly_between→ (from pos m e) (pos v) (to pos m e) (G.ends flat e h end v l) (order_between a b ab a (site G v) b (start_on a b) (line v l) (end_on a b) f (omega (arith, ints)))
