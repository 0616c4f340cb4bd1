-- No place is strictly inside two faces, and what is strictly inside a face is in no other, not even on its border.
use Rattle.std.proofs.Common.{◌≡◌, ℕ, zero, suc, ◌-◌, ◌<◌, ◌≤◌, true, false, ap, arith}
use Rattle.exact.specs.Plane.{Point}
use Rattle.exact.proofs.Geometry.Words.{W_sign}
use Rattle.exact.proofs.Geometry.Moves.{toward, toward_place, reach, inside_stays, toward_centre}
use Rattle.dcel.specs.Map.{Map}
use Rattle.dcel.specs.Mesh.{Sound}
use Rattle.dcel.specs.Geometry.{from, to, apex, Geometric}
use Rattle.dcel.proofs.Fibres.{one_term}
use Rattle.dcel.proofs.Sites.{start, stop, third, face_left}
use Rattle.dcel.proofs.Tiling.Faces.{InFace, edge_inner, middle_of, middle_place}
use Rattle.dcel.proofs.Tiling.Balance.{excess, balance, inside_excess}
use Rattle.dcel.proofs.Tiling.Outside.{outer_back_≤1}

module _ {pos : ℕ → Point} {m : Map} (S : Sound m) (G : Geometric pos m) where
  pub never_two : (p : Point) → 1 ≤ p.w → (f g : ℕ) → 0 < f → f < m.faces → 0 < g → g < m.faces → InFace pos m true f p → InFace pos m true g p → f ≡ g
  never_two p pw zero g lf hf lg hg i j = absurd (omega arith)
  never_two p pw (suc f) zero lf hf lg hg i j = absurd (omega arith)
  never_two p pw (suc f) (suc g) lf hf lg hg i j =
      let w = W_sign p pw in
      ap suc (one_term (λ k. excess pos m p (suc k)) (m.faces - 1) f g (omega (arith, balance S G p w (omega arith), outer_back_≤1 S G (omega arith) p w))
      (omega arith) (omega arith) (inside_excess S G p w (suc f) lf hf i) (inside_excess S G p w (suc g) lg hg j))

  -- a little towards the middle of f it is strictly inside both
  pub never_in_two : (p : Point) → 1 ≤ p.w → (f g : ℕ) → 0 < f → f < m.faces → 0 < g → g < m.faces → InFace pos m false f p → InFace pos m true g p → f ≡ g
  never_in_two p pw f g lf hf lg hg i j =
      let e = m.edge f in let d = m.edge g in let he = S.edge_in f lf hf in let ze = edge_inner S f lf hf in
      let q = middle_of G e he ze in
      let n = reach (from pos m d) (to pos m d) (apex pos m d) q in
      never_two (toward n p q) (toward_place p q n (middle_place G e he ze)) f g lf hf lg hg
      (toward_centre (start G e) (stop G e) (third G e) (face_left G e he ze) p n i)
      (inside_stays (from pos m d) (to pos m d) (apex pos m d) q p n (omega arith) j)
