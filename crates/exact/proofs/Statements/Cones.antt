-- Two triangles a b c and a g h at one corner: where b is to the cone of g and h, and a place strictly inside both.
use Rattle.std.proofs.Common.{ℕ, ◌+◌, ◌≤◌, true, ◌*ℤ◌, neg_ℤ, sym, ap, ◌∙◌, arith}
use Rattle.std.proofs.lemmas.Int.{ints}
use Rattle.exact.specs.Plane.{Point}
use Rattle.exact.proofs.Algebra.Signs.{Sign, ◌⊙◌, ◌by◌, weak, clash_below, clash_zero, zero_sign, left_zero, right_zero, cancel}
use Rattle.exact.proofs.Geometry.Words.{Within, Site, Orient, Left, Right, LeftOn, On, InTriangle, signs}
use Rattle.exact.proofs.Geometry.Identities.Sides.{turn, start_on, end_on, weigh_line, three_terms, swap}
use Rattle.exact.proofs.Geometry.Moves.{toward, on_moves, left_stays, inside_stays, reach, reach_bc, reach_ca}

module _ (a b c g h : Site) (abc : Left a b c) (agh : Left a g h) where
  -- b is on the ray from a to h and beyond it
  pub on_ray : On h a b → Left a g b → Right g h b → InTriangle a b c h
  on_ray hab agb ghb =
      let bca : Left b c a = abc by sym (turn a b c) in let cab : Left c a b = abc by turn c a b in
      let z₁ = left_zero (Orient h a b) (Orient b c g) hab in let z₂ = left_zero (Orient h a b) (Orient c a g) hab in
      let e₁ = right_zero (Orient a g h) (Orient b c b) (start_on b c) in let e₂ = right_zero (Orient g h b) (Orient c a a) (end_on c a) in
      let s₁ : Sign true (neg_ℤ (Orient g h b *ℤ Orient b c a)) = search signs in let s₂ : Sign true (Orient a g h *ℤ Orient c a b) = search signs in
      let p : Sign true (Orient a g b *ℤ Orient b c h) = omega (arith, ints, weigh_line a g h b c b.at) in
      let q : Sign true (Orient a g b *ℤ Orient c a h) = omega (arith, ints, weigh_line a g h c a b.at) in
      record { ab = zero_sign (sym (turn h a b) ∙ hab); bc = weak (cancel agb p); ca = weak (cancel agb q) }

  -- b is not at a
  pub not_both : On h a b → On a g b → ⊥
  not_both hab agb =
      let z₁ = left_zero (Orient a g b) (Orient a h c) agb in let z₂ = right_zero (Orient a g c) (Orient a h b) (swap a h b ∙ ap neg_ℤ hab) in
      clash_zero (agh ⊙ abc) (omega (arith, ints, three_terms a g h b c))

  -- g is on the ray from a to b, and v is right of it
  pub not_right : (v : Site) → Left h a b → On a g b → LeftOn a g v → Right a b v → ⊥
  not_right v hab agb agv abv =
      let ahb : Right a h b = hab by sym (swap h a b) in
      clash_below (Orient a b v) (cancel agh (search signs by three_terms a g h b v)) abv

  -- b is strictly in the cone of g and h: a place strictly inside both
  module _ (hab : Left h a b) (agb : Left a g b) where
    abbrev pub n₁ : ℕ
    n₁ = reach a.at g.at h.at b.at + reach a.at b.at c.at b.at

    abbrev pub n₂ : ℕ
    n₂ = reach a.at g.at h.at c.at + reach a.at b.at c.at c.at

    abbrev pub near_edge : Point
    near_edge = toward n₁ a.at b.at

    abbrev pub common : Point
    common = toward n₂ near_edge c.at

    pub common_place : 1 ≤ common.w
    common_place = omega (arith, c.whole)

    pub in_second : Within true a.at g.at h.at common
    in_second =
        inside_stays a.at g.at h.at c.at near_edge n₂ (omega arith)
        (record {
          ab = agb by on_moves a.at g.at a.at b.at n₁ (start_on a g);
          bc = left_stays g.at h.at a.at b.at n₁ (agh by sym (turn a g h)) (omega (arith, reach_bc a.at g.at h.at b.at));
          ca = hab by on_moves h.at a.at a.at b.at n₁ (end_on h a);
        })

    pub in_first : Within true a.at b.at c.at common
    in_first =
        let bca : Left b c a = abc by sym (turn a b c) in let cab : Left c a b = abc by turn c a b in
        record {
          ab = abc by on_moves a.at b.at near_edge c.at n₂ (on_moves a.at b.at a.at b.at n₁ (start_on a b) ∙ end_on a b);
          bc = left_stays b.at c.at near_edge c.at n₂ (left_stays b.at c.at a.at b.at n₁ bca (omega (arith, reach_bc a.at b.at c.at b.at))) (omega (arith, reach_bc a.at b.at c.at c.at));
          ca = left_stays c.at a.at near_edge c.at n₂ (cab by on_moves c.at a.at a.at b.at n₁ (end_on c a)) (omega (arith, reach_ca a.at b.at c.at c.at));
        }
