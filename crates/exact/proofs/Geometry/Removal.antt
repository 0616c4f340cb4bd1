-- A vertex v taken out: its spokes v a, v b, v c one after the other to the left. Which spoke can be flipped to a c, and what is left at the end.
use Rattle.std.proofs.Common.{true, false, ◌⊎◌, ◌+ℤ◌, ◌-ℤ◌, ◌*ℤ◌, neg_ℤ, sym, ap, ◌∙◌, inl, inr, arith}
use Rattle.std.proofs.Math.IntN.{*ℤ_comm}
use Rattle.std.proofs.lemmas.Int.{ints}
use Rattle.exact.proofs.Algebra.Signs.{Sign, ◌by◌, split, cancel, cancel_neg, left_factor}
use Rattle.exact.proofs.Geometry.Words.{Site, Orient, Dist², Dot, Left, Right, LeftOn, RightOn, On, InTriangle, Between, signs}
use Rattle.exact.proofs.Geometry.Identities.Sides.{turn, swap, start_on, end_on, orders, weights, weigh_line, three_terms, bend_line}
use Rattle.exact.proofs.Geometry.Identities.Dots.{dot_swap, dot_same, three_terms_dot, bend}
use Rattle.exact.proofs.Geometry.Triangles.{left_apart, corners_apart, within_turn}
use Rattle.exact.proofs.Geometry.Betweenness.{between_swap}
use Rattle.exact.proofs.Geometry.Flip.{flip_in_left, flip_in_right}
use Rattle.exact.proofs.Geometry.Split.{edge_cover}

-- the new triangles v a c and a b c turn to the left as assumed; what they hold the old ones v a b and v b c held
pub spoke_in : (v a b c z : Site) → Left v a b → Left v b c → Left a b c → Left v a c → InTriangle v a c z → InTriangle v a b z ⊎ InTriangle v b c z
spoke_in v a b c z vab vbc abc vac i =
    elim (flip_in_left v b c a z vbc (vab by turn b v a) (vac by turn c v a) abc (within_turn (within_turn i))) [ inl h ↦ inr h | inr h ↦ inl (within_turn h) ]

pub spoke_out : (v a b c z : Site) → Left v a b → Left v b c → Left a b c → Left v a c → InTriangle a b c z → InTriangle v a b z ⊎ InTriangle v b c z
spoke_out v a b c z vab vbc abc vac i =
    elim (flip_in_right v b c a z vbc (vab by turn b v a) (vac by turn c v a) abc i) [ inl h ↦ inr h | inr h ↦ inl (within_turn h) ]

-- the chain bends outwards at a neighbour that is as far as the one before and the one after
pub farthest : (v a b c : Site) → Left v a b → Left v b c → Sign false (Dist² v b -ℤ Dist² v a) → Sign false (Dist² v b -ℤ Dist² v c) → Left a b c
farthest v a b c vab vbc far_a far_c = elim (split (Orient v a c)) [
  | inl h ↦ wide h
  | inr h ↦ omega (arith, ints, weights a b c v, orders v a b, orders v b c, orders v a c)
]
  where
    wide : Left v a c → Left a b c
    wide h =
        let ac = (corners_apart v a c h).1 in
        left_factor (Orient a b c) ((Orient v b c +ℤ Orient v a b +ℤ Orient v a c) *ℤ Dist² v b) (search signs by bend v a b c) (search signs)

-- and at one that is as far beyond a line o → q as the one after, and farther than the one before; v is not so far
pub farthest_line : (v e d f o q : Site) → Left v e d → Left v d f →
    Sign true (Orient o q d -ℤ Orient o q v) → Sign true (Orient o q d -ℤ Orient o q e) → Sign false (Orient o q d -ℤ Orient o q f) → Left e d f
farthest_line v e d f o q ved vdf dv de df = cancel dv (search signs by bend_line v e d f o q)

-- ---- v on the hull gone, and the chain a, m, c of its neighbours bends inwards or is straight at m: what is beyond one edge is beyond the next
pub chain_on : (v a m c z : Site) → Left v a m → Left v m c → RightOn a m c → RightOn v m z → RightOn a m z → RightOn m c z
chain_on v a m c z vam vmc amc vmz amz =
    let h₀ : Sign true (Orient m v a) = vam by turn m v a in
    let h₁ : Sign true (neg_ℤ (Orient m v c)) = vmc by sym (swap v m c) in
    let h₂ : Sign false (Orient m a z) = amz by swap m a z in
    let h₃ : Sign false (Orient m v z) = vmz by swap m v z in
    let h₄ : Sign false (Orient m a c) = amc by swap m a c in
    cancel_neg (Orient m c z) h₀ (search signs by ap neg_ℤ (three_terms m v a c z))

pub chain_back : (v a m c z : Site) → Left v a m → Left v m c → RightOn a m c → LeftOn v m z → RightOn m c z → RightOn a m z
chain_back v a m c z vam vmc amc vmz mcz =
    let h₀ : Sign true (Orient m c v) = vmc by sym (turn v m c) in
    let h₁ : Sign true (Orient m v a) = vam by turn m v a in
    let h₂ : Sign false (neg_ℤ (Orient m v z)) = vmz by sym (swap v m z) in
    let h₃ : Sign false (neg_ℤ (Orient m c a)) = amc by ap neg_ℤ (sym (turn a m c)) in
    cancel h₀ (search signs by three_terms m c v a z) by sym (swap m a z)

-- within half a turn from v w: what is not beyond m is not beyond what comes after m
pub turn_on : (v w m c z : Site) → Left v w m → LeftOn v w c → LeftOn v m c → LeftOn v w z → RightOn v m z → RightOn v c z
turn_on v w m c z vwm vwc vmc vwz vmz = cancel_neg (Orient v c z) vwm (search signs by ap neg_ℤ (three_terms v w m c z))

-- ---- v is between its opposite neighbours a and c, b on the left of c → a: v a b and v b c become a b c
pub unsplit : (v a b c : Site) → Between a c v → Left v a b → Left v b c → Left a b c
unsplit v a b c h vab vbc = omega (arith, ints, h.on, weights a b c v, orders v a b, orders v b c, orders a c v)

pub unsplit_in : (v a b c z : Site) → Between a c v → Left a b c → InTriangle a b c z → InTriangle v a b z ⊎ InTriangle v b c z
unsplit_in v a b c z h abc i =
    elim (edge_cover c a b v (abc by turn c a b) (between_swap a c v h) z (within_turn (within_turn i))) [
      | inl k ↦ inr (within_turn k)
      | inr k ↦ inl k
    ]

-- ---- that there is a spoke to flip: the chain bends outwards at b, and from c to a is less than half a turn. d comes just before a (just after c) and is not beyond c a: it bends outwards at a (at c)
pub bend_before : (v a b c d : Site) → Left v a b → Left a b c → Left v c a → Left v d a → LeftOn v c d → LeftOn c a d → Left d a b
bend_before v a b c d vab abc vca vda vcd cad =
    let h₁ : Sign true (Orient a b v) = vab by sym (turn v a b) in
    let h₂ : Sign true (Orient a v d) = vda by turn a v d in
    let h₃ = start_on a b in
    cancel vca (search signs by weigh_line v c a a b d.at) by turn d a b

pub bend_after : (v a b c d : Site) → Left v b c → Left a b c → Left v c a → Left v c d → LeftOn v d a → LeftOn c a d → Left b c d
bend_after v a b c d vbc abc vca vcd vda cad =
    let h₁ : Sign true (Orient b c v) = vbc by sym (turn v b c) in
    let h₂ : Sign true (Orient b c a) = abc by sym (turn a b c) in
    let h₃ : Sign false (Orient a v d) = vda by turn a v d in
    let h₄ = end_on b c in
    cancel vca (search signs by weigh_line v c a b c d.at)

-- b, c, d in turn, d on the line v b: then v is between b and d
pub between_opposite : (v b c d : Site) → Left v b c → Left v c d → On v b d → Between b d v
between_opposite v b c d vbc vcd e = record {
  on = omega (arith, ints, orders v b d);
  opposite =
      let vb : Sign true (Dot v b b) = left_apart v b c vbc by dot_same v.at b.at in
      let vdc : Right v d c = omega (arith, ints, orders v c d) in
      cancel_neg (Dot v d b) vbc (search signs by ap neg_ℤ (*ℤ_comm (Orient v b c) (Dot v d b) ∙ three_terms_dot v.at b.at d.at b.at c.at)) by ap neg_ℤ (dot_swap v.at b.at d.at);
}

-- of the tests of a and of c one at least holds, where d comes first after c and e last before a
pub one_test : (v b c d e : Site) → Left v b c → Left v c d → LeftOn v c e → Left v d e → RightOn v b d → Left v e b
one_test v b c d e vbc vcd vce vde vbd =
    let h₁ : Sign true (neg_ℤ (Orient v c b)) = omega (arith, ints, orders v b c) in
    let h₂ : Sign false (Orient v d b) = omega (arith, ints, orders v b d) in
    cancel vcd (search signs by three_terms v c d e b)
