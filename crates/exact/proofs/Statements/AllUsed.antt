-- All vertices are in triangles, if they are not on one line; and how many triangles there are: each vertex has a triangle that rises and one that falls, but on the hull one of them is missing, and at the two ends both.
use Rattle.std.proofs.Common.{◌≡◌, ℕ, ◌+◌, ◌*◌, ◌<◌, Bool, true, false, not, ◌&&◌, ◌⊎◌, List, length, refl, ◌∙◌, inl, inr, true≢false, arith}
use Rattle.std.proofs.lemmas.Bool.{false≢true, cases_Bool}
use Rattle.exact.specs.Plane.{pick, every, any, those, Vertex, Tri, goes, joined, outer_edge, on_a_line, Tiles, Delaunay, no_twice, all_numbers}
use Rattle.exact.proofs.Booleans.{bit, or_left, and_left}
use Rattle.exact.proofs.Lists.{every←, any→, any←, up_to←, up_to→, up_to_length, count, those_count}
use Rattle.exact.proofs.Vertices.{rot_next, rot_goes}
use Rattle.exact.proofs.Geometry.Faces.{rot_below}
use Rattle.exact.proofs.Geometry.Joined.{has_edge, joined_is}
use Rattle.exact.proofs.Statements.Words.{Plain, on_hull}
use Rattle.exact.proofs.Statements.Tilings.{ProperTiling, empty_tiling}
use Rattle.exact.proofs.Statements.Heights.{Heights, upside_down, some_heights}
use Rattle.exact.proofs.Statements.Rising.{RisingAt}
use Rattle.exact.proofs.Statements.MiddleCorners.{rises?, rises_or_falls, has_rising?, has_rising→, count_rising}
use Rattle.exact.proofs.Statements.OffLine.{another}
use Rattle.exact.proofs.Statements.HullSides.{none_rises_hull, hull_none_rises}
use Rattle.exact.proofs.Statements.Extremes.{none?, count_none_rises}
use Rattle.exact.proofs.Statements.Counting.{count_kinds, count_two_of}

-- of "one rises", "one falls", "on the hull", "neither rises nor falls" two hold
two_of_four : (a b c : Bool) → (a ≡ false → c ≡ true) → (b ≡ false → c ≡ true) → (c ≡ true → (a ≡ false) ⊎ (b ≡ false)) → bit a + bit b + (bit c + bit (not a && not b)) ≡ 2
two_of_four true true true f g h = elim (h refl) [ inl e ↦ absurd (true≢false e) | inr e ↦ absurd (true≢false e) ]
two_of_four true true false f g h = refl
two_of_four true false true f g h = refl
two_of_four true false false f g h = absurd (false≢true (g refl))
two_of_four false true true f g h = refl
two_of_four false true false f g h = absurd (false≢true (f refl))
two_of_four false false true f g h = refl
two_of_four false false false f g h = absurd (false≢true (f refl))

module _ (vs : List Vertex) (ts : List Tri) (T : ProperTiling vs ts) (nt : no_twice ts ≡ true) (off : on_a_line vs ≡ false) (up : Heights vs) where
  abbrev down : Heights vs
  down = upside_down vs up

  how_many : length ts + 2 + length (those (on_hull vs ts) (all_numbers vs)) ≡ 2 * length vs
  how_many =
      let ns = all_numbers vs in
      total (length ts) (count (rises? vs up) ts) (count (rises? vs down) ts) (length (those (on_hull vs ts) ns)) (length vs) (count (has_rising? vs up ts) ns) (count (has_rising? vs down ts) ns) (count (on_hull vs ts) ns) (count (none? vs ts T off up) ns) (length ns)
      (count_kinds (rises? vs up) (rises? vs down) ts (λ t i. rises_or_falls vs T.ones up t (T.triangle t i)))
      (count_rising vs ts T nt up) (count_rising vs ts T nt down) (those_count (on_hull vs ts) ns) (count_none_rises vs ts T off up) (up_to_length (length vs))
      (count_two_of (has_rising? vs up ts) (has_rising? vs down ts) (on_hull vs ts) (none? vs ts T off up) ns (λ i m.
      let l = up_to→ (length vs) i m in let o = another vs off i in
      two_of_four (has_rising? vs up ts i) (has_rising? vs down ts i) (on_hull vs ts i) (none_rises_hull vs ts T off up i o.0 l o.1 o.2) (none_rises_hull vs ts T off down i o.0 l o.1 o.2) (hull_none_rises vs ts T off up i l)))
    where
      total : (t a b h n u v h₁ k l : ℕ) → a + b ≡ t → a ≡ u → b ≡ v → h ≡ h₁ → k ≡ 2 → l ≡ n → u + v + (h₁ + k) ≡ 2 * l → t + 2 + h ≡ 2 * n
      total t a b h n u v h₁ k l e₁ e₂ e₃ e₄ e₅ e₆ e₇ = omega arith

  by_rising : (i : ℕ) → RisingAt vs ts up i → any (joined vs ts i) (all_numbers vs) ≡ true
  by_rising i w =
      let g = w.high in let t = w.tri in
      any← (joined vs ts i) (all_numbers vs) g (up_to← (length vs) g (rot_below vs t g w.low i (rot_next t i g w.low w.turned) (T.triangle t w.here)))
      (joined_is vs i g ts off ∙ or_left (has_edge ts i g) (has_edge ts g i) (any← (λ t. goes t i g) ts t w.here (rot_goes t i g w.low w.turned)))

  all_joined : (i : ℕ) → i < length vs → any (joined vs ts i) (all_numbers vs) ≡ true
  all_joined i l = elim (cases_Bool (has_rising? vs up ts i)) [
    | inl e ↦ by_rising i (has_rising→ vs up ts i e)
    | inr e ↦
        let o = another vs off i in
        let r = any→ (outer_edge vs ts i) (all_numbers vs) (none_rises_hull vs ts T off up i o.0 l o.1 o.2 e) in
        any← (joined vs ts i) (all_numbers vs) r.0 r.1 (and_left (joined vs ts i r.0) (pick (on_a_line vs) true (not (any (λ t. goes t i r.0) ts))) r.2)
  ]

pub all_used :
    (vs : List Vertex) (ts : List Tri) → Plain vs → Delaunay vs ts → on_a_line vs ≡ false →
    (every (λ i. any (joined vs ts i) (all_numbers vs)) (all_numbers vs) ≡ true)
    × (length ts + 2 + length (those (on_hull vs ts) (all_numbers vs)) ≡ 2 * length vs)
unfolding Delaunay Tiles
all_used vs ts pl d off =
    let tiles = (d.1 off).0 in let T = empty_tiling vs ts pl tiles (d.1 off).1 in let up = some_heights vs pl.0 in
    (every← (λ i. any (joined vs ts i) (all_numbers vs)) (all_numbers vs) (λ i m. all_joined vs ts T tiles.1 off up i (up_to→ (length vs) i m)), how_many vs ts T tiles.1 off up)
