-- Triangles that rise at m: m is their middle corner by height, and from it they go to the higher one. A vertex with one higher and one lower, turning left, has such a triangle, and only one:
-- the one that holds a place near m at its own height.
use Rattle.std.proofs.Common.{◌≡◌, ℕ, ◌+◌, ◌*◌, ◌<◌, ◌≤◌, true, false, List, length, pos, sym, ◌∙◌, subst, arith}
use Rattle.exact.specs.Plane.{Point, Vertex, spot, Tri}
use Rattle.exact.proofs.Lists.{In}
use Rattle.exact.proofs.Vertices.{site, Rot, rot_next}
use Rattle.exact.proofs.Algebra.Signs.{◌by◌, cancel, as_natural}
use Rattle.exact.proofs.Geometry.Words.{Within, Site, Left}
use Rattle.exact.proofs.Geometry.Identities.Sides.{start_on, end_on}
use Rattle.exact.proofs.Geometry.Faces.{Triangle, InFace, rot_in, rot_out, rot_left, rot_below, left_different}
use Rattle.exact.proofs.Geometry.Moves.{toward, mix, on_moves, left_moves, left_mix, reach}
use Rattle.exact.proofs.Geometry.Reach.{reach_all, none_new}
use Rattle.exact.proofs.Geometry.Levels.{Rise, at_level_out, at_level_in, inside_level}
use Rattle.exact.proofs.Statements.Tilings.{ProperTiling}
use Rattle.exact.proofs.Statements.Heights.{Heights, Above, above_strict}

pub record RisingAt (vs : List Vertex) (ts : List Tri) (up : Heights vs) (m : ℕ) : Type 0 where
  pub tri : Tri
  pub here : In tri ts
  pub high : ℕ
  pub low : ℕ
  pub turned : Rot tri m high low
  pub above : Above vs up high m
  pub below : Above vs up m low

weight : (n a β b γ c : ℕ) → b ≡ 1 → 1 ≤ β → 1 ≤ n * a + (β * b + γ * c)
weight n a β b γ c e l = subst (λ (k : ℕ). 1 ≤ n * a + (β * k + γ * c)) (sym e) (omega arith)

module _ (vs : List Vertex) (ts : List Tri) (T : ProperTiling vs ts) (up : Heights vs) where
  abbrev P : ℕ → Site
  P i = site vs T.ones i

  -- m has g above it and h below; β and γ are how far
  module _ (m g h β γ : ℕ) (left : Left (P m) (P g) (P h)) (e : Rise up.u up.v (P h) (P m) ≡ pos β) (f : Rise up.u up.v (P m) (P g) ≡ pos γ) (l : 1 ≤ β) where
    abbrev beside : Point
    beside = mix β (spot vs g) γ (spot vs h)

    abbrev near : ℕ → Point
    near n = toward n (spot vs m) beside

    near_place : (n : ℕ) → 1 ≤ (near n).w
    near_place n = weight n (spot vs m).w β (spot vs g).w γ (spot vs h).w (T.ones g) l

    -- a triangle at m with a near place rises there
    module _ (below : m < length vs) (n : ℕ) (t : Tri) (it : In t ts) (p q : ℕ) (ρ : Rot t m p q) (i : Within false (spot vs m) (spot vs p) (spot vs q) (near n)) where
      gt : Triangle vs t
      gt = T.triangle t it

      different : ¬ (m ≡ p) × ¬ (p ≡ q) × ¬ (q ≡ m)
      different = left_different vs T.ones m p q (rot_left vs t T.ones m p q ρ gt)

      rises : RisingAt vs ts up m
      rises = record {
        tri = t;
        here = it;
        high = p;
        low = q;
        turned = ρ;
        above = above_strict vs up p m (rot_below vs t p q m (rot_next t m p q ρ) gt) below (λ k. different.0 (sym k))
            (cancel left (i.ab by sym (on_moves (spot vs m) (spot vs p) (spot vs m) beside n (start_on (P m) (P p)) ∙ at_level_out up.u up.v (P m) (P g) (P h) β γ e f (P p))));
        below = above_strict vs up m q below (rot_below vs t q m p (rot_next t p q m (rot_next t m p q ρ)) gt) (λ k. different.2 (sym k))
            (cancel left (i.ca by sym (on_moves (spot vs q) (spot vs m) (spot vs m) beside n (end_on (P q) (P m)) ∙ at_level_in up.u up.v (P m) (P g) (P h) β γ e f (P q))));
      }

    -- there is one
    found : m < length vs → g < length vs → h < length vs → RisingAt vs ts up m
    found m_below g_below h_below =
        let n = reach_all vs ts beside in
        let r = T.cover (near n) (near_place n) (λ i j k. left_moves (spot vs i) (spot vs j) (spot vs m) beside n (k m m_below) (left_mix (spot vs i) (spot vs j) (spot vs g) (spot vs h) β γ (k g g_below) (k h h_below))) in
        let w = T.corners r.0 r.1 m m_below (none_new vs ts (spot vs m) beside n (omega arith) r.0 r.1 r.2) in
        rises m_below n r.0 r.1 w.0 w.1 w.2 (rot_in vs r.0 m w.0 w.1 w.2 (near n) r.2)

    -- it holds the near place strictly
    holds : (w : RisingAt vs ts up m) (n : ℕ) → reach (spot vs m) (spot vs w.high) (spot vs w.low) beside ≤ n → InFace vs w.tri true (near n)
    holds w n r =
        rot_out vs w.tri m w.high w.low w.turned (near n)
        (inside_level up.u up.v (P m) (P g) (P h) β γ e f left (P w.high) (P w.low) n (rot_left vs w.tri T.ones m w.high w.low w.turned (T.triangle w.tri w.here)) w.above w.below r)

  pub rising : (m g h : ℕ) → m < length vs → g < length vs → h < length vs → Above vs up g m → Above vs up m h → Left (P m) (P g) (P h) → RisingAt vs ts up m
  rising m g h m_below g_below h_below hg hh left =
      let β = as_natural (Rise up.u up.v (P h) (P m)) hh in let γ = as_natural (Rise up.u up.v (P m) (P g)) hg in
      found m g h β.0 γ.0 left β.1 γ.1 β.2 m_below g_below h_below

  pub rising_once : (m : ℕ) (a b : RisingAt vs ts up m) → a.tri ≡ b.tri
  rising_once m a b =
      let g = a.high in let h = a.low in
      let left = rot_left vs a.tri T.ones m g h a.turned (T.triangle a.tri a.here) in
      let β = as_natural (Rise up.u up.v (P h) (P m)) a.below in let γ = as_natural (Rise up.u up.v (P m) (P g)) a.above in
      let q = mix β.0 (spot vs g) γ.0 (spot vs h) in
      let n = reach (spot vs m) (spot vs g) (spot vs h) q + reach (spot vs m) (spot vs b.high) (spot vs b.low) q in
      T.once (toward n (spot vs m) q) (near_place m g h β.0 γ.0 left β.1 γ.1 β.2 n) a.tri b.tri a.here b.here
      (holds m g h β.0 γ.0 left β.1 γ.1 β.2 a n (omega arith)) (holds m g h β.0 γ.0 left β.1 γ.1 β.2 b n (omega arith))
