-- Every vertex j is in the cone of some triangle at a vertex i: the place a little from i towards j is in a triangle, which has i as a corner.
use Rattle.std.proofs.Common.{◌≡◌, ℕ, ◌<◌, true, false, List, length, neg_ℤ, sym, ap, ◌∙◌, arith}
use Rattle.exact.specs.Plane.{every, Point, Vertex, spot, Tri, goes, joined, on_a_line, empty_circle}
use Rattle.exact.proofs.Booleans.{or_left, or_right}
use Rattle.exact.proofs.Lists.{In, every→, any←}
use Rattle.exact.proofs.Vertices.{site, Rot, rot_next, rot_goes}
use Rattle.exact.proofs.Algebra.Signs.{Sign, ◌by◌}
use Rattle.exact.proofs.Geometry.Words.{orient, Within, Site, Incircle, Left}
use Rattle.exact.proofs.Geometry.Identities.Sides.{start_on, end_on}
use Rattle.exact.proofs.Geometry.Joined.{has_edge, joined_is}
use Rattle.exact.proofs.Geometry.Faces.{empty_circle→, rot_in, rot_circle, rot_left, rot_below}
use Rattle.exact.proofs.Geometry.Moves.{toward, on_moves, left_moves}
use Rattle.exact.proofs.Geometry.Reach.{reach_all, none_new}
use Rattle.exact.proofs.Statements.Tilings.{ProperTiling}

-- a triangle i b c with j in its cone at i, or on the border of the cone
pub record ConeAt (vs : List Vertex) (ts : List Tri) (i j : ℕ) : Type 0 where
  pub tri : Tri
  pub here : In tri ts
  pub b : ℕ
  pub c : ℕ
  pub corners : Rot tri i b c
  pub after_b : Sign false (orient (spot vs i) (spot vs b) (spot vs j))
  pub before_c : Sign false (orient (spot vs c) (spot vs i) (spot vs j))

module _ (vs : List Vertex) (ts : List Tri) (T : ProperTiling vs ts) (i j : ℕ) where
  abbrev P : ℕ → Site
  P k = site vs T.ones k

  -- the place a little from i towards j
  abbrev n : ℕ
  n = reach_all vs ts (spot vs j)

  abbrev x : Point
  x = toward n (spot vs i) (spot vs j)

  pub cone_at : i < length vs → j < length vs → ConeAt vs ts i j
  cone_at i_below j_below =
      let r = T.cover x (omega (arith, T.ones j)) (λ a b k. left_moves (spot vs a) (spot vs b) (spot vs i) (spot vs j) n (k i i_below) (k j j_below)) in
      let w = T.corners r.0 r.1 i i_below (none_new vs ts (spot vs i) (spot vs j) n (omega arith) r.0 r.1 r.2) in
      by_corners r.0 r.1 w.0 w.1 w.2 (rot_in vs r.0 i w.0 w.1 w.2 x r.2)
    where
      by_corners : (t : Tri) → In t ts → (b c : ℕ) → Rot t i b c → Within false (spot vs i) (spot vs b) (spot vs c) x → ConeAt vs ts i j
      by_corners t it b c ρ h = record {
        tri = t;
        here = it;
        b = b;
        c = c;
        corners = ρ;
        after_b = h.ab by sym (on_moves (spot vs i) (spot vs b) (spot vs i) (spot vs j) n (start_on (P i) (P b)));
        before_c = h.ca by sym (on_moves (spot vs c) (spot vs i) (spot vs i) (spot vs j) n (end_on (P c) (P i)));
      }

  -- ---- its corners
  module _ (k : ConeAt vs ts i j) where
    c_first : Rot k.tri k.c i k.b
    c_first = rot_next k.tri k.b k.c i (rot_next k.tri i k.b k.c k.corners)

    pub cone_left : Left (P i) (P k.b) (P k.c)
    cone_left = rot_left vs k.tri T.ones i k.b k.c k.corners (T.triangle k.tri k.here)

    pub b_below : k.b < length vs
    b_below = rot_below vs k.tri k.b k.c i (rot_next k.tri i k.b k.c k.corners) (T.triangle k.tri k.here)

    pub c_below : k.c < length vs
    c_below = rot_below vs k.tri k.c i k.b c_first (T.triangle k.tri k.here)

    -- they are joined to i
    pub b_joined : on_a_line vs ≡ false → joined vs ts i k.b ≡ true
    b_joined off = joined_is vs i k.b ts off ∙ or_left (has_edge ts i k.b) (has_edge ts k.b i) (any← (λ t. goes t i k.b) ts k.tri k.here (rot_goes k.tri i k.b k.c k.corners))

    pub c_joined : on_a_line vs ≡ false → joined vs ts i k.c ≡ true
    c_joined off = joined_is vs i k.c ts off ∙ or_right (has_edge ts i k.c) (has_edge ts k.c i) (any← (λ t. goes t k.c i) ts k.tri k.here (rot_goes k.tri k.c i k.b c_first))

    -- no vertex is inside its circle
    pub cone_empty : every (empty_circle vs) ts ≡ true → (z : ℕ) → z < length vs → Sign false (neg_ℤ (Incircle (P i) (P k.b) (P k.c) (P z)))
    cone_empty empty z z_below = empty_circle→ vs k.tri (every→ (empty_circle vs) ts empty k.tri k.here) z z_below by ap neg_ℤ (rot_circle vs k.tri T.ones i k.b k.c k.corners (spot vs z))
