-- The outer half edges of a mesh and the next vertex p, outside: those that p sees, strictly on their left, and that no two of them begin at one vertex.
use Rattle.std.proofs.Common.{◌≡◌, ℕ, ◌<◌, ◌≤◌, true, false, neg_ℤ, sym, ap, subst, inl, inr, arith}
use Rattle.std.proofs.lemmas.Bool.{cases_lt}
use Rattle.std.proofs.lemmas.Int.{ints}
use Rattle.exact.specs.Plane.{Point}
use Rattle.exact.proofs.Algebra.Signs.{Sign, ◌by◌, split, clash, clash_zero}
use Rattle.exact.proofs.Geometry.Words.{orient, Site, Orient, Dist², Right, LeftOn, On, Same, Between}
use Rattle.exact.proofs.Geometry.Spots.{same_at}
use Rattle.exact.proofs.Geometry.Line.{on_three}
use Rattle.exact.proofs.Geometry.Horizon.{unseen}
use Rattle.exact.proofs.Geometry.Seen.{through_left, through_right, one_way}
use Rattle.dcel.specs.Map.{Map, twin}
use Rattle.dcel.specs.Surgery.{Outer}
use Rattle.dcel.specs.Geometry.{from, to, Geometric}
use Rattle.dcel.proofs.Placed.{Placed, site, start, stop, same_number, ends_apart, right_on, none_between, in_start, in_stop, on_line}

-- the vertex v is strictly left of the half edge x, so sees it from outside, or is not
abbrev pub Seen : (ℕ → Point) → Map → ℕ → ℕ → Type 0
Seen pos m x v = Sign true (orient (from pos m x) (to pos m x) (pos v))

abbrev pub Unseen : (ℕ → Point) → Map → ℕ → ℕ → Type 0
Unseen pos m x v = Sign false (neg_ℤ (orient (from pos m x) (to pos m x) (pos v)))

module _ {pos : ℕ → Point} {m : Map} (B : Placed pos m) where
  abbrev G : Geometric pos m
  G = B.geometric

  -- ---- the next vertex p, which sees an outer half edge e
  abbrev pub p : Site
  p = site B m.vertices

  abbrev pub Visible : ℕ → Type 0
  Visible x = Seen pos m x m.vertices

  abbrev pub Hidden : ℕ → Type 0
  Hidden x = Unseen pos m x m.vertices

  pub elsewhere : (e : ℕ) → Outer m e → Visible e → (v : ℕ) → v < m.vertices → Same (site B v) p → ⊥
  elsewhere e o h v l q = clash (h by ap (λ (z : Point). orient (pos (m.origin e)) (pos (m.origin (twin e))) z) (same_at (site B v) p q)) (right_on B e o v l)

  pub off_line : m.faces ≤ 1 → (e : ℕ) → Outer m e → Visible e → (x : ℕ) → x < m.half_edges → On (start B x) (stop B x) p → ⊥
  off_line f e o h x l q =
      clash_zero h (on_three (start B x) (stop B x) (start B e) (stop B e) p (ends_apart B x l) (on_line B f x l (m.origin e) (in_start B e o)) (on_line B f x l (m.origin (twin e)) (in_stop B e o)) q)

  -- two half edges of a line that leave a vertex the same way are one
  same_way : m.faces ≤ 1 → (x y : ℕ) → Outer m x → Outer m y → m.origin x ≡ m.origin y → (Between (stop B x) (stop B y) (start B x) → ⊥) → x ≡ y
  same_way f x y ox oy q n =
      elim (one_way (start B x) (stop B x) (stop B y) (on_line B f x ox.in_e (m.origin (twin y)) (in_stop B y oy)) (ends_apart B x ox.in_e) (ends_apart B y oy.in_e by ap (λ (c : ℕ). Dist² (site B c) (stop B y)) q) n) [
        | inl e ↦ B.geometric.single f x y ox.in_e oy.in_e q (same_number B (m.origin (twin x)) (m.origin (twin y)) (in_stop B x ox) (in_stop B y oy) e)
        | inr r ↦ elim r [
          | inl b ↦ absurd (none_between B x ox (m.origin (twin y)) (in_stop B y oy) b)
          | inr b ↦ absurd (none_between B y oy (m.origin (twin x)) (in_stop B x ox) (subst (λ (c : ℕ). Between (site B c) (stop B y) (stop B x)) q b))
        ]
      ]

  -- an outer half edge is known by its origin and by whether p sees it
  pub same_visible : (x y : ℕ) → Outer m x → Outer m y → m.origin x ≡ m.origin y → Visible x → Visible y → x ≡ y
  same_visible x y ox oy q hx hy = elim (cases_lt 1 m.faces) [
    | inl f ↦ G.once f x y ox.in_e oy.in_e ox.outer oy.outer q
    | inr f ↦ same_way (omega arith) x y ox oy q (through_left (start B x) (stop B x) (stop B y) p hx (hy by ap (λ (c : ℕ). Orient (site B c) (stop B y) p) q))
  ]

  pub same_hidden : (e : ℕ) → Outer m e → Visible e → (x y : ℕ) → Outer m x → Outer m y → m.origin x ≡ m.origin y → Hidden x → Hidden y → x ≡ y
  same_hidden e o h x y ox oy q hx hy = elim (cases_lt 1 m.faces) [
    | inl f ↦ G.once f x y ox.in_e oy.in_e ox.outer oy.outer q
    | inr f ↦ (let l : m.faces ≤ 1 = omega arith in same_way l x y ox oy q (through_right (start B x) (stop B x) (stop B y) p (strict l x ox hx) (strict l y oy hy by ap (λ (c : ℕ). neg_ℤ (Orient (site B c) (stop B y) p)) q)))
  ]
    where
      strict : m.faces ≤ 1 → (z : ℕ) → Outer m z → Hidden z → Right (start B z) (stop B z) p
      strict l z oz hz = elim (split (neg_ℤ (Orient (start B z) (stop B z) p))) [
        | inl k ↦ k
        | inr k ↦ absurd (off_line l e o h z oz.in_e (omega (arith, ints)))
      ]

  -- so one that p sees does not begin in the cone from p over another one
  pub out_of_cone : (h x : ℕ) → Outer m h → Outer m x → Visible h → Visible x → LeftOn p (start B h) (start B x) → Right p (stop B h) (start B x) → x ≡ h
  out_of_cone h x oh ox sh sx l r =
      elim (unseen p (start B h) (stop B h) (start B x) (stop B x) (right_on B h oh (m.origin x) (in_start B x ox)) (right_on B x ox (m.origin h) (in_start B h oh)) (right_on B x ox (m.origin (twin h)) (in_stop B h oh)) sx l r).1 [
        | inl e ↦ same_visible x h ox oh (sym (same_number B (m.origin h) (m.origin x) (in_start B h oh) (in_start B x ox) e)) sx sh
        | inr b ↦ absurd (none_between B h oh (m.origin x) (in_start B x ox) b)
      ]
