-- Reading the integers of points as polynomials in their coordinates, and the variables of a list of points. An identity is then proved by one line:
-- `ring (sites (a ∷ b ∷ [])) (search geometry depth 20) refl`, and with a place x of any w by `ring (place x (sites ..)) ..`.
use Rattle.std.proofs.Common.{◌≡◌, ℕ, List, [], ◌∷◌, ℤ, pos, sym, ap}
use Rattle.exact.specs.Plane.{Point, plus, times, across, along, side, square, circle}
use Rattle.exact.proofs.Algebra.Polynomials.{number, eval}
use Rattle.exact.proofs.Algebra.Reading.{Known, KnownDiff, known_diff, known_diff_plus, known_diff_minus, known_diff_times, known_product, known_plus, known_times, known_first, known_later, listed_here, listed_later, known_variable}
use Rattle.exact.proofs.Algebra.Ring.{operations}
use Rattle.exact.proofs.Geometry.Words.{X, Y, W, Δx, Δy, orient, incircle, dist², dot, Site}

-- a point whose coordinates are known
pub record KnownPoint (ρ : List ℤ) (p : Point) : Type 0 where
  pub in_x : Known ρ (pos p.x)
  pub in_y : Known ρ (pos p.y)
  pub in_w : Known ρ (pos p.w)

-- ---- differences
abbrev pub diff_across : {ρ : List ℤ} {p q : Point} → KnownPoint ρ p → KnownPoint ρ q → KnownDiff ρ (across p q)
diff_across i j = known_diff (known_product j.in_x i.in_w) (known_product i.in_x j.in_w)

abbrev pub diff_along : {ρ : List ℤ} {p q : Point} → KnownPoint ρ p → KnownPoint ρ q → KnownDiff ρ (along p q)
diff_along i j = known_diff (known_product j.in_y i.in_w) (known_product i.in_y j.in_w)

abbrev pub diff_side : {ρ : List ℤ} {p q r : Point} → KnownPoint ρ p → KnownPoint ρ q → KnownPoint ρ r → KnownDiff ρ (side p q r)
diff_side i j l = known_diff_minus (known_diff_times (diff_across i j) (diff_along i l)) (known_diff_times (diff_along i j) (diff_across i l))

abbrev pub diff_square : {ρ : List ℤ} {p q : Point} → KnownPoint ρ p → KnownPoint ρ q → KnownDiff ρ (square p q)
diff_square i j = known_diff_plus (known_diff_times (diff_across i j) (diff_across i j)) (known_diff_times (diff_along i j) (diff_along i j))

abbrev pub diff_dot : {ρ : List ℤ} {p q r : Point} → KnownPoint ρ p → KnownPoint ρ q → KnownPoint ρ r → KnownDiff ρ (plus (times (across p q) (across p r)) (times (along p q) (along p r)))
diff_dot i j l = known_diff_plus (known_diff_times (diff_across i j) (diff_across i l)) (known_diff_times (diff_along i j) (diff_along i l))

abbrev pub diff_circle : {ρ : List ℤ} {p q r s : Point} → KnownPoint ρ p → KnownPoint ρ q → KnownPoint ρ r → KnownPoint ρ s → KnownDiff ρ (circle p q r s)
diff_circle i j l n =
    known_diff_plus (known_diff_minus (known_diff_times (diff_square n i) (diff_side n j l)) (known_diff_times (diff_square n j) (diff_side n i l))) (known_diff_times (diff_square n l) (diff_side n i j))

-- ---- the words
pub Δx_is : {ρ : List ℤ} {p q : Point} (i : KnownPoint ρ p) (j : KnownPoint ρ q) → eval (diff_across i j).poly_for ρ ≡ Δx p q
unfolding Δx
Δx_is i j = (diff_across i j).is_value

abbrev pub known_Δx : {ρ : List ℤ} {p q : Point} → KnownPoint ρ p → KnownPoint ρ q → Known ρ (Δx p q)
known_Δx i j = record { poly = (diff_across i j).poly_for; is = Δx_is i j }

pub Δy_is : {ρ : List ℤ} {p q : Point} (i : KnownPoint ρ p) (j : KnownPoint ρ q) → eval (diff_along i j).poly_for ρ ≡ Δy p q
unfolding Δy
Δy_is i j = (diff_along i j).is_value

abbrev pub known_Δy : {ρ : List ℤ} {p q : Point} → KnownPoint ρ p → KnownPoint ρ q → Known ρ (Δy p q)
known_Δy i j = record { poly = (diff_along i j).poly_for; is = Δy_is i j }

pub orient_is : {ρ : List ℤ} {p q r : Point} (i : KnownPoint ρ p) (j : KnownPoint ρ q) (l : KnownPoint ρ r) → eval (diff_side i j l).poly_for ρ ≡ orient p q r
unfolding orient
orient_is i j l = (diff_side i j l).is_value

abbrev pub known_orient : {ρ : List ℤ} {p q r : Point} → KnownPoint ρ p → KnownPoint ρ q → KnownPoint ρ r → Known ρ (orient p q r)
known_orient i j l = record { poly = (diff_side i j l).poly_for; is = orient_is i j l }

pub dist²_is : {ρ : List ℤ} {p q : Point} (i : KnownPoint ρ p) (j : KnownPoint ρ q) → eval (diff_square i j).poly_for ρ ≡ dist² p q
unfolding dist²
dist²_is i j = (diff_square i j).is_value

abbrev pub known_dist² : {ρ : List ℤ} {p q : Point} → KnownPoint ρ p → KnownPoint ρ q → Known ρ (dist² p q)
known_dist² i j = record { poly = (diff_square i j).poly_for; is = dist²_is i j }

pub dot_is : {ρ : List ℤ} {p q r : Point} (i : KnownPoint ρ p) (j : KnownPoint ρ q) (l : KnownPoint ρ r) → eval (diff_dot i j l).poly_for ρ ≡ dot p q r
unfolding dot
dot_is i j l = (diff_dot i j l).is_value

abbrev pub known_dot : {ρ : List ℤ} {p q r : Point} → KnownPoint ρ p → KnownPoint ρ q → KnownPoint ρ r → Known ρ (dot p q r)
known_dot i j l = record { poly = (diff_dot i j l).poly_for; is = dot_is i j l }

pub incircle_is : {ρ : List ℤ} {p q r s : Point} (i : KnownPoint ρ p) (j : KnownPoint ρ q) (l : KnownPoint ρ r) (n : KnownPoint ρ s) → eval (diff_circle i j l n).poly_for ρ ≡ incircle p q r s
unfolding incircle
incircle_is i j l n = (diff_circle i j l n).is_value

abbrev pub known_incircle : {ρ : List ℤ} {p q r s : Point} → KnownPoint ρ p → KnownPoint ρ q → KnownPoint ρ r → KnownPoint ρ s → Known ρ (incircle p q r s)
known_incircle i j l n = record { poly = (diff_circle i j l n).poly_for; is = incircle_is i j l n }

pub X_is : {ρ : List ℤ} {p : Point} (i : KnownPoint ρ p) → eval i.in_x.poly ρ ≡ X p
unfolding X
X_is i = i.in_x.is

abbrev pub known_X : {ρ : List ℤ} {p : Point} → KnownPoint ρ p → Known ρ (X p)
known_X i = record { poly = i.in_x.poly; is = X_is i }

pub Y_is : {ρ : List ℤ} {p : Point} (i : KnownPoint ρ p) → eval i.in_y.poly ρ ≡ Y p
unfolding Y
Y_is i = i.in_y.is

abbrev pub known_Y : {ρ : List ℤ} {p : Point} → KnownPoint ρ p → Known ρ (Y p)
known_Y i = record { poly = i.in_y.poly; is = Y_is i }

pub W_is : {ρ : List ℤ} {p : Point} (i : KnownPoint ρ p) → eval i.in_w.poly ρ ≡ W p
unfolding W
W_is i = i.in_w.is

abbrev pub known_W : {ρ : List ℤ} {p : Point} → KnownPoint ρ p → Known ρ (W p)
known_W i = record { poly = i.in_w.poly; is = W_is i }

-- a coordinate as it stands in the definitions
abbrev pub known_x : {ρ : List ℤ} (p : Point) → KnownPoint ρ p → Known ρ (pos p.x)
known_x p i = i.in_x

abbrev pub known_y : {ρ : List ℤ} (p : Point) → KnownPoint ρ p → Known ρ (pos p.y)
known_y p i = i.in_y

abbrev pub known_w : {ρ : List ℤ} (p : Point) → KnownPoint ρ p → Known ρ (pos p.w)
known_w p i = i.in_w

-- ---- where a point stands in the list of variables
abbrev pub sites : List Site → List ℤ
sites [] = []
sites (a ∷ l) = pos a.at.x ∷ pos a.at.y ∷ sites l

abbrev pub place : Point → List ℤ → List ℤ
place p ρ = pos p.x ∷ pos p.y ∷ pos p.w ∷ ρ

abbrev pub places : List Point → List ℤ
places [] = []
places (p ∷ l) = place p (places l)

pub one_is : (ρ : List ℤ) (a : Site) → eval (number (pos 1)) ρ ≡ pos a.at.w
one_is ρ a = ap pos (sym a.whole)

abbrev pub site_here : {ρ : List ℤ} (a : Site) → KnownPoint (pos a.at.x ∷ pos a.at.y ∷ ρ) a.at
site_here {ρ} a = record {
  in_x = known_first (pos a.at.x);
  in_y = known_later (pos a.at.x) (known_first (pos a.at.y));
  in_w = record { poly = number (pos 1); is = one_is (pos a.at.x ∷ pos a.at.y ∷ ρ) a };
}

abbrev pub place_here : {ρ : List ℤ} (p : Point) → KnownPoint (pos p.x ∷ pos p.y ∷ pos p.w ∷ ρ) p
place_here p = record {
  in_x = known_first (pos p.x);
  in_y = known_later (pos p.x) (known_first (pos p.y));
  in_w = known_later (pos p.x) (known_later (pos p.y) (known_first (pos p.w)));
}

abbrev pub point_later : {v : ℤ} {ρ : List ℤ} {p : Point} → KnownPoint ρ p → KnownPoint (v ∷ ρ) p
point_later {v} i = record { in_x = known_later v i.in_x; in_y = known_later v i.in_y; in_w = known_later v i.in_w }

-- a point made of known numbers
abbrev pub point_made : {ρ : List ℤ} {a b c : ℕ} → Known ρ (pos a) → Known ρ (pos b) → Known ρ (pos c) → KnownPoint ρ (record { x = a; y = b; w = c })
point_made s t u = record { in_x = s; in_y = t; in_w = u }

-- ---- rules for `search`
pub ruleset geometry = (operations, known_X, known_Y, known_W, known_Δx, known_Δy, known_orient, known_incircle, known_dist², known_dot, site_here, place_here, point_later)

-- with numbers in the list of variables, and points made of them
pub ruleset made_points = (geometry, known_plus, known_times, known_x, known_y, known_w, point_made, listed_here, listed_later, known_variable)
