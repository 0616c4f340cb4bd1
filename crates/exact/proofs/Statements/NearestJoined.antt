-- The vertex nearest to another one is joined to it, if it is the only nearest: it is in the cone of a triangle there, and inside its circle unless it is a corner.
use Rattle.std.proofs.Common.{◌≡◌, ℕ, ◌<◌, true, false, eqb, ◌⊎◌, List, length, ◌-ℤ◌, sym, ap, subst, inl, inr, arith}
use Rattle.std.proofs.lemmas.Int.{ints}
use Rattle.exact.specs.Plane.{or, every, Vertex, spot, Tri, joined, on_segment, on_a_line, Delaunay, empty_circle, Diff, above_0, minus, square, all_numbers}
use Rattle.std.proofs.lemmas.Bool.{cases_Bool, false_from_ne_true, eqb-true, eqb-false}
use Rattle.exact.proofs.Booleans.{or→}
use Rattle.exact.proofs.Lists.{every→, up_to←}
use Rattle.exact.proofs.Vertices.{site, spot_whole}
use Rattle.exact.proofs.Algebra.Integers.{value, value_minus}
use Rattle.exact.proofs.Algebra.Signs.{Sign, ◌by◌, weak, clash}
use Rattle.exact.proofs.Algebra.Tests.{above→}
use Rattle.exact.proofs.Geometry.Words.{dist², Site, Dist², dist²_sign}
use Rattle.exact.proofs.Geometry.Distances.{near_inside, between_nearer}
use Rattle.exact.proofs.Geometry.Segments.{on_segment→}
use Rattle.exact.proofs.Geometry.Joined.{neighbours_on_line←, line_joined←}
use Rattle.exact.proofs.Geometry.Spots.{same_or_apart, same_at}
use Rattle.exact.proofs.Geometry.Faces.{left_different}
use Rattle.exact.proofs.Statements.Words.{Plain}
use Rattle.exact.proofs.Statements.Tilings.{ProperTiling, different_apart, empty_tiling}
use Rattle.exact.proofs.Statements.ConeAt.{ConeAt, cone_at, cone_left, cone_empty, b_below, c_below, b_joined, c_joined}

-- j is nearer to i than all others
abbrev OnlyNearest : List Vertex → ℕ → ℕ → Type 0
OnlyNearest vs i j = (k : ℕ) → k < length vs → ¬ (k ≡ i) → ¬ (k ≡ j) → Sign true (dist² (spot vs i) (spot vs k) -ℤ dist² (spot vs i) (spot vs j))

nearer→ : (a b : Diff) → above_0 (minus a b) ≡ true → Sign true (value a -ℤ value b)
nearer→ a b h = above→ (minus a b) h by sym (value_minus a b)

only_nearest→ : (vs : List Vertex) (i j : ℕ) →
    every (λ k. or (or (eqb k i) (eqb k j)) (above_0 (minus (square (spot vs i) (spot vs k)) (square (spot vs i) (spot vs j))))) (all_numbers vs) ≡ true → OnlyNearest vs i j
unfolding dist²
only_nearest→ vs i j h k l n m =
    let a = square (spot vs i) (spot vs k) in let b = square (spot vs i) (spot vs j) in
    elim (or→ (or (eqb k i) (eqb k j)) (above_0 (minus a b)) (every→ (λ k. or (or (eqb k i) (eqb k j)) (above_0 (minus (square (spot vs i) (spot vs k)) (square (spot vs i) (spot vs j))))) (all_numbers vs) h k (up_to← (length vs) k l))) [
      | inl e ↦ elim (or→ (eqb k i) (eqb k j) e) [ inl f ↦ absurd (n (eqb-true k i f)) | inr f ↦ absurd (m (eqb-true k j f)) ]
      | inr e ↦ nearer→ a b e
    ]

-- ---- a triangle at i has j in its cone, and j is a corner of it
module _ (vs : List Vertex) (ts : List Tri) (T : ProperTiling vs ts) (empty : every (empty_circle vs) ts ≡ true) (i j : ℕ) (i_below : i < length vs) (j_below : j < length vs) (ne : ¬ (i ≡ j)) (nearest : OnlyNearest vs i j) (κ : ConeAt vs ts i j) where
  abbrev P : ℕ → Site
  P k = site vs T.ones k

  abbrev b : ℕ
  b = κ.b

  abbrev c : ℕ
  c = κ.c

  is_corner : (j ≡ b) ⊎ (j ≡ c)
  is_corner = go (cases_Bool (eqb j b)) (cases_Bool (eqb j c))
    where
      lb : b < length vs
      lb = b_below vs ts T i j κ

      lc : c < length vs
      lc = c_below vs ts T i j κ

      go : (eqb j b ≡ true) ⊎ (eqb j b ≡ false) → (eqb j c ≡ true) ⊎ (eqb j c ≡ false) → (j ≡ b) ⊎ (j ≡ c)
      go (inl x) y = inl (eqb-true j b x)
      go (inr x) (inl y) = inr (eqb-true j c y)
      go (inr x) (inr y) =
          let left = cone_left vs ts T i j κ in let d = left_different vs T.ones i b c left in
          let jb : ¬ (b ≡ j) = λ k. eqb-false j b x (sym k) in let jc : ¬ (c ≡ j) = λ k. eqb-false j c y (sym k) in
          absurd (clash (near_inside (P i) (P b) (P c) (P j) left κ.after_b κ.before_c (weak (nearest b lb (λ k. d.0 (sym k)) jb)) (weak (nearest c lc d.2 jc))
          (different_apart T i j i_below j_below ne) (different_apart T b j lb j_below jb) (different_apart T c j lc j_below jc))
          (cone_empty vs ts T i j κ empty j j_below))

  joined_by : on_a_line vs ≡ false → joined vs ts i j ≡ true
  joined_by off = elim is_corner [
    | inl e ↦ subst (λ (k : ℕ). joined vs ts i k ≡ true) (sym e) (b_joined vs ts T i j κ off)
    | inr e ↦ subst (λ (k : ℕ). joined vs ts i k ≡ true) (sym e) (c_joined vs ts T i j κ off)
  ]

-- ---- all vertices on one line: what is on the segment is one of its ends, or nearer than j
module _ (vs : List Vertex) (ones : (i : ℕ) → (spot vs i).w ≡ 1) (i j : ℕ) (nearest : OnlyNearest vs i j) where
  not_on : (k : ℕ) → k < length vs → ¬ (k ≡ i) → ¬ (k ≡ j) → on_segment (spot vs i) (spot vs j) (spot vs k) ≡ false
  not_on k l n m = false_from_ne_true (on_segment (spot vs i) (spot vs j) (spot vs k)) (λ e.
      let a = site vs ones i in let b = site vs ones j in let z = site vs ones k in
      let far : Sign true (Dist² a z -ℤ Dist² a b) = nearest k l n m in
      elim (same_or_apart a z) [
        | inl s ↦ omega (arith, ints, dist²_sign a.at b.at)
        | inr az ↦ elim (same_or_apart b z) [
          | inl s ↦ let same : Dist² a z ≡ Dist² a b = ap (dist² a.at) (sym (same_at b z s)) in omega (arith, ints)
          | inr bz ↦ let near = between_nearer a b z (on_segment→ a b z e az bz) in omega (arith, ints)
        ]
      ])

pub nearest_joined :
    (vs : List Vertex) (ts : List Tri) (i j : ℕ) → Plain vs → Delaunay vs ts → i < length vs → j < length vs → eqb i j ≡ false →
    every (λ k. or (or (eqb k i) (eqb k j)) (above_0 (minus (square (spot vs i) (spot vs k)) (square (spot vs i) (spot vs j))))) (all_numbers vs) ≡ true →
    joined vs ts i j ≡ true
unfolding Delaunay
nearest_joined vs ts i j pl d i_below j_below ne h = elim (cases_Bool (on_a_line vs)) [
  | inl e ↦ line_joined← vs i j ts e i_below j_below (neighbours_on_line← vs i j different (not_on vs (spot_whole vs pl.1) i j nearest))
  | inr e ↦ let empty = (d.1 e).1 in let T = empty_tiling vs ts pl (d.1 e).0 empty in joined_by vs ts T empty i j i_below j_below different nearest (cone_at vs ts T i j i_below j_below) e
]
  where
    different : ¬ (i ≡ j)
    different = eqb-false i j ne

    nearest : OnlyNearest vs i j
    nearest = only_nearest→ vs i j h
