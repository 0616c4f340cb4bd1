-- What `Tiles` says by signs, where vertices are in triangles at corners alone: because it is asked, or because circles are empty.
use Rattle.std.proofs.Common.{◌≡◌, ℕ, ◌<◌, ◌≤◌, true, false, not, eqb, List, length, sym, subst, inl, inr}
use Rattle.exact.specs.Plane.{or, every, those, Point, Vertex, spot, Tri, a_triangle, in_tri, inside_tri, empty_circle, Tiles, all_numbers}
use Rattle.std.proofs.lemmas.Bool.{not-true, eqb-true, leb-true, le-leb}
use Rattle.exact.proofs.Booleans.{true_false, or→}
use Rattle.exact.proofs.Lists.{In, every→, any→, those_once, up_to←}
use Rattle.exact.proofs.Vertices.{site, spot_whole, Rot, rot₁, rot₂, rot₃}
use Rattle.exact.proofs.Algebra.Signs.{Sign}
use Rattle.exact.proofs.Geometry.Words.{orient, Same, Apart}
use Rattle.exact.proofs.Geometry.Faces.{Triangle, a_triangle→, InFace, in_tri→, in_tri←, inside_tri←}
use Rattle.exact.proofs.Geometry.Hull.{AllLeft, in_hull←}
use Rattle.exact.proofs.Geometry.Spots.{same_or_apart}
use Rattle.exact.proofs.Geometry.Corners.{CornerOf, same_site, corner_of}
use Rattle.exact.proofs.Statements.Words.{Plain, corners_only}

-- ---- corners by their numbers
pub corner→ : (t : Tri) (i : ℕ) → or (eqb i t.one) (or (eqb i t.two) (eqb i t.three)) ≡ true → CornerOf t i
corner→ t i e = elim (or→ (eqb i t.one) (or (eqb i t.two) (eqb i t.three)) e) [
  | inl f ↦ inl (eqb-true i t.one f)
  | inr r ↦ elim (or→ (eqb i t.two) (eqb i t.three) r) [ inl f ↦ inr (inl (eqb-true i t.two f)) | inr f ↦ inr (inr (eqb-true i t.three f)) ]
]

pub corner_rot : (t : Tri) (i : ℕ) → CornerOf t i → (b c : ℕ) × Rot t i b c
corner_rot t i (inl e) = (t.two, t.three, subst (λ (k : ℕ). Rot t k t.two t.three) (sym e) rot₁)
corner_rot t i (inr (inl e)) = (t.three, t.one, subst (λ (k : ℕ). Rot t k t.three t.one) (sym e) rot₂)
corner_rot t i (inr (inr e)) = (t.one, t.two, subst (λ (k : ℕ). Rot t k t.one t.two) (sym e) rot₃)

-- ---- a tiling by triangles that have vertices at their corners alone
pub record ProperTiling (vs : List Vertex) (ts : List Tri) : Type 0 where
  pub ones : (i : ℕ) → (spot vs i).w ≡ 1
  pub same : (i j : ℕ) → i < length vs → j < length vs → Same (site vs ones i) (site vs ones j) → i ≡ j
  pub triangle : (t : Tri) → In t ts → Triangle vs t
  pub cover : (x : Point) → 1 ≤ x.w → ((i j : ℕ) → AllLeft vs i j → Sign false (orient (spot vs i) (spot vs j) x)) → (t : Tri) × In t ts × InFace vs t false x
  pub once : (x : Point) → 1 ≤ x.w → (t u : Tri) → In t ts → In u ts → InFace vs t true x → InFace vs u true x → t ≡ u
  pub corners : (t : Tri) → In t ts → (i : ℕ) → i < length vs → InFace vs t false (spot vs i) → (b c : ℕ) × Rot t i b c

pub different_apart : {vs : List Vertex} {ts : List Tri} (T : ProperTiling vs ts) (i j : ℕ) → i < length vs → j < length vs → ¬ (i ≡ j) → Apart (site vs T.ones i) (site vs T.ones j)
different_apart {vs} T i j l m ne = elim (same_or_apart (site vs T.ones i) (site vs T.ones j)) [ inl s ↦ absurd (ne (T.same i j l m s)) | inr h ↦ h ]

module _ (vs : List Vertex) (ts : List Tri) (pl : Plain vs) (tl : Tiles vs ts) where
  ones : (i : ℕ) → (spot vs i).w ≡ 1
  ones = spot_whole vs pl.1

  triangle : (t : Tri) → In t ts → Triangle vs t
  unfolding Tiles
  triangle t i = a_triangle→ vs t (every→ (a_triangle vs) ts tl.0 t i)

  tiling_with : ((t : Tri) → In t ts → (i : ℕ) → i < length vs → InFace vs t false (spot vs i) → (b c : ℕ) × Rot t i b c) → ProperTiling vs ts
  unfolding Tiles
  tiling_with corners = record {
    ones = ones;
    same = same_site vs ones pl.0;
    triangle = triangle;
    cover = λ x l h. let r = any→ (λ t. in_tri vs t x) ts (tl.2 x (le-leb 1 x.w l) (in_hull← vs x h)) in (r.0, r.1, in_tri→ vs r.0 x r.2);
    once = λ x l t u i j p q. those_once (λ t. inside_tri vs t x) ts (leb-true (length (those (λ t. inside_tri vs t x) ts)) 1 (tl.3 x (le-leb 1 x.w l))) t u i j (inside_tri← vs t x p) (inside_tri← vs u x q);
    corners = corners;
  }

  pub corners_tiling : every (corners_only vs) ts ≡ true → ProperTiling vs ts
  corners_tiling h = tiling_with (λ t i k l f. elim (or→ (or (eqb k t.one) (or (eqb k t.two) (eqb k t.three))) (not (in_tri vs t (spot vs k)))
      (every→ (λ i. or (or (eqb i t.one) (or (eqb i t.two) (eqb i t.three))) (not (in_tri vs t (spot vs i)))) (all_numbers vs) (every→ (corners_only vs) ts h t i) k (up_to← (length vs) k l))) [
        | inl e ↦ corner_rot t k (corner→ t k e)
        | inr e ↦ absurd (true_false (in_tri vs t (spot vs k)) (in_tri← vs t (spot vs k) f) (not-true (in_tri vs t (spot vs k)) e))
      ])

  -- what is in a closed triangle and not inside its circle is a corner
  pub empty_tiling : every (empty_circle vs) ts ≡ true → ProperTiling vs ts
  empty_tiling h = tiling_with (λ t i. corner_of vs ones pl.0 t (triangle t i) (every→ (empty_circle vs) ts h t i))
