-- The words of the theorems on triangulations. They have the same bodies as in the promise of the crate above, so that its theorems are those of this folder by unfolding.
use Rattle.std.proofs.Common.{◌≡◌, ℕ, Bool, true, not, ◌&&◌, eqb, List}
use Rattle.exact.specs.Plane.{or, every, any, Vertex, spot, Tri, all_apart, goes, inside_circle, in_tri, outer_edge, all_numbers, circle, below_0}

abbrev pub Plain : List Vertex → Type 0
Plain vs = (all_apart vs ≡ true) × (every (λ v. eqb v.at.w 1) vs ≡ true)

abbrev pub has_tri : List Tri → Tri → Bool
has_tri ts t = any (λ u. eqb u.one t.one && (eqb u.two t.two && eqb u.three t.three)) ts

-- no vertex but its corners is in the circle of t or on it
abbrev pub no_more_on : List Vertex → Tri → Bool
no_more_on vs t =
    every (λ i. or (or (eqb i t.one) (or (eqb i t.two) (eqb i t.three))) (below_0 (circle (spot vs t.one) (spot vs t.two) (spot vs t.three) (spot vs i)))) (all_numbers vs)

abbrev pub on_hull : List Vertex → List Tri → ℕ → Bool
on_hull vs ts i = any (outer_edge vs ts i) (all_numbers vs)

-- of two triangles along one edge neither has the other's corner inside its circle
abbrev pub locally : List Vertex → List Tri → Bool
locally vs ts =
    every (λ t. every (λ u.
    or (not (or (goes u t.two t.one) (or (goes u t.three t.two) (goes u t.one t.three))))
    (not (or (inside_circle (spot vs t.one) (spot vs t.two) (spot vs t.three) (spot vs u.one))
    (or (inside_circle (spot vs t.one) (spot vs t.two) (spot vs t.three) (spot vs u.two))
    (inside_circle (spot vs t.one) (spot vs t.two) (spot vs t.three) (spot vs u.three)))))) ts) ts

-- no vertex is in t but at its corners
abbrev pub corners_only : List Vertex → Tri → Bool
corners_only vs t =
    every (λ i. or (or (eqb i t.one) (or (eqb i t.two) (eqb i t.three))) (not (in_tri vs t (spot vs i)))) (all_numbers vs)
