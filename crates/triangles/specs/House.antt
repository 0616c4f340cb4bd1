-- What can be said to the triangulation, and what it is to answer. Assumes nothing: these are definitions.
use Rattle.std.specs.Prelude.{◌≡◌, ℕ, zero, suc, ◌+◌, ◌-◌, ◌<◌, ◌≤◌, Bool, true, false, not, ◌&&◌, ◌⊎◌, List, [], ◌∷◌, ◌++◌, length, nat_eq, nat_le, nat_lt}
use Rattle.exact.specs.Plane.{pick, or, every, any, those, each, none_of, Point, point, Vertex, vertex, vertex_at, spot, Tri, Delaunay, on_a_line, same_spot, joined, outer_edge, goes, inside_tri, same_tri, on_segment, left_of, all_numbers, square, above_0, minus}

pub record House : Type 0 where
  pub vertices : List Vertex  -- by their numbers
  pub tris : List Tri

abbrev pub house : List Vertex → List Tri → House
house vs ts = record { vertices = vs; tris = ts }

pub data Command : Type 0 where
  insert : ℕ → ℕ → ℕ → Command  -- x, y, data
  remove : ℕ → Command
  locate : ℕ → ℕ → Command
  nearest : ℕ → ℕ → Command
  all_faces : Command
  around : ℕ → Command  -- a vertex's neighbours
  hull : Command
  clear : Command

unfoldable pub found_from : ℕ → List Vertex → Point → List ℕ
found_from i [] p = []
found_from i (v ∷ vs) p = pick (same_spot v.at p) (i ∷ []) (found_from (suc i) vs p)

abbrev pub found : List Vertex → Point → List ℕ
found vs p = found_from 0 vs p

-- 3 no such vertex; 6 a coordinate of 2^20 or more; 7 there would be more than 16,384
unfoldable pub refusal : House → Command → ℕ
refusal h (insert a b d) =
    pick (nat_lt a 1048576 && nat_lt b 1048576) (pick (none_of (found h.vertices (point a b)) && nat_le 16384 (length h.vertices)) 7 0) 6
refusal h (remove i) = pick (nat_lt i (length h.vertices)) 0 3
refusal h (locate a b) = pick (nat_lt a 1048576 && nat_lt b 1048576) 0 6
refusal h (nearest a b) = pick (nat_lt a 1048576 && nat_lt b 1048576) 0 6
refusal h all_faces = 0
refusal h (around i) = pick (nat_lt i (length h.vertices)) 0 3
refusal h hull = 0
refusal h clear = 0

unfoldable pub set_nth : List Vertex → ℕ → Vertex → List Vertex
set_nth [] i x = []
set_nth (v ∷ vs) zero x = x ∷ vs
set_nth (v ∷ vs) (suc i) x = v ∷ set_nth vs i x

unfoldable pub all_but_last : List Vertex → List Vertex
all_but_last [] = []
all_but_last (v ∷ []) = []
all_but_last (v ∷ u ∷ vs) = v ∷ all_but_last (u ∷ vs)

-- the last one gets the number of what's removed
abbrev pub removed : List Vertex → ℕ → List Vertex
removed vs i = all_but_last (set_nth vs i (vertex_at vs (length vs - 1)))

unfoldable pub inserted : List Vertex → List ℕ → ℕ → ℕ → ℕ → List Vertex
inserted vs [] a b d = vs ++ vertex a b d ∷ []
inserted vs (i ∷ is) a b d = set_nth vs i (vertex a b d)

unfoldable pub vertices_after : House → Command → List Vertex
vertices_after h (insert a b d) = inserted h.vertices (found h.vertices (point a b)) a b d
vertices_after h (remove i) = removed h.vertices i
vertices_after h (locate a b) = h.vertices
vertices_after h (nearest a b) = h.vertices
vertices_after h all_faces = h.vertices
vertices_after h (around i) = h.vertices
vertices_after h hull = h.vertices
vertices_after h clear = []

-- are the triangles free to be others?
unfoldable pub changes : House → Command → Bool
changes h (insert a b d) = none_of (found h.vertices (point a b))
changes h (remove i) = true
changes h (locate a b) = false
changes h (nearest a b) = false
changes h all_faces = false
changes h (around i) = false
changes h hull = false
changes h clear = true

unfoldable pub After : House → Command → House → Type 0
After h c h₁ =
    (h₁.vertices ≡ vertices_after h c) × (changes h c ≡ false → h₁.tris ≡ h.tris) × (changes h c ≡ true → Delaunay h₁.vertices h₁.tris)

-- WHERE a point is: 0 on a vertex; 1 on an edge, not at its ends; 2 inside a face; 3 outside, with an outer edge that has it on its left; 4 there's no edge. With at
-- most one vertex there's none; with all on a line, a point on the line beyond the ends has an edge before it.
unfoldable pub beyond : List Vertex → ℕ → ℕ → Point → Bool
beyond vs a b p = or (left_of (spot vs a) (spot vs b) p) (not (left_of (spot vs b) (spot vs a) p) && (on_a_line vs && not (on_segment (spot vs a) (spot vs b) p)))

unfoldable pub on_an_edge : House → Point → Bool
on_an_edge h p =
    any (λ c. any (λ d. joined h.vertices h.tris c d && on_segment (spot h.vertices c) (spot h.vertices d) p) (all_numbers h.vertices)) (all_numbers h.vertices)

unfoldable pub Located : House → Point → List ℕ → Type 0
Located h p r =
    ((i : ℕ) × (r ≡ 0 ∷ i ∷ []) × (found h.vertices p ≡ i ∷ []))
    ⊎ ((found h.vertices p ≡ [])
    × (((a b : ℕ) × (r ≡ 1 ∷ a ∷ b ∷ []) × (joined h.vertices h.tris a b ≡ true) × (on_segment (spot h.vertices a) (spot h.vertices b) p ≡ true))
    ⊎ (((t : Tri) × (r ≡ 2 ∷ t.one ∷ t.two ∷ t.three ∷ []) × (any (same_tri t) h.tris ≡ true) × (inside_tri h.vertices t p ≡ true))
    ⊎ (((a b : ℕ) × (r ≡ 3 ∷ a ∷ b ∷ []) × (outer_edge h.vertices h.tris a b ≡ true) × (beyond h.vertices a b p ≡ true)
    × (on_an_edge h p ≡ false))
    ⊎ ((r ≡ 4 ∷ []) × (length h.vertices ≤ 1))))))

-- a nearest vertex: none is nearer
unfoldable pub Nearest : House → Point → List ℕ → Type 0
Nearest h p [] = h.vertices ≡ []
Nearest h p (i ∷ []) =
    (i < length h.vertices) × (every (λ v. not (above_0 (minus (square p (spot h.vertices i)) (square p v.at)))) h.vertices ≡ true)
Nearest h p (i ∷ j ∷ js) = zero ≡ suc zero

unfoldable pub rows_of : List Tri → List (List ℕ)
rows_of [] = []
rows_of (t ∷ ts) = (t.one ∷ t.two ∷ t.three ∷ []) ∷ rows_of ts

-- NEIGHBOURS of a vertex, all of them, each once: each next one is to the left of the one before, seen from it, with no other between; the first is any
unfoldable pub no_number_twice : List ℕ → Bool
no_number_twice [] = true
no_number_twice (k ∷ ks) = not (any (nat_eq k) ks) && no_number_twice ks

abbrev pub neighbours : House → ℕ → List ℕ
neighbours h i = those (joined h.vertices h.tris i) (all_numbers h.vertices)

abbrev pub same_numbers : List ℕ → List ℕ → Bool
same_numbers as₁ bs = every (λ a. any (nat_eq a) bs) as₁ && every (λ b. any (nat_eq b) as₁) bs

-- from each to the next there's a triangle, but for at most one step, round to the first
unfoldable pub steps_without : House → ℕ → ℕ → List ℕ → ℕ
steps_without h i f [] = 0
steps_without h i f (k ∷ []) = pick (any (λ t. goes t i k && goes t k f) h.tris) 0 1
steps_without h i f (k ∷ j ∷ js) = pick (any (λ t. goes t i k && goes t k j) h.tris) 0 1 + steps_without h i f (j ∷ js)

unfoldable pub first_of : List ℕ → ℕ
first_of [] = 0
first_of (k ∷ ks) = k

unfoldable pub Around : House → ℕ → List ℕ → Type 0
Around h i ks =
    (no_number_twice ks ≡ true) × (same_numbers ks (neighbours h i) ≡ true)
    × (on_a_line h.vertices ≡ false → nat_le (steps_without h i (first_of ks) ks) 1 ≡ true)

-- THE HULL, gone round to the right, as upstream does: each joined to the next by an edge with the outside on its left, round to the first
unfoldable pub chained : House → ℕ → List ℕ → Bool
chained h f [] = true
chained h f (k ∷ []) = outer_edge h.vertices h.tris k f
chained h f (k ∷ j ∷ js) = outer_edge h.vertices h.tris k j && chained h f (j ∷ js)

unfoldable pub HullRow : House → List ℕ → Type 0
HullRow h ks =
    (on_a_line h.vertices ≡ true → ks ≡ [])
    × (on_a_line h.vertices ≡ false →
    (no_number_twice ks ≡ true) × (chained h (first_of ks) ks ≡ true)
    × (every (λ i. or (any (nat_eq i) ks) (not (any (λ j. outer_edge h.vertices h.tris i j) (all_numbers h.vertices)))) (all_numbers h.vertices) ≡ true)
    × (none_of ks ≡ false))

unfoldable pub Shown : House → Command → House → List (List ℕ) → Type 0
Shown h (insert a b d) h₁ ss = ss ≡ found h₁.vertices (point a b) ∷ []
Shown h (remove i) h₁ ss = ss ≡ ((vertex_at h.vertices i).data_of ∷ []) ∷ []
Shown h (locate a b) h₁ ss = (r : List ℕ) × Located h (point a b) r × (ss ≡ r ∷ [])
Shown h (nearest a b) h₁ ss = (r : List ℕ) × Nearest h (point a b) r × (ss ≡ r ∷ [])
Shown h all_faces h₁ ss = ss ≡ rows_of h.tris
Shown h (around i) h₁ ss = (ks : List ℕ) × Around h i ks × (ss ≡ each (λ k. k ∷ []) ks)
Shown h hull h₁ ss = (ks : List ℕ) × HullRow h ks × (ss ≡ each (λ k. k ∷ []) ks)
Shown h clear h₁ ss = ss ≡ []

unfoldable pub small_command : Command → Bool
small_command (insert a b d) = nat_lt a 18446744073709551616 && (nat_lt b 18446744073709551616 && nat_lt d 18446744073709551616)
small_command (remove i) = nat_lt i 18446744073709551616
small_command (locate a b) = nat_lt a 18446744073709551616 && nat_lt b 18446744073709551616
small_command (nearest a b) = nat_lt a 18446744073709551616 && nat_lt b 18446744073709551616
small_command all_faces = true
small_command (around i) = nat_lt i 18446744073709551616
small_command hull = true
small_command clear = true

-- THE SMALL CORE: points come, and all faces are shown. The requests widen it, until everything is known.
unfoldable pub core : Command → Bool
core (insert a b d) = true
core (remove i) = false
core (locate a b) = false
core (nearest a b) = false
core all_faces = true
core (around i) = false
core hull = false
core clear = true

abbrev pub everything : Command → Bool
everything c = true
