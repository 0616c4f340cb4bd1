-- The machine, and what it promises. Each promise is a statement, a type whose proof is owed. Assumes nothing.
use Rattle.std.specs.Prelude.{◌≡◌, ℕ, zero, suc, ◌+◌, ◌*◌, ◌<◌, ◌≤◌, Bool, true, false, not, ◌&&◌, ltb, List, [], ◌∷◌, ◌++◌, length, ◌==◌, nat_eq, nat_le, nat_lt}
use Rattle.exact.specs.Plane.{pick, or, every, any, those, Point, point, Vertex, vertex, spot, Tri, all_apart, on_a_line, Delaunay, Tiles, empty_circle, inside_circle, goes, joined, outer_edge, all_numbers, circle, above_0, below_0, square, minus, side, left_of, in_tri}
use Rattle.triangles.specs.House.{House, house, Command, refusal, After, Shown, small_command, vertices_after, removed, found}

pub data Event : Type 0 where
  said : Command → Event
  next : Event

pub data Act : Type 0 where
  shows : List ℕ → Act  -- up to four numbers
  done : Act
  refused : ℕ → Act

pub record Step : Type 0 where
  pub memory : List ℕ
  pub act : Act

pub record Engine : Type 0 where
  pub start : List ℕ
  pub step : List ℕ → Event → Step

-- how a command went: what was shown, and the end: 0 done, a refusal, 1000 still at it, 1001 a fault
pub record Ran : Type 0 where
  pub memory : List ℕ
  pub showed : List (List ℕ)
  pub end : ℕ

abbrev pub ran : List ℕ → List (List ℕ) → ℕ → Ran
ran m ss e = record { memory = m; showed = ss; end = e }

unfoldable pub one_act : (List ℕ → List (List ℕ) → Ran) → List (List ℕ) → List ℕ → Act → Ran
one_act go ss m (shows s) = pick (nat_le (length s) 4) (go m (ss ++ s ∷ [])) (ran m ss 1001)
one_act go ss m done = ran m ss 0
one_act go ss m (refused k) = ran m ss (pick (nat_le 1 k && nat_lt k 1000) k 1001)

unfoldable pub runs : ℕ → Engine → List ℕ → Event → List (List ℕ) → Ran
runs zero e m ev ss = ran m ss 1000
runs (suc n) e m ev ss = one_act (λ m₁ ss₁. runs n e m₁ next ss₁) ss (e.step m ev).memory (e.step m ev).act

unfoldable pub all_small : List ℕ → Bool
all_small ms = every (λ m. ltb m 18446744073709551616) ms

-- memory is all 0 at the start; it never grows, nor do its numbers beyond 64 bits
unfoldable pub Steady : Engine → Type 0
Steady e =
    (length e.start ≤ 1048576) × (every (λ m. nat_eq m 0) e.start ≡ true)
    × ((m : List ℕ) (ev : Event) → (length (e.step m ev).memory ≡ length m) × (all_small m ≡ true → all_small (e.step m ev).memory ≡ true))

unfoldable pub Right : (Command → Bool) → Engine → List ℕ → House → List Command → Type 0
Right known e m h [] = zero ≡ zero
Right known e m h (c ∷ cs) =
    (n : ℕ) × (h₁ : House)
    × ((known c ≡ false → ((runs n e m (said c) []).end ≡ 2) × ((runs n e m (said c) []).showed ≡ []) × (h₁ ≡ h))
    × (known c ≡ true → 0 < refusal h c → ((runs n e m (said c) []).end ≡ refusal h c) × ((runs n e m (said c) []).showed ≡ []) × (h₁ ≡ h))
    × (known c ≡ true → refusal h c ≡ 0 → ((runs n e m (said c) []).end ≡ 0) × After h c h₁ × Shown h c h₁ (runs n e m (said c) []).showed))
    × Right known e (runs n e m (said c) []).memory h₁ cs

-- THE MAIN PROMISE, for every list of commands
unfoldable pub Whole : (Command → Bool) → Engine → Type 0
Whole known e =
    Steady e × ((cs : List Command) → length cs ≤ 4294967296 → every small_command cs ≡ true → Right known e e.start (house [] []) cs)

abbrev pub Plain : List Vertex → Type 0
Plain vs = (all_apart vs ≡ true) × (every (λ v. nat_eq v.at.w 1) vs ≡ true)

-- 1. There always is one; and without four vertices on an empty circle there's only one, but for the order of its triangles.
unfoldable pub ThereIs : Type 0
ThereIs = (vs : List Vertex) → Plain vs → (ts : List Tri) × Delaunay vs ts

unfoldable pub has_tri : List Tri → Tri → Bool
has_tri ts t = any (λ u. (u.one == t.one) && (u.two == t.two && u.three == t.three)) ts

unfoldable pub no_more_on : List Vertex → Tri → Bool
no_more_on vs t =
    every (λ i. or (or (i == t.one) (or (i == t.two) (i == t.three))) (below_0 (circle (spot vs t.one) (spot vs t.two) (spot vs t.three) (spot vs i)))) (all_numbers vs)

unfoldable pub OnlyOne : Type 0
OnlyOne =
    (vs : List Vertex) (ts us : List Tri) → Plain vs → Delaunay vs ts → Delaunay vs us → every (no_more_on vs) ts ≡ true → every (has_tri us) ts && every (has_tri ts) us ≡ true

-- 2. All vertices are in triangles, if they aren't on one line; and how many triangles there are.
unfoldable pub on_hull : List Vertex → List Tri → ℕ → Bool
on_hull vs ts i = any (outer_edge vs ts i) (all_numbers vs)

unfoldable pub AllUsed : Type 0
AllUsed =
    (vs : List Vertex) (ts : List Tri) → Plain vs → Delaunay vs ts → on_a_line vs ≡ false →
    (every (λ i. any (joined vs ts i) (all_numbers vs)) (all_numbers vs) ≡ true)
    × (length ts + 2 + length (those (on_hull vs ts) (all_numbers vs)) ≡ 2 * length vs)

-- 3. If no vertex is in a triangle but at its corners, it's enough to look at neighbouring ones: if for each edge the vertex across isn't inside the circle, none is.
unfoldable pub locally : List Vertex → List Tri → Bool
locally vs ts =
    every (λ t. every (λ u.
    or (not (or (goes u t.two t.one) (or (goes u t.three t.two) (goes u t.one t.three))))
    (not (or (inside_circle (spot vs t.one) (spot vs t.two) (spot vs t.three) (spot vs u.one))
    (or (inside_circle (spot vs t.one) (spot vs t.two) (spot vs t.three) (spot vs u.two))
    (inside_circle (spot vs t.one) (spot vs t.two) (spot vs t.three) (spot vs u.three)))))) ts) ts

abbrev pub corners_only : List Vertex → Tri → Bool
corners_only vs t =
    every (λ i. or (or (i == t.one) (or (i == t.two) (i == t.three))) (not (in_tri vs t (spot vs i)))) (all_numbers vs)

unfoldable pub LocalSuffices : Type 0
LocalSuffices =
    (vs : List Vertex) (ts : List Tri) → Plain vs → Tiles vs ts → every (corners_only vs) ts ≡ true → locally vs ts ≡ true → every (empty_circle vs) ts ≡ true

-- 4. The vertex nearest to another one is joined to it, if it's the only nearest.
unfoldable pub NearestJoined : Type 0
NearestJoined =
    (vs : List Vertex) (ts : List Tri) (i j : ℕ) → Plain vs → Delaunay vs ts → i < length vs → j < length vs → (i == j) ≡ false →
    every (λ k. or (or (k == i) (k == j)) (above_0 (minus (square (spot vs i) (spot vs k)) (square (spot vs i) (spot vs j))))) (all_numbers vs) ≡ true →
    joined vs ts i j ≡ true

-- and of any place: if no vertex that is joined to i is nearer to it than i is, none is at all
unfoldable pub NoneNearer : Type 0
NoneNearer =
    (vs : List Vertex) (ts : List Tri) (p : Point) (i : ℕ) → Plain vs → Delaunay vs ts → i < length vs →
    every (λ k. or (not (joined vs ts i k)) (not (above_0 (minus (square p (spot vs i)) (square p (spot vs k)))))) (all_numbers vs) ≡ true →
    every (λ v. not (above_0 (minus (square p (spot vs i)) (square p v.at)))) vs ≡ true

-- 5. Circle and side don't depend on where one begins; and turned round, the signs are.
unfoldable pub Turns : Type 0
Turns =
    (p q r s : Point) → p.w ≡ 1 → q.w ≡ 1 → r.w ≡ 1 → s.w ≡ 1 →
    (above_0 (circle p q r s) ≡ above_0 (circle q r p s)) × (above_0 (circle p q r s) ≡ below_0 (circle q p r s))
    × (above_0 (side p q r) ≡ above_0 (side q r p)) × (above_0 (side p q r) ≡ below_0 (side q p r))

-- 6. Of two triangles that share an edge and whose four corners make a convex row, one way round or the other does, and both only if all four are on a circle.
unfoldable pub OneDiagonal : Type 0
OneDiagonal =
    (p q r s : Point) → p.w ≡ 1 → q.w ≡ 1 → r.w ≡ 1 → s.w ≡ 1 →
    left_of p q r ≡ true → left_of p r s ≡ true → left_of q r s ≡ true → left_of q s p ≡ true →
    (above_0 (circle p q r s) ≡ below_0 (circle q r s p)) × (above_0 (circle p q r s) ≡ above_0 (circle p r s q))

-- 7. Vertices stay apart, whatever is said; and what's removed just after it came leaves the others as they were.
unfoldable pub StayApart : Type 0
StayApart = (h : House) (c : Command) → Plain h.vertices → refusal h c ≡ 0 → Plain (vertices_after h c)

unfoldable pub ComeAndGone : Type 0
ComeAndGone =
    (vs : List Vertex) (a b d : ℕ) → found vs (point a b) ≡ [] → removed (vs ++ vertex a b d ∷ []) (length vs) ≡ vs
