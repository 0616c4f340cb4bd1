-- Faces put on the list one after the other: just their edges come on it.
use Rattle.std.proofs.Common.{◌≡◌, ℕ, ◌*◌, ◌/◌, ◌<◌, List, [], ◌∷◌, sym, refl, subst, inl, inr, arith}
use Rattle.exact.proofs.Lists.{In}
use Rattle.dcel.specs.Layout.{Size}
use Rattle.dcel.specs.Map.{Map}
use Rattle.dcel.specs.Mesh.{Sound}
use Rattle.dcel.specs.Memory.{map_of, half_edges_in}
use Rattle.dcel.specs.Holds.{Holds}
use Rattle.dcel.specs.Legal.{EdgeListed, Ready}
use Rattle.delaunay.specs.Places.{place_of}
use Rattle.delaunay.specs.Worklist.{pushed_face}
use Rattle.delaunay.specs.Kept.{Held, AmongListed, Lists, HalfListed, Unsettled}
use Rattle.delaunay.proofs.Settling.Beside.{SameButList}
use Rattle.delaunay.proofs.Settling.Pushing.{Adds, adds_none, add_face}
use Rattle.delaunay.proofs.Settling.Halves.{edge_on, adds_unsettled}

-- each face by one of its half edges; the last of them first
abbrev pub pushed_faces : Size → List ℕ → List ℕ → List ℕ
pushed_faces s m [] = m
pushed_faces s m (e ∷ es) = pushed_face s (pushed_faces s m es) e

abbrev pub sides_of : Map → List ℕ → List ℕ
sides_of g [] = []
sides_of g (e ∷ es) = g.prev e ∷ g.next e ∷ e ∷ sides_of g es

abbrev pub AllBelow : ℕ → List ℕ → Type 0
AllBelow n es = (e : ℕ) → In e es → e < n

-- the three edges of a face are listed
pub record FaceListed (g : Map) (l : List ℕ) (e : ℕ) : Type 0 where
  pub here : EdgeListed (HalfListed l) e
  pub next : EdgeListed (HalfListed l) (g.next e)
  pub prev : EdgeListed (HalfListed l) (g.prev e)

pub sides_below : (g : Map) → Sound g → (es : List ℕ) → AllBelow g.half_edges es → AllBelow g.half_edges (sides_of g es)
sides_below g S [] h x k = absurd k
sides_below g S (e ∷ es) h x (inl q) = omega (arith, S.prev_in e (h e (inl refl)))
sides_below g S (e ∷ es) h x (inr (inl q)) = omega (arith, S.next_in e (h e (inl refl)))
sides_below g S (e ∷ es) h x (inr (inr (inl q))) = omega (arith, h e (inl refl))
sides_below g S (e ∷ es) h x (inr (inr (inr k))) = sides_below g S es (λ f a. h f (inr a)) x k

pub sides_listed : (g : Map) (l es : List ℕ) → ((x : ℕ) → In x (sides_of g es) → AmongListed (x / 2) l) → (e : ℕ) → In e es → FaceListed g l e
sides_listed g l [] h e k = absurd k
sides_listed g l (f ∷ es) h e (inl q) = subst (FaceListed g l) (sym q) (record { here = edge_on l f (h f (inr (inr (inl refl)))); next = edge_on l (g.next f) (h (g.next f) (inr (inl refl))); prev = edge_on l (g.prev f) (h (g.prev f) (inl refl)) })
sides_listed g l (f ∷ es) h e (inr k) = sides_listed g l es (λ x a. h x (inr (inr (inr a)))) e k

pub adds_faces : (s : Size) (m l es : List ℕ) → Holds s m → Lists s m l → AllBelow (half_edges_in s m) es → Adds s m l (sides_of (map_of s m) es) (pushed_faces s m es)
adds_faces s m l [] H L h = adds_none s m l L
adds_faces s m l (e ∷ es) H L h = add_face s m l (sides_of (map_of s m) es) (pushed_faces s m es) H (adds_faces s m l es H L (λ f a. h f (inr a))) e (h e (inl refl))

-- on a list that was empty nothing else is
pub just_faces : (s : Size) (m es n : List ℕ) (A : Adds s m [] es n) (i : ℕ) → AmongListed i A.list → (e : ℕ) × In e es × (i ≡ e / 2)
just_faces s m es n A i k = elim (A.only i k) [ inl a ↦ absurd a | inr a ↦ a ]

-- n is m with edges put on the list, and all that may be wrong are on it
pub record Pends (s : Size) (m n : List ℕ) : Type 0 where
  pub list : List ℕ
  pub unsettled : Unsettled s n list
  pub beside : SameButList s m n

pub faces_pend : (s : Size) (m l es : List ℕ) → Held s m → Lists s m l → ((i : ℕ) → AmongListed i l → 2 * i < half_edges_in s m) → AllBelow (half_edges_in s m) es →
    ((r : List ℕ) → ((i : ℕ) → AmongListed i l → AmongListed i r) → ((e : ℕ) → In e es → FaceListed (map_of s m) r e) → Ready (place_of s m) (map_of s m) (HalfListed r)) →
    Pends s m (pushed_faces s m es)
faces_pend s m l es H L old h R =
    let A = adds_faces s m l es H.holds L h in
    record {
      list = A.list;
      unsettled = adds_unsettled s m l _ _ H A old (sides_below (map_of s m) H.holds.mesh.sound es h) (R A.list A.old (sides_listed (map_of s m) A.list es A.new));
      beside = A.beside;
    }
