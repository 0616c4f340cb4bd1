-- Half edges of listed edges, and memory whose wrong edges are all on the list.
use Rattle.std.proofs.Common.{◌≡◌, ℕ, ◌+◌, ◌*◌, ◌/◌, ◌<◌, ◌⊎◌, List, ◌∷◌, inl, inr, arith}
use Rattle.std.proofs.lemmas.Bool.{cases_eq}
use Rattle.exact.proofs.Lists.{In}
use Rattle.dcel.specs.Layout.{Size}
use Rattle.dcel.specs.Map.{twin}
use Rattle.dcel.specs.Memory.{map_of, half_edges_in}
use Rattle.dcel.specs.Legal.{EdgeListed, Ready}
use Rattle.dcel.proofs.Legal.Steps.{AllBut}
use Rattle.delaunay.specs.Places.{place_of}
use Rattle.delaunay.specs.Kept.{Held, AmongListed, HalfListed, Unsettled}
use Rattle.delaunay.proofs.Settling.Beside.{beside, beside_vertices, beside_held}
use Rattle.delaunay.proofs.Settling.Pushing.{Adds}

pub edge_on : (l : List ℕ) (e : ℕ) → AmongListed (e / 2) l → EdgeListed (HalfListed l) e
edge_on l e k = inl (e / 2, k, elim (cases_eq e (2 * (e / 2))) [ inl q ↦ inl q | inr q ↦ inr (omega arith) ])

pub still_on : (l r : List ℕ) → ((i : ℕ) → AmongListed i l → AmongListed i r) → (e : ℕ) → EdgeListed (HalfListed l) e → EdgeListed (HalfListed r) e
still_on l r f e (inl k) = inl (k.0, f k.0 k.1, k.2)
still_on l r f e (inr k) = inr (k.0, f k.0 k.1, k.2)

even_twin : (i : ℕ) → twin (2 * i) ≡ 2 * i + 1
unfolding twin
even_twin i = omega arith

-- without the first
pub first_off : (i : ℕ) (l : List ℕ) → AllBut (HalfListed (i ∷ l)) (2 * i) (HalfListed l)
first_off i l x p q (j, inl h, inl c) = absurd (p (omega arith))
first_off i l x p q (j, inl h, inr c) = absurd (q (omega (arith, even_twin i)))
first_off i l x p q (j, inr k, c) = inl (j, k, c)

-- with the edges that may be wrong put on
pub adds_unsettled : (s : Size) (m l es n : List ℕ) → Held s m → (A : Adds s m l es n) → ((i : ℕ) → AmongListed i l → 2 * i < half_edges_in s m) → ((e : ℕ) → In e es → e < half_edges_in s m) →
    Ready (place_of s m) (map_of s m) (HalfListed A.list) → Unsettled s n A.list
adds_unsettled s m l es n H A old new R = record {
  held = beside_held s m n A.beside H;
  lists = A.lists;
  listed_in = λ i k. omega (arith, within i (A.only i k), (beside_vertices s m n A.beside).half_edges_are);
  ready = beside s m n A.beside (λ pos g. Ready pos g (HalfListed A.list)) R;
}
  where
    within : (i : ℕ) → AmongListed i l ⊎ ((e : ℕ) × In e es × (i ≡ e / 2)) → 2 * i < half_edges_in s m
    within i (inl k) = old i k
    within i (inr (e, k, q)) = omega (arith, new e k)
