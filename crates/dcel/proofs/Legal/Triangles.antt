-- The triangles of a change: their faces are those of its places, and each is listed with a half edge of its own.
use Rattle.std.proofs.Common.{◌≡◌, ℕ, ◌≢◌, List, [], ◌∷◌, sym, refl, subst, inl, inr}
use Rattle.dcel.specs.Pairs.{Pairs, All, Source}
use Rattle.dcel.specs.Map.{Map}
use Rattle.dcel.specs.Patch.{Triangle, triangle_links, triangle_sides, triangle_edges, Change, patch_of}
use Rattle.dcel.proofs.Changes.{each}
use Rattle.dcel.proofs.Fits.{IsPatched}

abbrev pub EachFace : (ℕ → Type 0) → List Triangle → Type 0
EachFace Q [] = Unit {0}
EachFace Q (t ∷ ts) = Q t.face × EachFace Q ts

-- what holds of the faces of the triangles, and at the chain, holds at all links
pub at_links : (n : Map) (Q : ℕ → Type 0) (ts : List Triangle) (chain others : Pairs) → All (λ e f. n.face e ≡ f) (triangle_sides ts others) → EachFace Q ts → All (λ e g. Q (n.face e)) chain →
    All (λ e g. Q (n.face e)) (triangle_links ts chain)
at_links n Q [] chain others a q r = r
at_links n Q (t ∷ ts) chain others a q r = (subst Q (sym a.0) q.0, (subst Q (sym a.1.0) q.0, (subst Q (sym a.1.1.0) q.0, at_links n Q ts chain others a.1.1.1 q.1 r)))

own_faces : (Q : ℕ → Type 0) (ts : List Triangle) → ((f : ℕ) → Source f (triangle_edges ts) → Q f) → EachFace Q ts
own_faces Q [] k = tt
own_faces Q (t ∷ ts) k = (k t.face (inl refl), own_faces Q ts (λ f s. k f (inr s)))

-- where the chain is outer, every inner face that the change comes by is listed
pub faces_listed : (m n : Map) (c : Change) → IsPatched m n (patch_of c) → All (λ e g. n.face e ≡ 0) c.chain → All (λ e g. n.face e ≢ 0 → Source (n.face e) (triangle_edges c.triangles)) (triangle_links c.triangles c.chain)
faces_listed m n c d outer =
    at_links n (λ f. f ≢ 0 → Source f (triangle_edges c.triangles)) c.triangles c.chain c.others d.face_at (own_faces _ c.triangles (λ f s _. s)) (each _ _ c.chain (λ e g z y. absurd (y z)) outer)
