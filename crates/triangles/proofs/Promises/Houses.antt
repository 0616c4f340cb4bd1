-- The vertices and triangles that memory stands for, and what it is for a command to be answered rightly.
use Rattle.std.proofs.Common.{◌≡◌, ℕ, ◌<◌, true, false, List, [], sym, refl, ap, subst, ap₂, arith}
use Rattle.exact.proofs.Booleans.{true_false}
use Rattle.dcel.specs.Layout.{Size}
use Rattle.dcel.specs.Memory.{map_of}
use Rattle.dcel.specs.Geometry.{triangles}
use Rattle.delaunay.specs.Kept.{vertices_of, Standing}
use Rattle.triangles.specs.House.{House, house, Command, refusal, After, Shown, core}
use Rattle.triangles.specs.Promise.{said, Ran, ran, runs}
use Rattle.triangles.specs.Machine.{machine}
use Rattle.triangles.proofs.Promises.Modes.{Alike, map_alike, vertices_alike, standing_alike}

abbrev pub house_of : Size → List ℕ → House
house_of s m = house (vertices_of s m) (triangles (map_of s m))

pub record Stands (s : Size) (m : List ℕ) (h : House) : Type 0 where
  pub standing : Standing s m
  pub house_is : h ≡ house_of s m

pub stands_itself : (s : Size) (m : List ℕ) → Standing s m → Stands s m (house_of s m)
stands_itself s m t = record { standing = t; house_is = refl }

pub house_alike : {s : Size} {m n : List ℕ} → Alike s m n → house_of s n ≡ house_of s m
house_alike a = ap₂ house (vertices_alike a) (ap triangles (map_alike a))

pub stands_alike : {s : Size} {m n : List ℕ} → Alike s m n → Standing s m → Stands s n (house_of s m)
stands_alike a t = record { standing = standing_alike a t; house_is = sym (house_alike a) }

-- how a command is to go, with what it leaves
abbrev pub Goes : House → Command → House → Ran → Type 0
Goes h c h₁ r =
    (core c ≡ false → (r.end ≡ 2) × (r.showed ≡ []) × (h₁ ≡ h))
    × (core c ≡ true → 0 < refusal h c → (r.end ≡ refusal h c) × (r.showed ≡ []) × (h₁ ≡ h))
    × (core c ≡ true → refusal h c ≡ 0 → (r.end ≡ 0) × After h c h₁ × Shown h c h₁ r.showed)

module _ (h : House) (c : Command) (m : List ℕ) where
  pub goes_unknown : core c ≡ false → Goes h c h (ran m [] 2)
  goes_unknown u = (λ e. (refl, refl, refl), λ e. absurd (true_false (core c) e u), λ e. absurd (true_false (core c) e u))

  pub goes_refused : (k : ℕ) → core c ≡ true → refusal h c ≡ k → 0 < k → Goes h c h (ran m [] k)
  goes_refused k u q p = (λ e. absurd (true_false (core c) u e), λ e z. (sym q, refl, refl), λ e z. absurd (omega arith))

  pub goes_well : (h₁ : House) (ss : List (List ℕ)) → core c ≡ true → refusal h c ≡ 0 → After h c h₁ → Shown h c h₁ ss → Goes h c h₁ (ran m ss 0)
  goes_well h₁ ss u q a b = (λ e. absurd (true_false (core c) u e), λ e z. absurd (omega arith), λ e z. (refl, a, b))

pub record Answered (s : Size) (m : List ℕ) (h : House) (c : Command) : Type 0 where
  pub fuel : ℕ
  pub after : House
  pub goes : Goes h c after (runs fuel (machine s) m (said c) [])
  pub stands : Stands s (runs fuel (machine s) m (said c) []).memory after

pub answered : (s : Size) (m : List ℕ) (h : House) (c : Command) (n : ℕ) (h₁ : House) (r : Ran) → runs n (machine s) m (said c) [] ≡ r → Goes h c h₁ r → Stands s r.memory h₁ → Answered s m h c
answered s m h c n h₁ r q g t = record {
  fuel = n;
  after = h₁;
  goes = subst (Goes h c h₁) (sym q) g;
  stands = subst (λ (r : Ran). Stands s r.memory h₁) (sym q) t;
}
