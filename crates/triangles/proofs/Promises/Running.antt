-- How a command goes, act by act.
use Rattle.std.proofs.Common.{◌≡◌, ℕ, suc, ◌<◌, ◌≤◌, List, [], ◌∷◌, ◌++◌, length, refl}
use Rattle.std.proofs.lemmas.Bool.{le-leb, lt-ltb}
use Rattle.triangles.specs.Machine.{does}
use Rattle.triangles.specs.Promise.{Event, next, shows, done, refused, Engine, ran, one_act, runs}

module _ (e : Engine) (m : List ℕ) (v : Event) (ss : List (List ℕ)) (fuel : ℕ) (n : List ℕ) where
  pub runs_refused : (k : ℕ) → e.step m v ≡ does n (refused k) → 1 ≤ k → k < 1000 → runs (suc fuel) e m v ss ≡ ran n ss k
  unfolding runs one_act
  runs_refused k q h l = rw (q, le-leb 1 k h, lt-ltb k 1000 l) refl

  pub runs_done : e.step m v ≡ does n done → runs (suc fuel) e m v ss ≡ ran n ss 0
  unfolding runs one_act
  runs_done q = rw q refl

  pub runs_shows : (r : List ℕ) → e.step m v ≡ does n (shows r) → length r ≤ 4 → runs (suc fuel) e m v ss ≡ runs fuel e n next (ss ++ r ∷ [])
  unfolding runs one_act
  runs_shows r q h = rw (q, le-leb (length r) 4 h) refl
