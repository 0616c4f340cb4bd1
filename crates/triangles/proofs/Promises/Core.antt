-- Every list of commands is answered rightly, from the start on.
use Rattle.std.proofs.Common.{◌≡◌, ℕ, true, false, ◌&&◌, ltb, List, [], ◌∷◌, sym, refl, subst, arith}
use Rattle.exact.specs.Plane.{every}
use Rattle.exact.proofs.Booleans.{and_left, and_right}
use Rattle.dcel.specs.Layout.{Size}
use Rattle.delaunay.specs.Kept.{Standing}
use Rattle.triangles.specs.House.{House, Command, insert, remove, locate, nearest, all_faces, around, hull, clear, small_command, core}
use Rattle.triangles.specs.Promise.{said, ran, refused, Right}
use Rattle.triangles.specs.Machine.{does, machine, machine_step}
use Rattle.triangles.proofs.Promises.Running.{runs_refused}
use Rattle.triangles.proofs.Promises.Houses.{house_of, Stands, stands_itself, goes_unknown, Answered, answered}
use Rattle.triangles.proofs.Promises.Inserting.{insert_answered}
use Rattle.triangles.proofs.Promises.Listing.{faces_answered}
use Rattle.triangles.proofs.Promises.Clearing.{clear_answered}

module _ (s : Size) (c_is : s.coordinates ≡ 1048576) (v_is : s.vertices ≡ 16384) where
  -- what isn't known is refused, and nothing is changed
  unknown_answered : (m : List ℕ) → Standing s m → (c : Command) → core c ≡ false → (machine s).step m (said c) ≡ does m (refused 2) → Answered s m (house_of s m) c
  unknown_answered m t c u q =
      answered s m (house_of s m) c 1 (house_of s m) (ran m [] 2) (runs_refused (machine s) m (said c) [] 0 m 2 q (omega arith) (omega arith)) (goes_unknown (house_of s m) c m u) (stands_itself s m t)

  every_answered : (m : List ℕ) → Standing s m → (c : Command) → small_command c ≡ true → Answered s m (house_of s m) c
  unfolding core machine machine_step small_command
  every_answered m t (insert a b d) e =
      insert_answered s c_is v_is m t a b d (and_right (ltb b 18446744073709551616) (ltb d 18446744073709551616) (and_right (ltb a 18446744073709551616) (ltb b 18446744073709551616 && ltb d 18446744073709551616) e))
  every_answered m t (remove i) e = unknown_answered m t (remove i) refl refl
  every_answered m t (locate a b) e = unknown_answered m t (locate a b) refl refl
  every_answered m t (nearest a b) e = unknown_answered m t (nearest a b) refl refl
  every_answered m t all_faces e = faces_answered s m t
  every_answered m t (around i) e = unknown_answered m t (around i) refl refl
  every_answered m t hull e = unknown_answered m t hull refl refl
  every_answered m t clear e = clear_answered s (omega arith) m t

  pub core_right : (cs : List Command) → every small_command cs ≡ true → (m : List ℕ) (h : House) → Stands s m h → Right core (machine s) m h cs
  unfolding Right every
  core_right [] e m h t = refl
  core_right (c ∷ cs) e m h t =
      let r : Answered s m h c = subst (λ (h : House). Answered s m h c) (sym t.house_is) (every_answered m t.standing c (and_left (small_command c) (every small_command cs) e)) in
      (r.fuel, r.after, r.goes, core_right cs (and_right (small_command c) (every small_command cs) e) _ r.after r.stands)
