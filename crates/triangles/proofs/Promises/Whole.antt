-- The main promise for the core.
use Rattle.std.proofs.Common.{◌≡◌, true, List, [], refl, arith}
use Rattle.exact.specs.Plane.{every}
use Rattle.dcel.specs.Layout.{Size, real}
use Rattle.triangles.specs.House.{Command, house, small_command, core}
use Rattle.triangles.specs.Promise.{Right, Whole}
use Rattle.triangles.specs.Machine.{machine}
use Rattle.triangles.proofs.Promises.Clearing.{start_stands}
use Rattle.triangles.proofs.Promises.Core.{core_right}
use Rattle.triangles.proofs.Promises.Steadiness.{machine_steady}

-- over any size with the limits of the refusals, so that none of the numbers is counted out
module _ (s : Size) (c_is : s.coordinates ≡ 1048576) (v_is : s.vertices ≡ 16384) where
  right_from_start : (cs : List Command) → every small_command cs ≡ true → Right core (machine s) (machine s).start (house [] []) cs
  unfolding machine
  right_from_start cs e = core_right s c_is v_is cs e _ _ (start_stands s)

  pub whole : Whole core (machine s)
  unfolding Whole
  whole = (machine_steady s (record { short = omega arith; coordinates_few = omega arith }), λ cs l e. right_from_start cs e)

-- at the size in use
pub whole_core : Whole core (machine real)
whole_core = whole real refl refl
