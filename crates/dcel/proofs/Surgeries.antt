-- A patch that fits makes a mesh of a mesh.
use Rattle.std.proofs.Common.{◌*◌, ◌≤◌, arith}
use Rattle.dcel.specs.Layout.{Size}
use Rattle.dcel.specs.Map.{Map}
use Rattle.dcel.specs.Mesh.{Counts, Mesh}
use Rattle.dcel.specs.Patch.{Patch, patched}
use Rattle.dcel.proofs.Fits.{IsPatched, Distinct, is_patched, Relinks, Fits, RoundFits}
use Rattle.dcel.proofs.PatchSound.{patched_sound}
use Rattle.dcel.proofs.PatchRound.{patched_round}

-- all that a surgery owes
pub record Surgery (m : Map) (p : Patch) : Type 0 where
  pub distinct : Distinct p
  pub relinks : Relinks m p
  pub fits : (n : Map) → IsPatched m n p → Fits m n p
  pub round_fits : (n : Map) → IsPatched m n p → RoundFits m n p
  pub counts : Counts (patched p m)

pub surgery_mesh : (m : Map) (p : Patch) → Mesh m → Surgery m p → Mesh (patched p m)
surgery_mesh m p M K =
    let d = is_patched m p K.distinct in
    let w = K.fits (patched p m) d in
    record { sound = patched_sound m (patched p m) M.sound p d K.relinks w; round = patched_round m (patched p m) M.sound M.round p d w (K.round_fits (patched p m) d); counts = K.counts }

-- as many vertices as there is room for leave room for their half edges and faces
pub record Room (s : Size) (m : Map) : Type 0 where
  pub vertex_room : m.vertices ≤ s.vertices
  pub half_edge_room : m.half_edges ≤ 6 * s.vertices
  pub face_room : m.faces ≤ 2 * s.vertices

pub counts_room : (s : Size) (m : Map) → Counts m → m.vertices ≤ s.vertices → Room s m
counts_room s m c h = record { vertex_room = h; half_edge_room = omega (arith, c.half_edges_are); face_room = omega (arith, c.faces_are) }
