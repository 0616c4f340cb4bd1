-- How many ears can be closed: each takes one outer half edge away, and one always stays.
use Rattle.std.proofs.Common.{◌≡◌, ℕ, ◌+◌, ◌-◌, ◌≤◌, arith}
use Rattle.dcel.specs.Map.{Map}
use Rattle.dcel.specs.Mesh.{outer_count, Mesh}
use Rattle.dcel.specs.Patch.{patched}
use Rattle.dcel.specs.Surgery.{Outer, attach_patch, Ear, ear_patch}
use Rattle.dcel.proofs.Counting.{zero_count_most, zero_count_some}
use Rattle.dcel.proofs.OuterAttach.{attach_surgery}
use Rattle.dcel.proofs.EarClose.{ear_surgery}
use Rattle.dcel.proofs.Horizon.EarClosed.{ear_closed, face_uw}

-- outer half edges but for one
abbrev pub to_close : Map → ℕ
to_close m = outer_count m - 1

pub attach_to_close : (m : Map) → Mesh m → (e : ℕ) → Outer m e → to_close (patched (attach_patch m e) m) ≤ m.half_edges
attach_to_close m M e may = omega (arith, M.counts.half_edges_are, (attach_surgery m M e may).counts.half_edges_are, zero_count_most m.face m.half_edges)

pub ear_to_close : (m : Map) → Mesh m → (e : ℕ) → Ear m e → to_close (patched (ear_patch m e) m) + 1 ≡ to_close m
ear_to_close m M e may =
    let n = patched (ear_patch m e) m in
    let K = ear_surgery m M e may in
    let z : n.face m.half_edges ≡ 0 = face_uw (ear_closed m M e may) in
    omega (arith, M.counts.half_edges_are, K.counts.half_edges_are, zero_count_some n.face n.half_edges m.half_edges (omega arith) z)
