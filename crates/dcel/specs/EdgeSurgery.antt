-- A new vertex p on an edge e = ab, whose pair becomes ap; and a line made longer at its end.
use Rattle.std.specs.Prelude.{◌≡◌, ℕ, ◌+◌, ◌<◌, ◌≢◌, [], ◌∷◌}
use Rattle.dcel.specs.Map.{Map, twin}
use Rattle.dcel.specs.Patch.{triangle, Change, Patch, patch_of}

-- between the faces abc and bad: pairs pb, pc, pd; faces (ap, pc, ca), (pb, bc, cp), (pa, ad, dp), (bp, pd, db)
pub record InnerEdge (m : Map) (e : ℕ) : Type 0 where
  pub in_e : e < m.half_edges
  pub left : m.face e ≢ 0
  pub right : m.face (twin e) ≢ 0

abbrev pub split_inner_edge_change : Map → ℕ → Change
split_inner_edge_change m e =
    let ap = e in
    let pa = twin e in
    let bc = m.next ap in
    let ca = m.prev ap in
    let ad = m.next pa in
    let db = m.prev pa in
    let pb = m.half_edges in
    let bp = m.half_edges + 1 in
    let pc = m.half_edges + 2 in
    let cp = m.half_edges + 3 in
    let pd = m.half_edges + 4 in
    let dp = m.half_edges + 5 in
    let p = m.vertices in
    let b = m.origin pa in
    record {
      triangles = triangle ap pc ca (m.face ap) ∷ triangle pb bc cp m.faces ∷ triangle pa ad dp (m.face pa) ∷ triangle bp pd db (m.faces + 1) ∷ [];
      chain = [];
      others = [];
      origins = (pa, p) ∷ (pb, p) ∷ (bp, b) ∷ (pc, p) ∷ (cp, m.origin ca) ∷ (pd, p) ∷ (dp, m.origin db) ∷ [];
      outs = (p, pb) ∷ (b, bp) ∷ [];
      vertices = m.vertices + 1;
      half_edges = m.half_edges + 6;
      faces = m.faces + 2;
    }

abbrev pub split_inner_edge_patch : Map → ℕ → Patch
split_inner_edge_patch m e = patch_of (split_inner_edge_change m e)

-- with the outside across e: pairs pb, pc; faces (ap, pc, ca), (pb, bc, cp); the outer cycle goes on .. → bp → pa → ..
pub record HullEdge (m : Map) (e : ℕ) : Type 0 where
  pub in_e : e < m.half_edges
  pub left : m.face e ≢ 0
  pub right : m.face (twin e) ≡ 0

abbrev pub split_hull_edge_change : Map → ℕ → Change
split_hull_edge_change m e =
    let ap = e in
    let pa = twin e in
    let bc = m.next ap in
    let ca = m.prev ap in
    let pb = m.half_edges in
    let bp = m.half_edges + 1 in
    let pc = m.half_edges + 2 in
    let cp = m.half_edges + 3 in
    let p = m.vertices in
    let b = m.origin pa in
    record {
      triangles = triangle ap pc ca (m.face ap) ∷ triangle pb bc cp m.faces ∷ [];
      chain = (m.prev pa, bp) ∷ (bp, pa) ∷ [];
      others = (bp, 0) ∷ [];
      origins = (pa, p) ∷ (pb, p) ∷ (bp, b) ∷ (pc, p) ∷ (cp, m.origin ca) ∷ [];
      outs = (p, pb) ∷ (b, bp) ∷ [];
      vertices = m.vertices + 1;
      half_edges = m.half_edges + 4;
      faces = m.faces + 1;
    }

abbrev pub split_hull_edge_patch : Map → ℕ → Patch
split_hull_edge_patch m e = patch_of (split_hull_edge_change m e)

-- with the outside on both sides, where e does not end a line: pair pb; .. → ap → pb → .. and .. → bp → pa → ..
pub record LineEdge (m : Map) (e : ℕ) : Type 0 where
  pub in_e : e < m.half_edges
  pub left : m.face e ≡ 0
  pub right : m.face (twin e) ≡ 0
  pub more : m.next e ≢ twin e

abbrev pub split_line_edge_change : Map → ℕ → Change
split_line_edge_change m e =
    let ap = e in
    let pa = twin e in
    let pb = m.half_edges in
    let bp = m.half_edges + 1 in
    let p = m.vertices in
    let b = m.origin pa in
    record {
      triangles = [];
      chain = (ap, pb) ∷ (pb, m.next ap) ∷ (m.prev pa, bp) ∷ (bp, pa) ∷ [];
      others = (pb, 0) ∷ (bp, 0) ∷ [];
      origins = (pa, p) ∷ (pb, p) ∷ (bp, b) ∷ [];
      outs = (p, pb) ∷ (b, bp) ∷ [];
      vertices = m.vertices + 1;
      half_edges = m.half_edges + 2;
      faces = m.faces;
    }

abbrev pub split_line_edge_patch : Map → ℕ → Patch
split_line_edge_patch m e = patch_of (split_line_edge_change m e)

-- where e ends a line: pair pb; .. → ap → pb → bp → pa → ..
pub record LineEnd (m : Map) (e : ℕ) : Type 0 where
  pub in_e : e < m.half_edges
  pub outer : m.face e ≡ 0
  pub end : m.next e ≡ twin e

abbrev pub split_line_end_change : Map → ℕ → Change
split_line_end_change m e =
    let ap = e in
    let pa = twin e in
    let pb = m.half_edges in
    let bp = m.half_edges + 1 in
    let p = m.vertices in
    let b = m.origin pa in
    record {
      triangles = [];
      chain = (ap, pb) ∷ (pb, bp) ∷ (bp, pa) ∷ [];
      others = (pb, 0) ∷ (bp, 0) ∷ [];
      origins = (pa, p) ∷ (pb, p) ∷ (bp, b) ∷ [];
      outs = (p, pb) ∷ (b, bp) ∷ [];
      vertices = m.vertices + 1;
      half_edges = m.half_edges + 2;
      faces = m.faces;
    }

abbrev pub split_line_end_patch : Map → ℕ → Patch
split_line_end_patch m e = patch_of (split_line_end_change m e)

-- a new vertex p past the end b of a line: pair bp; .. → ab → bp → pb → ba → ..
abbrev pub extend_line_change : Map → ℕ → Change
extend_line_change m e =
    let ab = e in
    let ba = twin e in
    let bp = m.half_edges in
    let pb = m.half_edges + 1 in
    let p = m.vertices in
    record {
      triangles = [];
      chain = (ab, bp) ∷ (bp, pb) ∷ (pb, ba) ∷ [];
      others = (bp, 0) ∷ (pb, 0) ∷ [];
      origins = (bp, m.origin ba) ∷ (pb, p) ∷ [];
      outs = (p, pb) ∷ [];
      vertices = m.vertices + 1;
      half_edges = m.half_edges + 2;
      faces = m.faces;
    }

abbrev pub extend_line_patch : Map → ℕ → Patch
extend_line_patch m e = patch_of (extend_line_change m e)
