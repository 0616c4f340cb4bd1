-- The surgeries as changes, and where each may be done. A half edge from a to b is written ab; what is new has the numbers that follow the last.
use Rattle.std.specs.Prelude.{◌≡◌, ℕ, ◌+◌, ◌<◌, ◌≢◌, [], ◌∷◌}
use Rattle.dcel.specs.Map.{Map, twin}
use Rattle.dcel.specs.Patch.{triangle, Change, Patch, patch_of}

-- e = ab between the faces abc and bad becomes dc, if c and d are not one vertex: faces (dc, ca, ad) and (cd, db, bc)
pub record Flippable (m : Map) (e : ℕ) : Type 0 where
  pub in_e : e < m.half_edges
  pub left : m.face e ≢ 0
  pub right : m.face (twin e) ≢ 0
  pub cross : m.origin (m.prev e) ≢ m.origin (m.prev (twin e))

abbrev pub flip_change : Map → ℕ → Change
flip_change m e =
    let ab = e in
    let ba = twin e in
    let bc = m.next ab in
    let ca = m.prev ab in
    let ad = m.next ba in
    let db = m.prev ba in
    record {
      triangles = triangle ab ca ad (m.face ab) ∷ triangle ba db bc (m.face ba) ∷ [];
      chain = [];
      others = [];
      origins = (ab, m.origin db) ∷ (ba, m.origin ca) ∷ [];
      outs = (m.origin ab, ad) ∷ (m.origin ba, bc) ∷ [];
      vertices = m.vertices;
      half_edges = m.half_edges;
      faces = m.faces;
    }

abbrev pub flip_patch : Map → ℕ → Patch
flip_patch m e = patch_of (flip_change m e)

-- a new vertex p in the face abc of e = ab: pairs ap, bp, cp; faces (ab, bp, pa), (bc, cp, pb), (ca, ap, pc)
pub record Inner (m : Map) (e : ℕ) : Type 0 where
  pub in_e : e < m.half_edges
  pub inner : m.face e ≢ 0

abbrev pub split_face_change : Map → ℕ → Change
split_face_change m e =
    let ab = e in
    let bc = m.next ab in
    let ca = m.prev ab in
    let ap = m.half_edges in
    let pa = m.half_edges + 1 in
    let bp = m.half_edges + 2 in
    let pb = m.half_edges + 3 in
    let cp = m.half_edges + 4 in
    let pc = m.half_edges + 5 in
    let p = m.vertices in
    record {
      triangles = triangle ab bp pa (m.face ab) ∷ triangle bc cp pb m.faces ∷ triangle ca ap pc (m.faces + 1) ∷ [];
      chain = [];
      others = [];
      origins = (ap, m.origin ab) ∷ (pa, p) ∷ (bp, m.origin bc) ∷ (pb, p) ∷ (cp, m.origin ca) ∷ (pc, p) ∷ [];
      outs = (p, pa) ∷ [];
      vertices = m.vertices + 1;
      half_edges = m.half_edges + 6;
      faces = m.faces + 2;
    }

abbrev pub split_face_patch : Map → ℕ → Patch
split_face_patch m e = patch_of (split_face_change m e)

-- a new vertex p on the outer side of e = uw: pairs wp, pu; face (uw, wp, pu); the outer cycle goes on .. → up → pw → ..
pub record Outer (m : Map) (e : ℕ) : Type 0 where
  pub in_e : e < m.half_edges
  pub outer : m.face e ≡ 0

abbrev pub attach_change : Map → ℕ → Change
attach_change m e =
    let uw = e in
    let wp = m.half_edges in
    let pw = m.half_edges + 1 in
    let pu = m.half_edges + 2 in
    let up = m.half_edges + 3 in
    let p = m.vertices in
    record {
      triangles = triangle uw wp pu m.faces ∷ [];
      chain = (m.prev uw, up) ∷ (up, pw) ∷ (pw, m.next uw) ∷ [];
      others = (up, 0) ∷ (pw, 0) ∷ [];
      origins = (wp, m.origin (twin uw)) ∷ (pw, p) ∷ (pu, p) ∷ (up, m.origin uw) ∷ [];
      outs = (p, pw) ∷ [];
      vertices = m.vertices + 1;
      half_edges = m.half_edges + 4;
      faces = m.faces + 1;
    }

abbrev pub attach_patch : Map → ℕ → Patch
attach_patch m e = patch_of (attach_change m e)

-- outer half edges e = uv and vw, one after the other: pair uw; face (uv, vw, wu); the outer cycle goes on .. → uw → ..
pub record Ear (m : Map) (e : ℕ) : Type 0 where
  pub in_e : e < m.half_edges
  pub outer : m.face e ≡ 0
  pub cross : m.origin e ≢ m.origin (twin (m.next e))

abbrev pub ear_change : Map → ℕ → Change
ear_change m e =
    let uv = e in
    let vw = m.next uv in
    let uw = m.half_edges in
    let wu = m.half_edges + 1 in
    record {
      triangles = triangle uv vw wu m.faces ∷ [];
      chain = (m.prev uv, uw) ∷ (uw, m.next vw) ∷ [];
      others = (uw, 0) ∷ [];
      origins = (uw, m.origin uv) ∷ (wu, m.origin (twin vw)) ∷ [];
      outs = [];
      vertices = m.vertices;
      half_edges = m.half_edges + 2;
      faces = m.faces + 1;
    }

abbrev pub ear_patch : Map → ℕ → Patch
ear_patch m e = patch_of (ear_change m e)
