-- The surgeries that put a vertex into a mesh: where its place is as each asks, the mesh after it is a mesh and geometric.
use Rattle.std.proofs.Common.{◌≡◌, ℕ, ◌+◌, ◌≤◌}
use Rattle.exact.specs.Plane.{Point}
use Rattle.dcel.specs.Map.{Map, twin}
use Rattle.dcel.specs.Mesh.{Mesh}
use Rattle.dcel.specs.Patch.{Patch, patch_of, patched}
use Rattle.dcel.specs.Surgery.{Inner, split_face_patch}
use Rattle.dcel.specs.EdgeSurgery.{InnerEdge, split_inner_edge_patch, HullEdge, split_hull_edge_patch, LineEdge, split_line_edge_patch, LineEnd, split_line_end_patch, extend_line_patch}
use Rattle.dcel.specs.Start.{pair_change}
use Rattle.dcel.specs.Geometry.{Geometric}
use Rattle.dcel.specs.Legal.{EdgeListed, Ready}
use Rattle.dcel.proofs.Fits.{IsPatched, is_patched, Fits}
use Rattle.dcel.proofs.Surgeries.{Surgery, surgery_mesh}
use Rattle.dcel.proofs.FaceSplit.{split_face_surgery}
use Rattle.dcel.proofs.InnerEdgeSplit.{split_inner_edge_surgery}
use Rattle.dcel.proofs.HullEdgeSplit.{split_hull_edge_surgery}
use Rattle.dcel.proofs.LineEdgeSplit.{split_line_edge_surgery}
use Rattle.dcel.proofs.LineEndSplit.{split_line_end_surgery}
use Rattle.dcel.proofs.LineExtend.{extend_line_surgery}
use Rattle.dcel.proofs.FirstVertices.{pair_two, pair_mesh}
use Rattle.dcel.proofs.Legal.NewVertex.{OnEdge}
use Rattle.dcel.proofs.Legal.Elsewhere.{inside_fresh, on_edge_fresh}
use Rattle.dcel.proofs.Legal.FaceSplit.{InsideFace, split_face_geometric, split_face_ready}
use Rattle.dcel.proofs.Legal.InnerEdgeSplit.{split_inner_edge_geometric, split_inner_edge_ready}
use Rattle.dcel.proofs.Legal.HullEdgeMap.{split_hull_edge_ready}
use Rattle.dcel.proofs.Legal.HullEdgeSplit.{split_hull_edge_geometric}
use Rattle.dcel.proofs.Legal.LineSplitEnds.{split_line_geometric}
use Rattle.dcel.proofs.Legal.LineEdges.{line_edge_split, line_end_split}
use Rattle.dcel.proofs.Legal.LineGrowth.{Past, extend_line_geometric}
use Rattle.dcel.proofs.Legal.FirstPair.{pair_geometric}

pub record GeometricMesh (pos : ℕ → Point) (m : Map) : Type 0 where
  pub mesh : Mesh m
  pub geometric : Geometric pos m

-- what a surgery is known by
module _ (m : Map) (p : Patch) (K : Surgery m p) where
  abbrev after : Map
  after = patched p m

  reads : IsPatched m (patched p m) p
  reads = is_patched m p K.distinct

  fits : Fits m (patched p m) p
  fits = K.fits after reads

module _ (pos : ℕ → Point) (m : Map) (M : Mesh m) (G : Geometric pos m) (e : ℕ) where
  pub face_split : (may : Inner m e) → InsideFace pos m G e → GeometricMesh pos (patched (split_face_patch m e) m)
  face_split may i =
      let p = split_face_patch m e in
      let K = split_face_surgery m M e may in
      record {
        mesh = surgery_mesh m p M K;
        geometric = split_face_geometric pos m M.sound e may (patched p m) (reads m p K) K.relinks (fits m p K) G i (inside_fresh pos m M.sound G e may.in_e may.inner i);
      }

  pub inner_edge_split : (may : InnerEdge m e) → OnEdge pos m G e → GeometricMesh pos (patched (split_inner_edge_patch m e) m)
  inner_edge_split may i =
      let p = split_inner_edge_patch m e in
      let K = split_inner_edge_surgery m M e may in
      record {
        mesh = surgery_mesh m p M K;
        geometric = split_inner_edge_geometric pos m M.sound e may (patched p m) (reads m p K) K.relinks (fits m p K) G i (on_edge_fresh pos m M.sound G e may.in_e may.left i);
      }

  pub hull_edge_split : (may : HullEdge m e) → OnEdge pos m G e → GeometricMesh pos (patched (split_hull_edge_patch m e) m)
  hull_edge_split may i =
      let p = split_hull_edge_patch m e in
      let K = split_hull_edge_surgery m M e may in
      record { mesh = surgery_mesh m p M K; geometric = split_hull_edge_geometric pos m M.sound e may (patched p m) (reads m p K) K.relinks (fits m p K) G i }

  -- on a line
  module _ (few : m.faces ≤ 1) where
    pub line_edge_split_geometric : (may : LineEdge m e) → OnEdge pos m G e → GeometricMesh pos (patched (split_line_edge_patch m e) m)
    line_edge_split_geometric may i =
        let p = split_line_edge_patch m e in
        let K = split_line_edge_surgery m M e may in
        let N = surgery_mesh m p M K in
        record { mesh = N; geometric = split_line_geometric pos m (patched p m) M.sound N.sound G few e may.in_e (line_edge_split m (patched p m) M.sound e may (reads m p K)) i }

    pub line_end_split_geometric : (may : LineEnd m e) → OnEdge pos m G e → GeometricMesh pos (patched (split_line_end_patch m e) m)
    line_end_split_geometric may i =
        let p = split_line_end_patch m e in
        let K = split_line_end_surgery m M e may in
        let N = surgery_mesh m p M K in
        record { mesh = N; geometric = split_line_geometric pos m (patched p m) M.sound N.sound G few e may.in_e (line_end_split m (patched p m) M.sound e may (reads m p K)) i }

    pub line_extended : (may : LineEnd m e) → Past pos m G e → GeometricMesh pos (patched (extend_line_patch m e) m)
    line_extended may i =
        let p = extend_line_patch m e in
        let K = extend_line_surgery m M e may in
        let N = surgery_mesh m p M K in
        record { mesh = N; geometric = extend_line_geometric pos m (patched p m) M.sound N.sound G few e may (reads m p K) i }

-- the first two vertices
pub first_pair : (pos : ℕ → Point) (m : Map) → ((v : ℕ) → (pos v).w ≡ 1) → ((pos 0).x ≡ (pos 1).x → (pos 0).y ≡ (pos 1).y → ⊥) → GeometricMesh pos (patched (patch_of pair_change) m)
first_pair pos m whole differ = record { mesh = pair_mesh m; geometric = pair_geometric pos whole (patched (patch_of pair_change) m) (pair_two m) differ }

-- ---- edges that are right stay so, but for those of the changed faces
module _ (pos : ℕ → Point) (m : Map) (M : Mesh m) (e : ℕ) (Before After : ℕ → Type 0) (more : (x : ℕ) → Before x → EdgeListed After x) (R : Ready pos m Before) where
  pub face_split_ready : Inner m e → EdgeListed After e → EdgeListed After (m.next e) → EdgeListed After (m.prev e) →
      EdgeListed After m.half_edges → EdgeListed After (m.half_edges + 2) → EdgeListed After (m.half_edges + 4) → Ready pos (patched (split_face_patch m e) m) After
  face_split_ready may ab bc ca ap bp cp =
      let p = split_face_patch m e in
      let K = split_face_surgery m M e may in
      split_face_ready pos m M.sound e may (patched p m) (reads m p K) K.relinks (fits m p K) Before After more ab bc ca ap bp cp R

  pub inner_edge_split_ready : InnerEdge m e → EdgeListed After e → EdgeListed After (m.next e) → EdgeListed After (m.prev e) → EdgeListed After (m.next (twin e)) → EdgeListed After (m.prev (twin e)) →
      EdgeListed After m.half_edges → EdgeListed After (m.half_edges + 2) → EdgeListed After (m.half_edges + 4) → Ready pos (patched (split_inner_edge_patch m e) m) After
  inner_edge_split_ready may ap bc ca ad db pb pc pd =
      let p = split_inner_edge_patch m e in
      let K = split_inner_edge_surgery m M e may in
      split_inner_edge_ready pos m M.sound e may (patched p m) (reads m p K) K.relinks (fits m p K) Before After more ap bc ca ad db pb pc pd R

  pub hull_edge_split_ready : HullEdge m e → EdgeListed After e → EdgeListed After (m.next e) → EdgeListed After (m.prev e) → EdgeListed After m.half_edges → EdgeListed After (m.half_edges + 2) →
      Ready pos (patched (split_hull_edge_patch m e) m) After
  hull_edge_split_ready may ap bc ca pb pc =
      let p = split_hull_edge_patch m e in
      let K = split_hull_edge_surgery m M e may in
      split_hull_edge_ready m M.sound e may (patched p m) (reads m p K) K.relinks (fits m p K) pos Before After more ap bc ca pb pc R
