-- A vertex put into a mesh at rest: with the edges of the changed faces on the list, all is as the loop wants it, so it ends with the new mesh at rest.
use Rattle.std.proofs.Common.{ℕ, ◌+◌, ◌<◌, List, [], ◌∷◌, refl, inl, inr, arith}
use Rattle.exact.specs.Plane.{Point}
use Rattle.exact.proofs.Lists.{In}
use Rattle.dcel.specs.Map.{Map, twin}
use Rattle.dcel.specs.Mesh.{Mesh}
use Rattle.dcel.specs.Patch.{patched}
use Rattle.dcel.specs.Surgery.{Inner, split_face_patch}
use Rattle.dcel.specs.EdgeSurgery.{InnerEdge, split_inner_edge_patch, HullEdge, split_hull_edge_patch}
use Rattle.dcel.specs.Geometry.{Geometric, AtRest}
use Rattle.dcel.proofs.Legal.NewVertex.{OnEdge}
use Rattle.dcel.proofs.Legal.Steps.{rest_ready}
use Rattle.dcel.proofs.Legal.Loop.{Pending, OnList}
use Rattle.dcel.proofs.Legal.FaceSplit.{InsideFace}
use Rattle.dcel.proofs.Legal.Insertions.{face_split, inner_edge_split, hull_edge_split, face_split_ready, inner_edge_split_ready, hull_edge_split_ready}

abbrev Each : (ℕ → Type 0) → List ℕ → Type 0
Each P [] = Unit {0}
Each P (x ∷ xs) = P x × Each P xs

in_range : (z : ℕ) (todo : List ℕ) → Each (λ x. x < z) todo → (x : ℕ) → In x todo → x < z
in_range z [] h x k = absurd k
in_range z (y ∷ todo) h x (inl q) = omega (arith, h.0)
in_range z (y ∷ todo) h x (inr k) = in_range z todo h.1 x k

-- the edges of the new faces
abbrev pub face_edges : Map → ℕ → List ℕ
face_edges m e = e ∷ m.next e ∷ m.prev e ∷ m.half_edges ∷ (m.half_edges + 2) ∷ (m.half_edges + 4) ∷ []

abbrev pub inner_edge_edges : Map → ℕ → List ℕ
inner_edge_edges m e = e ∷ m.next e ∷ m.prev e ∷ m.next (twin e) ∷ m.prev (twin e) ∷ m.half_edges ∷ (m.half_edges + 2) ∷ (m.half_edges + 4) ∷ []

abbrev pub hull_edge_edges : Map → ℕ → List ℕ
hull_edge_edges m e = e ∷ m.next e ∷ m.prev e ∷ m.half_edges ∷ (m.half_edges + 2) ∷ []

module _ (pos : ℕ → Point) (m : Map) (M : Mesh m) (G : Geometric pos m) (rest : AtRest pos m) (e : ℕ) where
  abbrev None : ℕ → Type 0
  None x = ⊥

  pub in_face : (may : Inner m e) → InsideFace pos m G e → Pending pos (patched (split_face_patch m e) m) (OnList (face_edges m e))
  in_face may i =
      let g = face_split pos m M G e may i in
      let n_in = M.sound.next_in e may.in_e in
      let p_in = M.sound.prev_in e may.in_e in
      record {
        mesh = g.mesh;
        geometric = g.geometric;
        in_range = in_range (m.half_edges + 6) (face_edges m e) (omega (arith, may.in_e));
        ready = face_split_ready pos m M e None (OnList (face_edges m e)) (λ x k. absurd k) (rest_ready pos m rest None) may
            (inl (inl refl)) (inl (inr (inl refl))) (inl (inr (inr (inl refl)))) (inl (inr (inr (inr (inl refl))))) (inl (inr (inr (inr (inr (inl refl)))))) (inl (inr (inr (inr (inr (inr (inl refl)))))));
      }

  pub on_inner_edge : (may : InnerEdge m e) → OnEdge pos m G e → Pending pos (patched (split_inner_edge_patch m e) m) (OnList (inner_edge_edges m e))
  on_inner_edge may i =
      let g = inner_edge_split pos m M G e may i in
      let t_in = M.sound.twin_in e may.in_e in
      let n_in = M.sound.next_in e may.in_e in
      let p_in = M.sound.prev_in e may.in_e in
      let tn_in = M.sound.next_in (twin e) t_in in
      let tp_in = M.sound.prev_in (twin e) t_in in
      record {
        mesh = g.mesh;
        geometric = g.geometric;
        in_range = in_range (m.half_edges + 6) (inner_edge_edges m e) (omega (arith, may.in_e));
        ready = inner_edge_split_ready pos m M e None (OnList (inner_edge_edges m e)) (λ x k. absurd k) (rest_ready pos m rest None) may
            (inl (inl refl)) (inl (inr (inl refl))) (inl (inr (inr (inl refl)))) (inl (inr (inr (inr (inl refl))))) (inl (inr (inr (inr (inr (inl refl)))))) (inl (inr (inr (inr (inr (inr (inl refl)))))))
            (inl (inr (inr (inr (inr (inr (inr (inl refl)))))))) (inl (inr (inr (inr (inr (inr (inr (inr (inl refl)))))))));
      }

  pub on_hull_edge : (may : HullEdge m e) → OnEdge pos m G e → Pending pos (patched (split_hull_edge_patch m e) m) (OnList (hull_edge_edges m e))
  on_hull_edge may i =
      let g = hull_edge_split pos m M G e may i in
      let n_in = M.sound.next_in e may.in_e in
      let p_in = M.sound.prev_in e may.in_e in
      record {
        mesh = g.mesh;
        geometric = g.geometric;
        in_range = in_range (m.half_edges + 4) (hull_edge_edges m e) (omega (arith, may.in_e));
        ready = hull_edge_split_ready pos m M e None (OnList (hull_edge_edges m e)) (λ x k. absurd k) (rest_ready pos m rest None) may
            (inl (inl refl)) (inl (inr (inl refl))) (inl (inr (inr (inl refl)))) (inl (inr (inr (inr (inl refl))))) (inl (inr (inr (inr (inr (inl refl))))));
      }
