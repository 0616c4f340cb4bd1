-- A mesh that has grown outwards by one vertex: the old faces are as they were, the new ones turn to the left.
use Rattle.std.proofs.Common.{◌≡◌, ℕ, ◌+◌, ◌<◌, ◌≤◌, true, ◌≢◌, ◌⊎◌, sym, ap, ◌∙◌, inl, inr, arith}
use Rattle.exact.specs.Plane.{Point}
use Rattle.exact.proofs.Algebra.Signs.{Sign}
use Rattle.exact.proofs.Geometry.Words.{orient}
use Rattle.dcel.specs.Map.{Map}
use Rattle.dcel.specs.Geometry.{from, to}
use Rattle.dcel.proofs.Horizon.Kept.{Kept, kept_twice}
use Rattle.dcel.proofs.Horizon.Attached.{Attached}
use Rattle.dcel.proofs.Horizon.Attached as Attach
use Rattle.dcel.proofs.Horizon.EarClosed.{EarClosed}
use Rattle.dcel.proofs.Horizon.EarClosed as Ear
use Rattle.dcel.proofs.Horizon.Turning.{Turning, attach_left, ear_left}
use Rattle.dcel.proofs.Horizon.Rim.{Seen}

pub record Grown (pos : ℕ → Point) (m₀ m : Map) : Type 0 where
  pub vertices_is : m.vertices ≡ m₀.vertices + 1
  pub half_edges_more : m₀.half_edges ≤ m.half_edges
  pub faces_more : m₀.faces < m.faces
  -- what was there begins where it did, faces and vertices have the half edges that they had, and what was of a face is as it was
  pub origin_old : (x : ℕ) → x < m₀.half_edges → m.origin x ≡ m₀.origin x
  pub edge_old : (f : ℕ) → f < m₀.faces → m.edge f ≡ m₀.edge f
  pub out_old : (v : ℕ) → v < m₀.vertices → m.out v ≡ m₀.out v
  pub kept : (x : ℕ) → x < m₀.half_edges → m₀.face x ≢ 0 → Kept m₀ m x
  -- any other half edge that has a face has a new one
  pub old_or_new : (x : ℕ) → x < m.half_edges → m.face x ≢ 0 → ((x < m₀.half_edges) × (m₀.face x ≢ 0)) ⊎ (m₀.faces ≤ m.face x)
  pub left : Turning pos m

module _ (pos : ℕ → Point) (whole : (v : ℕ) → (pos v).w ≡ 1) where
  pub attach_grown : {m n : Map} {e : ℕ} → Attached m n e → Turning pos m → Seen pos m e m.vertices → Grown pos m n
  attach_grown {m} {n} {e} K l t =
      let d = K.is in
      record {
        vertices_is = d.vertices_is;
        half_edges_more = omega (arith, d.half_edges_is);
        faces_more = omega (arith, d.faces_is);
        origin_old = Attach.origin_old K;
        edge_old = λ f h. Attach.edge_old K f (omega arith);
        out_old = λ v h. Attach.out_old K v (omega arith);
        kept = Attach.attach_keeps K;
        old_or_new = λ x h z. elim (Attach.inner_then K x h z) [
          | inl k ↦ inl k
          | inr k ↦ inr (elim k [ inl q ↦ new x q (Attach.face_e K) | inr k ↦ elim k [ inl q ↦ new x q (Attach.face_wp K) | inr q ↦ new x q (Attach.face_pu K) ] ])
        ];
        left = attach_left pos whole K l t;
      }
    where
      new : (x : ℕ) {y : ℕ} → x ≡ y → n.face y ≡ m.faces → m.faces ≤ n.face x
      new x q f = let r = ap n.face q in omega arith

  pub ear_grown : {m₀ m n : Map} {e : ℕ} → Grown pos m₀ m → EarClosed m n e → Sign true (orient (from pos m e) (to pos m e) (to pos m (m.next e))) → Grown pos m₀ n
  ear_grown {m₀} {m} {n} {e} g K t =
      let d = K.is in
      record {
        vertices_is = d.vertices_is ∙ g.vertices_is;
        half_edges_more = omega (arith, d.half_edges_is, g.half_edges_more);
        faces_more = omega (arith, d.faces_is, g.faces_more);
        origin_old = λ x h. Ear.origin_old K x (omega (arith, g.half_edges_more)) ∙ g.origin_old x h;
        edge_old = λ f h. Ear.edge_old K f (omega (arith, g.faces_more)) ∙ g.edge_old f h;
        out_old = λ v h. Ear.out_old K v ∙ g.out_old v h;
        kept = λ x h z. let k = g.kept x h z in kept_twice k (Ear.ear_keeps K x (omega (arith, g.half_edges_more)) (λ q. z (sym k.face_kept ∙ q)));
        old_or_new = λ x h z. elim (Ear.inner_then K x h z) [
          | inl k ↦ elim (g.old_or_new x k.0 k.1) [ inl o ↦ inl o | inr f ↦ inr (omega (arith, f, (Ear.ear_keeps K x k.0 k.1).face_kept)) ]
          | inr k ↦ inr (elim k [ inl q ↦ new x q (Ear.face_e K) | inr k ↦ elim k [ inl q ↦ new x q (Ear.face_vw K) | inr q ↦ new x q (Ear.face_wu K) ] ])
        ];
        left = ear_left pos whole K g.left t;
      }
    where
      new : (x : ℕ) {y : ℕ} → x ≡ y → n.face y ≡ m.faces → m₀.faces ≤ n.face x
      new x q f = let r = ap n.face q in omega (arith, g.faces_more)
