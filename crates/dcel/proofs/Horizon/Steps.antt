-- A new vertex outside the hull, step by step, in the words of the tests: attach it, close ears while the half edge after b or before a is seen, and the mesh is at its places again.
use Rattle.std.proofs.Common.{◌≡◌, ℕ, ◌+◌, ◌<◌, Bool, true, false, ap, ◌∙◌}
use Rattle.exact.specs.Plane.{Point, left_of}
use Rattle.exact.proofs.Geometry.Tests.{left→, not_left→}
use Rattle.dcel.specs.Map.{Map, twin}
use Rattle.dcel.specs.Mesh.{Mesh}
use Rattle.dcel.specs.Patch.{patched}
use Rattle.dcel.specs.Surgery.{Outer, attach_patch, Ear, ear_patch}
use Rattle.dcel.specs.Geometry.{from, to, Geometric}
use Rattle.dcel.proofs.Horizon.Attached.{attached}
use Rattle.dcel.proofs.Horizon.EarClosed.{EarClosed, ear_closed, origin_old}
use Rattle.dcel.proofs.Placed.{Placed}
use Rattle.dcel.proofs.Horizon.Rim.{Seen}
use Rattle.dcel.proofs.Horizon.Open.{Open}
use Rattle.dcel.proofs.Horizon.Begin.{attach_open}
use Rattle.dcel.proofs.Horizon.Forward.{forward_may, forward_open, prev_a}
use Rattle.dcel.proofs.Horizon.Backward.{backward_may, backward_open, next_b}
use Rattle.dcel.proofs.Horizon.Closed.{closed}

-- does the vertex v see the half edge x, strictly on its left?
abbrev pub sight : (ℕ → Point) → Map → ℕ → ℕ → Bool
sight pos m v x = left_of (from pos m x) (to pos m x) (pos v)

-- an ear changes that for no half edge that was there
same_sight : (pos : ℕ → Point) {m n : Map} {e : ℕ} → EarClosed m n e → (v x : ℕ) → x < m.half_edges → sight pos n v x ≡ sight pos m v x
same_sight pos K v x h = λ i. left_of (pos (origin_old K x h i)) (pos (origin_old K (twin x) (K.sound.twin_in x h) i)) (pos v)

module _ {pos : ℕ → Point} {m₀ : Map} (B : Placed pos m₀) where
  abbrev p : ℕ
  p = m₀.vertices

  pub attach : (e : ℕ) → Outer m₀ e → sight pos m₀ m₀.vertices e ≡ true → Open pos m₀ (patched (attach_patch m₀ e) m₀) (m₀.half_edges + 3) (m₀.half_edges + 1)
  attach e may seen = attach_open B (attached m₀ B.mesh e may) (left→ (from pos m₀ e) (to pos m₀ e) (pos p) seen)

  module _ {m : Map} {a b : ℕ} (M : Mesh m) (O : Open pos m₀ m a b) where
    -- the half edge after b is seen: the ear at b
    module _ (seen : sight pos m m₀.vertices (m.next b) ≡ true) where
      saw : Seen pos m (m.next b) p
      saw = left→ (from pos m (m.next b)) (to pos m (m.next b)) (pos p) seen

      pub forward_ear : Ear m b
      forward_ear = forward_may B M.sound O saw

      pub forward : Open pos m₀ (patched (ear_patch m b) m) a m.half_edges
      forward = forward_open B M.sound O saw (patched (ear_patch m b) m) (ear_closed m M b forward_ear).is

      -- what p sees before a stays
      pub forward_behind : sight pos (patched (ear_patch m b) m) m₀.vertices ((patched (ear_patch m b) m).prev a) ≡ sight pos m m₀.vertices (m.prev a)
      forward_behind =
          let K = ear_closed m M b forward_ear in
          ap (sight pos (patched (ear_patch m b) m) p) (prev_a B M.sound O saw (patched (ear_patch m b) m) K.is) ∙ same_sight pos K p (m.prev a) (M.sound.prev_in a O.in_a)

    -- the half edge before a is seen: the ear there
    module _ (seen : sight pos m m₀.vertices (m.prev a) ≡ true) where
      spied : Seen pos m (m.prev a) p
      spied = left→ (from pos m (m.prev a)) (to pos m (m.prev a)) (pos p) seen

      pub backward_ear : Ear m (m.prev a)
      backward_ear = backward_may B M.sound O spied

      pub backward : Open pos m₀ (patched (ear_patch m (m.prev a)) m) m.half_edges b
      backward = backward_open B M.sound O spied (patched (ear_patch m (m.prev a)) m) (ear_closed m M (m.prev a) backward_ear).is

      -- what p sees after b stays
      pub backward_ahead : sight pos (patched (ear_patch m (m.prev a)) m) m₀.vertices ((patched (ear_patch m (m.prev a)) m).next b) ≡ sight pos m m₀.vertices (m.next b)
      backward_ahead =
          let K = ear_closed m M (m.prev a) backward_ear in
          ap (sight pos (patched (ear_patch m (m.prev a)) m) p) (next_b B M.sound O spied (patched (ear_patch m (m.prev a)) m) K.is) ∙ same_sight pos K p (m.next b) (M.sound.next_in b O.in_b)

    -- neither is seen
    pub close : sight pos m m₀.vertices (m.next b) ≡ false → sight pos m m₀.vertices (m.prev a) ≡ false → Geometric pos m
    close ahead behind = closed B M.sound O (not_left→ (from pos m (m.next b)) (to pos m (m.next b)) (pos p) ahead) (not_left→ (from pos m (m.prev a)) (to pos m (m.prev a)) (pos p) behind)
