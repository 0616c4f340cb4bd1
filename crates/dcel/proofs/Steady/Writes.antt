-- A property of memories that the writing of words keeps: it is kept when a change is written, if the change has nothing but words.
use Rattle.std.proofs.Common.{ℕ, ◌+◌, ◌*◌, ◌≤◌, List, [], ◌∷◌}
use Rattle.dcel.specs.Layout.{Size, Table, header}
use Rattle.dcel.specs.Map.{twin}
use Rattle.dcel.specs.Pairs.{Pairs, All}
use Rattle.dcel.specs.Patch.{Triangle, Change}
use Rattle.dcel.specs.Memory.{cell, put, put_all, put_links, put_triangles, put_vertex, counts, rewire, apply}

-- P of memories and W of numbers: what is read has W, and so have the numbers of a mesh, twins, and what is less
pub record Keeping (s : Size) (P : List ℕ → Type 0) (W : ℕ → Type 0) : Type 0 where
  pub written : (k : Table) (i : ℕ) {m : List ℕ} {v : ℕ} → P m → W v → P (put s k m i v)
  pub read : (k : Table) (i : ℕ) {m : List ℕ} → P m → W (cell s k m i)
  pub few : {n : ℕ} → n ≤ 6 * s.vertices + 6 → W n
  pub less : {a b : ℕ} → a ≤ b → W b → W a
  pub twinned : {e : ℕ} → W e → W (twin e)

pub record WordTriangle (W : ℕ → Type 0) (t : Triangle) : Type 0 where
  pub first : W t.first
  pub second : W t.second
  pub third : W t.third
  pub face : W t.face

abbrev pub WordTriangles : (ℕ → Type 0) → List Triangle → Type 0
WordTriangles W [] = Unit {0}
WordTriangles W (t ∷ ts) = WordTriangle W t × WordTriangles W ts

abbrev pub WordLinks : (ℕ → Type 0) → Pairs → Type 0
WordLinks W ps = All (λ e g. W e × W g) ps

abbrev pub WordValues : (ℕ → Type 0) → Pairs → Type 0
WordValues W ps = All (λ i v. W v) ps

pub record WordChange (W : ℕ → Type 0) (c : Change) : Type 0 where
  pub triangles : WordTriangles W c.triangles
  pub chain : WordLinks W c.chain
  pub others : WordValues W c.others
  pub origins : WordValues W c.origins
  pub outs : WordValues W c.outs
  pub vertices : W c.vertices
  pub half_edges : W c.half_edges
  pub faces : W c.faces

module _ (s : Size) (P : List ℕ → Type 0) (W : ℕ → Type 0) (K : Keeping s P W) where
  all_written : (k : Table) (ps : Pairs) (m : List ℕ) → P m → WordValues W ps → P (put_all s k ps m)
  all_written k [] m p h = p
  all_written k (q ∷ ps) m p h = K.written _ _ (all_written k ps m p h.1) h.0

  links_written : (ps : Pairs) (m : List ℕ) → P m → WordLinks W ps → P (put_links s ps m)
  links_written [] m p h = p
  links_written (q ∷ ps) m p h = K.written _ _ (K.written _ _ (links_written ps m p h.1) h.0.0) h.0.1

  triangles_written : (ts : List Triangle) (m : List ℕ) → P m → WordTriangles W ts → P (put_triangles s ts m)
  triangles_written [] m p h = p
  triangles_written (t ∷ ts) m p h =
      let a = h.0.first in
      let b = h.0.second in
      let c = h.0.third in
      let f = h.0.face in
      K.written _ _ (K.written _ _ (K.written _ _ (K.written _ _ (K.written _ _ (K.written _ _
      (K.written _ _ (K.written _ _ (K.written _ _ (K.written _ _ (triangles_written ts m p h.1) a) f) f) f) c) a) b) c) a) b

  pub vertex_written : {m : List ℕ} (v : ℕ) {x y d : ℕ} → P m → W x → W y → W d → P (put_vertex s m v x y d)
  vertex_written v p a b c = K.written _ _ (K.written _ _ (K.written _ _ p a) b) c

  pub rewired : (c : Change) (m : List ℕ) → P m → WordChange W c → P (rewire s c m)
  rewired c m p h =
      triangles_written c.triangles _ (links_written c.chain _ (all_written _ c.others _ (all_written _ c.origins _ (all_written _ c.outs m p h.outs) h.origins) h.others) h.chain) h.triangles

  pub applied : (c : Change) (m : List ℕ) → P m → WordChange W c → P (apply s c m)
  applied c m p h = rewired c _ (all_written header (counts c.vertices c.half_edges c.faces) m p (h.vertices, (h.half_edges, (h.faces, tt)))) h
