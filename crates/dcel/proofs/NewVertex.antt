-- A vertex put into its row: the sites change there, and nothing else does.
use Rattle.std.proofs.Common.{◌≡◌, ℕ, ◌%◌, ◌<◌, Bool, true, false, cond, eqb, List, length, refl, ap, ◌∙◌, arith}
use Rattle.std.proofs.Math.Path.{fun_ext}
use Rattle.dcel.specs.Layout.{Size, Table, vertex_x, vertex_y, vertex_data, total}
use Rattle.dcel.specs.Pairs.{changed}
use Rattle.dcel.specs.Memory.{cell, put, put_vertex}
use Rattle.dcel.specs.Holds.{sites_of, with_site}
use Rattle.dcel.proofs.Places.{OtherTable}
use Rattle.dcel.proofs.Cells.{cell_same, cell_other, length_put}

-- l has the mesh of m, and its header and worklist: only sites may differ
pub record SameMesh (s : Size) (m l : List ℕ) : Type 0 where
  pub long : length l ≡ length m
  pub same : (k : Table) → OtherTable k vertex_x → OtherTable k vertex_y → OtherTable k vertex_data → (j : ℕ) → cell s k l j ≡ cell s k m j

pub same_mesh : (s : Size) (m : List ℕ) → SameMesh s m m
same_mesh s m = record { long = refl; same = λ k a b c j. refl }

module _ (s : Size) (m : List ℕ) (v x y d : ℕ) where
  abbrev after_x : List ℕ
  after_x = put s vertex_x m v x

  abbrev after_y : List ℕ
  after_y = put s vertex_y after_x v y

  pub vertex_same_mesh : SameMesh s m (put_vertex s m v x y d)
  vertex_same_mesh = record {
    long = length_put s vertex_data after_y v d ∙ length_put s vertex_y after_x v y ∙ length_put s vertex_x m v x;
    same = λ k a b c j. cell_other s k vertex_data after_y v d j c ∙ cell_other s k vertex_y after_x v y j b ∙ cell_other s k vertex_x m v x j a;
  }

  rest_of : (b : Bool) (i j n : ℕ) → (cond b i j) % n ≡ cond b (i % n) (j % n)
  rest_of true i j n = refl
  rest_of false i j n = refl

  module _ (z : length m ≡ total s) (h : v < s.vertices) where
    x_after : (j : ℕ) → cell s vertex_x (put_vertex s m v x y d) j ≡ cond (eqb j v) x (cell s vertex_x m j)
    x_after j = cell_other s vertex_x vertex_data after_y v d j refl ∙ cell_other s vertex_x vertex_y after_x v y j refl ∙ cell_same s vertex_x m v x j (omega arith) h

    y_after : (j : ℕ) → cell s vertex_y (put_vertex s m v x y d) j ≡ cond (eqb j v) y (cell s vertex_y m j)
    y_after j = cell_other s vertex_y vertex_data after_y v d j refl ∙ cell_same s vertex_y after_x v y j (omega (arith, length_put s vertex_x m v x)) h
        ∙ ap (cond (eqb j v) y) (cell_other s vertex_y vertex_x m v x j refl)

    data_after : (j : ℕ) → cell s vertex_data (put_vertex s m v x y d) j ≡ cond (eqb j v) d (cell s vertex_data m j)
    data_after j = cell_same s vertex_data after_y v d j (omega (arith, length_put s vertex_x m v x, length_put s vertex_y after_x v y)) h
        ∙ ap (cond (eqb j v) d) (cell_other s vertex_data vertex_y after_x v y j refl ∙ cell_other s vertex_data vertex_x m v x j refl)

    pub vertex_sites : sites_of s (put_vertex s m v x y d) ≡ with_site (sites_of s m) v (x % s.coordinates) (y % s.coordinates) d
    unfolding changed
    vertex_sites = λ i. record {
      x = fun_ext (λ j. ap (λ (n : ℕ). n % s.coordinates) (x_after j) ∙ rest_of (eqb j v) x (cell s vertex_x m j) s.coordinates) i;
      y = fun_ext (λ j. ap (λ (n : ℕ). n % s.coordinates) (y_after j) ∙ rest_of (eqb j v) y (cell s vertex_y m j) s.coordinates) i;
      data_of = fun_ext data_after i;
    }
