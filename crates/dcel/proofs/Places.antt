-- No two words of the layout meet, and all lie in memory.
use Rattle.std.proofs.Common.{◌≡◌, ℕ, ◌+◌, ◌-◌, ◌*◌, ◌%◌, ◌<◌, Bool, true, false, cond, eqb, ltb, ◌≢◌, sym, ap, ◌∙◌, arith}
use Rattle.std.proofs.Math.Nat.{eq_of_mul-eq-mul_left}
use Rattle.std.proofs.lemmas.Bool.{eq-eqb}
use Rattle.dcel.specs.Layout.{Size, Table, header, vertex_x, vertex_y, vertex_data, vertex_out, edge_next, edge_prev, edge_face, edge_origin, face_edge, worklist, stride, rows, place, total}

-- tables by number, to tell them apart
abbrev pub number : Table → ℕ
number header = 0
number vertex_x = 1
number vertex_y = 2
number vertex_data = 3
number vertex_out = 4
number edge_next = 5
number edge_prev = 6
number edge_face = 7
number edge_origin = 8
number face_edge = 9
number worklist = 10

abbrev pub OtherTable : Table → Table → Type 0
OtherTable k l = eqb (number k) (number l) ≡ false

stride_positive : (k : Table) → 0 < stride k
stride_positive header = omega arith
stride_positive vertex_x = omega arith
stride_positive vertex_y = omega arith
stride_positive vertex_data = omega arith
stride_positive vertex_out = omega arith
stride_positive edge_next = omega arith
stride_positive edge_prev = omega arith
stride_positive edge_face = omega arith
stride_positive edge_origin = omega arith
stride_positive face_edge = omega arith
stride_positive worklist = omega arith

pub same_place : (s : Size) (k : Table) (i j : ℕ) → place s k i ≡ place s k j → i ≡ j
same_place s k i j q = eq_of_mul-eq-mul_left (stride k) (stride_positive k) i j (omega arith)

pub place_inside : (s : Size) (k : Table) (i : ℕ) → i < rows s k → place s k i < total s
place_inside s header i h = omega arith
place_inside s vertex_x i h = omega arith
place_inside s vertex_y i h = omega arith
place_inside s vertex_data i h = omega arith
place_inside s vertex_out i h = omega arith
place_inside s edge_next i h = omega arith
place_inside s edge_prev i h = omega arith
place_inside s edge_face i h = omega arith
place_inside s edge_origin i h = omega arith
place_inside s face_edge i h = omega arith
place_inside s worklist i h = omega arith

-- the number of the table that has word a
abbrev owner : Size → ℕ → ℕ
owner s a =
    cond (ltb a 16) 0 (cond (ltb a (16 + 4 * s.vertices)) (1 + (a - 16) % 4) (cond (ltb a (16 + 28 * s.vertices)) (5 + (a - (16 + 4 * s.vertices)) % 4)
    (cond (ltb a (16 + 30 * s.vertices)) 9 10)))

owned : (s : Size) (k : Table) (i : ℕ) → i < rows s k → owner s (place s k i) ≡ number k
owned s header i h = grind arith
owned s vertex_x i h = grind arith
owned s vertex_y i h = grind arith
owned s vertex_data i h = grind arith
owned s vertex_out i h = grind arith
owned s edge_next i h = grind arith
owned s edge_prev i h = grind arith
owned s edge_face i h = grind arith
owned s edge_origin i h = grind arith
owned s face_edge i h = grind arith
owned s worklist i h = grind arith

pub places_apart : (s : Size) (k l : Table) (i j : ℕ) → OtherTable k l → i < rows s k → j < rows s l → place s k i ≢ place s l j
places_apart s k l i j o h b q =
    let r : number k ≡ number l = sym (owned s k i h) ∙ ap (owner s) q ∙ owned s l j b in
    let t = eq-eqb (number k) (number l) r in
    let z : ◌≡◌ {A = Bool} true false = sym t ∙ o in
    let n : ◌≡◌ {A = ℕ} 0 1 = cc in
    omega arith
