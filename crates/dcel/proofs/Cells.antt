-- What is read from a table after a write to it, or to another.
use Rattle.std.proofs.Common.{◌≡◌, ℕ, ◌<◌, ◌≤◌, cond, eqb, ltb, ◌≢◌, List, [], ◌∷◌, length, get_or, set, refl, ap, ◌∙◌, arith, length-set, get_or-set_other, get_or-set_same, inl, inr}
use Rattle.std.proofs.lemmas.Bool.{cond_both, eq-eqb, ne_eqb, lt-ltb, le-ltb, cases_eq, cases_lt}
use Rattle.dcel.specs.Layout.{Size, Table, edge_next, edge_prev, edge_face, face_edge, place, rows, total}
use Rattle.dcel.specs.Pairs.{Pairs, changed, reversed, All}
use Rattle.dcel.specs.Patch.{Triangle, triangle_links, triangle_sides, triangle_edges}
use Rattle.dcel.specs.Memory.{cell, put, put_all, put_links, put_triangles}
use Rattle.dcel.proofs.Places.{OtherTable, same_place, place_inside, places_apart}

module _ (s : Size) where
  pub cell_same : (k : Table) (m : List ℕ) (i v j : ℕ) → total s ≤ length m → i < rows s k → cell s k (put s k m i v) j ≡ cond (eqb j i) v (cell s k m j)
  unfolding cell put
  cell_same k m i v j z h = elim (cases_lt j (rows s k)) [ inl l ↦ elim (cases_eq j i) [ inl q ↦ here q l | inr q ↦ there q l ] | inr l ↦ past (omega arith) ]
    where
      here : j ≡ i → j < rows s k → cond (ltb j (rows s k)) (get_or (cond (ltb i (rows s k)) (set m (place s k i) v) m) (place s k j) 0) 0 ≡ cond (eqb j i) v (cond (ltb j (rows s k)) (get_or m (place s k j) 0) 0)
      here q l = rw (lt-ltb i (rows s k) h, lt-ltb j (rows s k) l, eq-eqb j i q)
          (ap (λ (x : ℕ). get_or (set m (place s k i) v) (place s k x) 0) q ∙ get_or-set_same m (place s k i) v 0 (omega (arith, place_inside s k i h)))

      there : j ≢ i → j < rows s k → cond (ltb j (rows s k)) (get_or (cond (ltb i (rows s k)) (set m (place s k i) v) m) (place s k j) 0) 0 ≡ cond (eqb j i) v (cond (ltb j (rows s k)) (get_or m (place s k j) 0) 0)
      there q l = rw (lt-ltb i (rows s k) h, lt-ltb j (rows s k) l, ne_eqb j i q) (get_or-set_other m (place s k i) (place s k j) v 0 (λ r. q (same_place s k j i r)))

      past : rows s k ≤ j → cond (ltb j (rows s k)) (get_or (cond (ltb i (rows s k)) (set m (place s k i) v) m) (place s k j) 0) 0 ≡ cond (eqb j i) v (cond (ltb j (rows s k)) (get_or m (place s k j) 0) 0)
      past l = let q : j ≢ i = omega arith in rw (le-ltb j (rows s k) l, ne_eqb j i q)

  pub cell_other : (k l : Table) (m : List ℕ) (i v j : ℕ) → OtherTable k l → cell s k (put s l m i v) j ≡ cell s k m j
  unfolding cell put
  cell_other k l m i v j o = elim (cases_lt i (rows s l)) [ inl h ↦ elim (cases_lt j (rows s k)) [ inl b ↦ within h b | inr b ↦ past (omega arith) ] | inr h ↦ nothing (omega arith) ]
    where
      within : i < rows s l → j < rows s k → cond (ltb j (rows s k)) (get_or (cond (ltb i (rows s l)) (set m (place s l i) v) m) (place s k j) 0) 0 ≡ cond (ltb j (rows s k)) (get_or m (place s k j) 0) 0
      within h b = rw (lt-ltb i (rows s l) h, lt-ltb j (rows s k) b) (get_or-set_other m (place s l i) (place s k j) v 0 (places_apart s k l j i o b h))

      past : rows s k ≤ j → cond (ltb j (rows s k)) (get_or (cond (ltb i (rows s l)) (set m (place s l i) v) m) (place s k j) 0) 0 ≡ cond (ltb j (rows s k)) (get_or m (place s k j) 0) 0
      past b = rw (le-ltb j (rows s k) b)

      nothing : rows s l ≤ i → cond (ltb j (rows s k)) (get_or (cond (ltb i (rows s l)) (set m (place s l i) v) m) (place s k j) 0) 0 ≡ cond (ltb j (rows s k)) (get_or m (place s k j) 0) 0
      nothing h = rw (le-ltb i (rows s l) h)

  pub length_put : (k : Table) (m : List ℕ) (i v : ℕ) → length (put s k m i v) ≡ length m
  unfolding put
  length_put k m i v = cond_both (ltb i (rows s k)) (set m (place s k i) v) m (λ n. length n ≡ length m) (λ _. length-set m (place s k i) v) (λ _. refl)

  -- lists of writes to one table
  pub length_put_all : (k : Table) (ps : Pairs) (m : List ℕ) → length (put_all s k ps m) ≡ length m
  length_put_all k [] m = refl
  length_put_all k (p ∷ ps) m = length_put k (put_all s k ps m) p.0 p.1 ∙ length_put_all k ps m

  pub all_same : (k : Table) (ps : Pairs) (m : List ℕ) (j : ℕ) → total s ≤ length m → All (λ i v. i < rows s k) ps → cell s k (put_all s k ps m) j ≡ changed ps (cell s k m) j
  unfolding changed
  all_same k [] m j z h = refl
  all_same k (p ∷ ps) m j z h =
      cell_same k (put_all s k ps m) p.0 p.1 j (omega (arith, length_put_all k ps m)) h.0
      ∙ ap (cond (eqb j p.0) p.1) (all_same k ps m j z h.1)

  pub all_other : (k l : Table) (ps : Pairs) (m : List ℕ) (j : ℕ) → OtherTable k l → cell s k (put_all s l ps m) j ≡ cell s k m j
  all_other k l [] m j o = refl
  all_other k l (p ∷ ps) m j o = cell_other k l (put_all s l ps m) p.0 p.1 j o ∙ all_other k l ps m j o

  -- lists of links
  pub length_put_links : (ps : Pairs) (m : List ℕ) → length (put_links s ps m) ≡ length m
  length_put_links [] m = refl
  length_put_links (p ∷ ps) m = length_put edge_next (put s edge_prev (put_links s ps m) p.1 p.0) p.0 p.1 ∙ length_put edge_prev (put_links s ps m) p.1 p.0 ∙ length_put_links ps m

  pub links_next : (ps : Pairs) (m : List ℕ) (j : ℕ) → total s ≤ length m → All (λ e g. e < rows s edge_next) ps → cell s edge_next (put_links s ps m) j ≡ changed ps (cell s edge_next m) j
  unfolding changed
  links_next [] m j z h = refl
  links_next (p ∷ ps) m j z h =
      cell_same edge_next (put s edge_prev (put_links s ps m) p.1 p.0) p.0 p.1 j (omega (arith, length_put edge_prev (put_links s ps m) p.1 p.0, length_put_links ps m)) h.0
      ∙ ap (cond (eqb j p.0) p.1) (cell_other edge_next edge_prev (put_links s ps m) p.1 p.0 j refl ∙ links_next ps m j z h.1)

  pub links_prev : (ps : Pairs) (m : List ℕ) (j : ℕ) → total s ≤ length m → All (λ e g. g < rows s edge_prev) ps → cell s edge_prev (put_links s ps m) j ≡ changed (reversed ps) (cell s edge_prev m) j
  unfolding changed
  links_prev [] m j z h = refl
  links_prev (p ∷ ps) m j z h =
      cell_other edge_prev edge_next (put s edge_prev (put_links s ps m) p.1 p.0) p.0 p.1 j refl
      ∙ cell_same edge_prev (put_links s ps m) p.1 p.0 j (omega (arith, length_put_links ps m)) h.0
      ∙ ap (cond (eqb j p.1) p.0) (links_prev ps m j z h.1)

  pub links_other : (k : Table) (ps : Pairs) (m : List ℕ) (j : ℕ) → OtherTable k edge_next → OtherTable k edge_prev → cell s k (put_links s ps m) j ≡ cell s k m j
  links_other k [] m j o q = refl
  links_other k (p ∷ ps) m j o q = cell_other k edge_next (put s edge_prev (put_links s ps m) p.1 p.0) p.0 p.1 j o ∙ cell_other k edge_prev (put_links s ps m) p.1 p.0 j q ∙ links_other k ps m j o q

  -- a triangle: the face's half edge, three faces, three links
  abbrev with_edge : Triangle → List ℕ → List ℕ
  with_edge t m = put s face_edge m t.face t.first

  abbrev with_faces : Triangle → List ℕ → List ℕ
  with_faces t m = put_all s edge_face (triangle_sides (t ∷ []) []) (with_edge t m)

  abbrev closed : Triangle → List ℕ → List ℕ
  closed t m = put_links s (triangle_links (t ∷ []) []) (with_faces t m)

  pub length_put_triangles : (ts : List Triangle) (m : List ℕ) → length (put_triangles s ts m) ≡ length m
  length_put_triangles [] m = refl
  length_put_triangles (t ∷ ts) m =
      length_put_links (triangle_links (t ∷ []) []) (with_faces t (put_triangles s ts m)) ∙ length_put_all edge_face (triangle_sides (t ∷ []) []) (with_edge t (put_triangles s ts m))
      ∙ length_put face_edge (put_triangles s ts m) t.face t.first ∙ length_put_triangles ts m

  long_edge : (t : Triangle) (ts : List Triangle) (m : List ℕ) → total s ≤ length m → total s ≤ length (with_edge t (put_triangles s ts m))
  long_edge t ts m z = omega (arith, length_put face_edge (put_triangles s ts m) t.face t.first, length_put_triangles ts m)

  long_faces : (t : Triangle) (ts : List Triangle) (m : List ℕ) → total s ≤ length m → total s ≤ length (with_faces t (put_triangles s ts m))
  long_faces t ts m z = omega (arith, length_put_all edge_face (triangle_sides (t ∷ []) []) (with_edge t (put_triangles s ts m)), long_edge t ts m z)

  -- links and faces alone leave other tables
  faces_other : (k : Table) (t : Triangle) (m : List ℕ) (j : ℕ) → OtherTable k edge_face → OtherTable k face_edge → cell s k (with_faces t m) j ≡ cell s k m j
  faces_other k t m j o q = all_other k edge_face (triangle_sides (t ∷ []) []) (with_edge t m) j o ∙ cell_other k face_edge m t.face t.first j q

  pub triangles_other : (k : Table) (ts : List Triangle) (m : List ℕ) (j : ℕ) → OtherTable k edge_next → OtherTable k edge_prev → OtherTable k edge_face → OtherTable k face_edge →
      cell s k (put_triangles s ts m) j ≡ cell s k m j
  triangles_other k [] m j a b c d = refl
  triangles_other k (t ∷ ts) m j a b c d =
      links_other k (triangle_links (t ∷ []) []) (with_faces t (put_triangles s ts m)) j a b ∙ faces_other k t (put_triangles s ts m) j c d ∙ triangles_other k ts m j a b c d

  -- the tables of triangles, over what stood there before
  module _ (m : List ℕ) (z : total s ≤ length m) (ps : Pairs) (g : ℕ → ℕ) where
    pub triangles_next : (ts : List Triangle) (j : ℕ) → cell s edge_next m j ≡ changed ps g j → All (λ e h. e < rows s edge_next) (triangle_links ts ps) → cell s edge_next (put_triangles s ts m) j ≡ changed (triangle_links ts ps) g j
    unfolding changed
    triangles_next [] j q h = q
    triangles_next (t ∷ ts) j q h =
        links_next (triangle_links (t ∷ []) []) (with_faces t (put_triangles s ts m)) j (long_faces t ts m z) (h.0, (h.1.0, (h.1.1.0, tt)))
        ∙ ap (λ (x : ℕ). cond (eqb j t.first) t.second (cond (eqb j t.second) t.third (cond (eqb j t.third) t.first x)))
        (faces_other edge_next t (put_triangles s ts m) j refl refl ∙ triangles_next ts j q h.1.1.1)

    pub triangles_prev : (ts : List Triangle) (j : ℕ) → cell s edge_prev m j ≡ changed (reversed ps) g j → All (λ e h. h < rows s edge_prev) (triangle_links ts ps) →
        cell s edge_prev (put_triangles s ts m) j ≡ changed (reversed (triangle_links ts ps)) g j
    unfolding changed
    triangles_prev [] j q h = q
    triangles_prev (t ∷ ts) j q h =
        links_prev (triangle_links (t ∷ []) []) (with_faces t (put_triangles s ts m)) j (long_faces t ts m z) (h.0, (h.1.0, (h.1.1.0, tt)))
        ∙ ap (λ (x : ℕ). cond (eqb j t.second) t.first (cond (eqb j t.third) t.second (cond (eqb j t.first) t.third x)))
        (faces_other edge_prev t (put_triangles s ts m) j refl refl ∙ triangles_prev ts j q h.1.1.1)

    pub triangles_face : (ts : List Triangle) (j : ℕ) → cell s edge_face m j ≡ changed ps g j → All (λ e f. e < rows s edge_face) (triangle_sides ts ps) →
        cell s edge_face (put_triangles s ts m) j ≡ changed (triangle_sides ts ps) g j
    unfolding changed
    triangles_face [] j q h = q
    triangles_face (t ∷ ts) j q h =
        links_other edge_face (triangle_links (t ∷ []) []) (with_faces t (put_triangles s ts m)) j refl refl
        ∙ all_same edge_face (triangle_sides (t ∷ []) []) (with_edge t (put_triangles s ts m)) j (long_edge t ts m z) (h.0, (h.1.0, (h.1.1.0, tt)))
        ∙ ap (λ (x : ℕ). cond (eqb j t.first) t.face (cond (eqb j t.second) t.face (cond (eqb j t.third) t.face x)))
        (cell_other edge_face face_edge (put_triangles s ts m) t.face t.first j refl ∙ triangles_face ts j q h.1.1.1)

  pub triangles_edge : (ts : List Triangle) (m : List ℕ) (j : ℕ) → total s ≤ length m → All (λ f e. f < rows s face_edge) (triangle_edges ts) →
      cell s face_edge (put_triangles s ts m) j ≡ changed (triangle_edges ts) (cell s face_edge m) j
  unfolding changed
  triangles_edge [] m j z h = refl
  triangles_edge (t ∷ ts) m j z h =
      links_other face_edge (triangle_links (t ∷ []) []) (with_faces t (put_triangles s ts m)) j refl refl
      ∙ all_other face_edge edge_face (triangle_sides (t ∷ []) []) (with_edge t (put_triangles s ts m)) j refl
      ∙ cell_same face_edge (put_triangles s ts m) t.face t.first j (omega (arith, length_put_triangles ts m)) h.0
      ∙ ap (cond (eqb j t.face) t.first) (triangles_edge ts m j z h.1)
