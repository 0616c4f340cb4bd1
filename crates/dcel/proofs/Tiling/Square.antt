-- A square cut in two, as a mesh: it is sound and its geometry is right, so what is proved of such meshes speaks of something. Each clause is a test of finitely many numbers.
use Rattle.std.proofs.Common.{◌≡◌, ℕ, ◌<◌, Bool, true, false, not, eqb, ltb, ◌≢◌, List, [], ◌∷◌, get_or, refl, inl, inr, arith}
use Rattle.exact.specs.Plane.{or, every, each, up_to, all_apart, any, Point, left_of, Vertex, vertex, vertex_at, spot, tri, Tiles}
use Rattle.std.proofs.lemmas.Bool.{and_from, not-true, not_from_false, eqb-true, eq-eqb, eqb-false, ne_eqb, ltb-true, false≢true}
use Rattle.exact.proofs.Booleans.{or→}
use Rattle.exact.proofs.Lists.{every→, up_to←}
use Rattle.exact.proofs.Vertices.{spot_whole, same_number}
use Rattle.dcel.specs.Map.{Map, twin}
use Rattle.dcel.specs.Mesh.{Among, Sound}
use Rattle.dcel.specs.Geometry.{strictly_between, from, to, apex, Geometric, from_least, face_tri}
use Rattle.dcel.proofs.Tiling.Tiles.{mesh_tiles}

-- ---- tests of all numbers below n
all : (P : ℕ → Bool) (n : ℕ) → every P (up_to n) ≡ true → (i : ℕ) → i < n → P i ≡ true
all P n t i h = every→ P (up_to n) t i (up_to← n i h)

all₂ : (P : ℕ → ℕ → Bool) (k n : ℕ) → every (λ i. every (P i) (up_to n)) (up_to k) ≡ true → (i j : ℕ) → i < k → j < n → P i j ≡ true
all₂ P k n t i j h l = all (P i) n (all (λ i. every (P i) (up_to n)) k t i h) j l

abbrev if : Bool → Bool → Bool
if true b = b
if false b = true

then : (a b : Bool) → if a b ≡ true → a ≡ true → b ≡ true
then true b t e = t
then false b t e = absurd (false≢true e)

among : (x a b c : ℕ) → or (eqb x a) (or (eqb x b) (eqb x c)) ≡ true → Among x a b c
among x a b c t = elim (or→ (eqb x a) (or (eqb x b) (eqb x c)) t) [
  | inl e ↦ inl (eqb-true x a e)
  | inr r ↦ elim (or→ (eqb x b) (eqb x c) r) [ inl e ↦ inr (inl (eqb-true x b e)) | inr e ↦ inr (inr (eqb-true x c e)) ]
]

-- ---- the conditions: a face, or the outside
abbrev inner? : ℕ → Bool
inner? f = not (eqb f 0)

inner← : (f : ℕ) → f ≢ 0 → inner? f ≡ true
inner← f z = not_from_false (eqb f 0) (ne_eqb f 0 z)

-- ---- the mesh: the corners 0, 1, 2, 3 in turn, cut from 2 to 0; the half edges in pairs 0 → 1, 1 → 2, 2 → 0, 2 → 3, 3 → 0
abbrev table : List ℕ → ℕ → ℕ
table l i = get_or l i 0

abbrev pub square : Map
square = record {
  next = table (2 ∷ 9 ∷ 4 ∷ 1 ∷ 0 ∷ 6 ∷ 8 ∷ 3 ∷ 5 ∷ 7 ∷ []);
  prev = table (4 ∷ 3 ∷ 0 ∷ 7 ∷ 2 ∷ 8 ∷ 5 ∷ 9 ∷ 6 ∷ 1 ∷ []);
  face = table (1 ∷ 0 ∷ 1 ∷ 0 ∷ 1 ∷ 2 ∷ 2 ∷ 0 ∷ 2 ∷ 0 ∷ []);
  origin = table (0 ∷ 1 ∷ 1 ∷ 2 ∷ 2 ∷ 0 ∷ 2 ∷ 3 ∷ 3 ∷ 0 ∷ []);
  edge = table (1 ∷ 0 ∷ 5 ∷ []);
  out = table (0 ∷ 2 ∷ 4 ∷ 8 ∷ []);
  vertices = 4;
  half_edges = 10;
  faces = 3;
}

abbrev pub corners : List Vertex
corners = vertex 0 0 7 ∷ vertex 1 0 7 ∷ vertex 1 1 7 ∷ vertex 0 1 7 ∷ []

abbrev own? : ℕ → Bool
own? e = or (eqb (square.edge (square.face e)) e) (or (eqb (square.edge (square.face e)) (square.next e)) (eqb (square.edge (square.face e)) (square.next (square.next e))))

pub square_sound : Sound square
unfolding every up_to twin
square_sound = record {
  twin_in = λ e h. ltb-true (twin e) 10 (all (λ e. ltb (twin e) 10) 10 refl e h);
  next_in = λ e h. ltb-true (square.next e) 10 (all (λ e. ltb (square.next e) 10) 10 refl e h);
  prev_in = λ e h. ltb-true (square.prev e) 10 (all (λ e. ltb (square.prev e) 10) 10 refl e h);
  prev_next = λ e h. eqb-true (square.prev (square.next e)) (e) (all (λ e. eqb (square.prev (square.next e)) (e)) 10 refl e h);
  next_prev = λ e h. eqb-true (square.next (square.prev e)) (e) (all (λ e. eqb (square.next (square.prev e)) (e)) 10 refl e h);
  origin_in = λ e h. ltb-true (square.origin e) 4 (all (λ e. ltb (square.origin e) 4) 10 refl e h);
  origin_next = λ e h. eqb-true (square.origin (square.next e)) (square.origin (twin e)) (all (λ e. eqb (square.origin (square.next e)) (square.origin (twin e))) 10 refl e h);
  face_in = λ e h. ltb-true (square.face e) 3 (all (λ e. ltb (square.face e) 3) 10 refl e h);
  face_next = λ e h. eqb-true (square.face (square.next e)) (square.face e) (all (λ e. eqb (square.face (square.next e)) (square.face e)) 10 refl e h);
  three = λ e h z. eqb-true (square.next (square.next (square.next e))) e (then (inner? (square.face e)) (eqb (square.next (square.next (square.next e))) e) (all (λ e. if (inner? (square.face e)) (eqb (square.next (square.next (square.next e))) e)) 10 refl e h) (inner← (square.face e) z));
  no_loop = λ e h. eqb-false (square.origin e) (square.origin (twin e)) (not-true (eqb (square.origin e) (square.origin (twin e))) (all (λ e. not (eqb (square.origin e) (square.origin (twin e)))) 10 refl e h));
  edge_in = λ f l h. ltb-true (square.edge f) 10 (all (λ f. ltb (square.edge f) 10) 3 refl f h);
  edge_face = λ f l h. eqb-true (square.face (square.edge f)) f (then (inner? f) (eqb (square.face (square.edge f)) f) (all (λ f. if (inner? f) (eqb (square.face (square.edge f)) f)) 3 refl f h) (inner← f (λ q. omega arith)));
  edge_of = λ e h z. among (square.edge (square.face e)) e (square.next e) (square.next (square.next e)) (then (inner? (square.face e)) (own? e) (all (λ e. if (inner? (square.face e)) (own? e)) 10 refl e h) (inner← (square.face e) z));
  out_in = λ v h. ltb-true (square.out v) 10 (all (λ v. ltb (square.out v) 10) 4 refl v h);
  out_origin = λ v h. eqb-true (square.origin (square.out v)) v (all (λ v. eqb (square.origin (square.out v)) v) 4 refl v h);
}

-- ---- its geometry
abbrev at : ℕ → Point
at = spot corners

abbrev outer? : ℕ → Bool
outer? e = eqb (square.face e) 0

abbrev left? : ℕ → Bool
left? e = left_of (from at square e) (to at square e) (apex at square e)

abbrev right? : ℕ → ℕ → Bool
right? e v = not (left_of (from at square e) (to at square e) (at v))

abbrev clear? : ℕ → ℕ → Bool
clear? e v = not (strictly_between (from at square e) (to at square e) (at v))

abbrev once? : ℕ → ℕ → Bool
once? d e = if (outer? e) (if (eqb (square.origin d) (square.origin e)) (eqb d e))

pub square_geometric : Geometric (spot corners) square
unfolding every up_to twin vertex_at all_apart any
square_geometric = record {
  left = λ e h z. then (inner? (square.face e)) (left? e) (all (λ e. if (inner? (square.face e)) (left? e)) 10 refl e h) (inner← (square.face e) z);
  right = λ e h z v l. not-true (left_of (from at square e) (to at square e) (at v)) (then (outer? e) (right? e v) (all₂ (λ e v. if (outer? e) (right? e v)) 10 4 refl e v h l) (eq-eqb (square.face e) 0 z));
  clear = λ e h z v l. not-true (strictly_between (from at square e) (to at square e) (at v)) (then (outer? e) (clear? e v) (all₂ (λ e v. if (outer? e) (clear? e v)) 10 4 refl e v h l) (eq-eqb (square.face e) 0 z));
  once = λ s d e h l y z q. eqb-true d e (then (eqb (square.origin d) (square.origin e)) (eqb d e) (then (outer? e) (if (eqb (square.origin d) (square.origin e)) (eqb d e))
      (then (outer? d) (once? d e) (all₂ (λ d e. if (outer? d) (once? d e)) 10 10 refl d e h l) (eq-eqb (square.face d) 0 y)) (eq-eqb (square.face e) 0 z)) (eq-eqb (square.origin d) (square.origin e) q));
  ends = λ s. absurd (omega arith);
  single = λ s. absurd (omega arith);
  whole = spot_whole corners refl;
  apart = λ u v h l p q. same_number corners refl u v h l (and_from (eqb (at u).x (at v).x) (eqb (at u).y (at v).y) (eq-eqb (at u).x (at v).x p) (eq-eqb (at u).y (at v).y q));
}

-- so its two triangles tile it
pub square_tiles : Tiles corners (tri 0 1 2 ∷ tri 0 2 3 ∷ [])
unfolding each up_to face_tri from_least
square_tiles = mesh_tiles corners square_sound square_geometric refl (omega arith)
