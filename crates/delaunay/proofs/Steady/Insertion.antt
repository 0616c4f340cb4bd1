-- Putting a point in, wherever it is, keeps what the writing of words keeps.
use Rattle.std.proofs.Common.{ℕ, ◌+◌, ◌≤◌, eqb, List, Some, None, Option, arith}
use Rattle.exact.specs.Plane.{Point, point}
use Rattle.dcel.specs.Layout.{Size, vertex_data, edge_next, edge_prev, edge_face}
use Rattle.dcel.specs.Map.{twin}
use Rattle.dcel.specs.Memory.{cell, vertices_in, half_edges_in}
use Rattle.dcel.proofs.Steady.Writes.{Keeping}
use Rattle.dcel.proofs.Steady.Surgeries.{counted, growth_keeps, ear_keeps, first_keeps, second_keeps, attach_words, split_face_words, split_inner_edge_words, split_hull_edge_words, split_line_edge_words, split_line_end_words, extend_line_words}
use Rattle.dcel.specs.Surgery.{attach_change, split_face_change}
use Rattle.dcel.specs.EdgeSurgery.{split_inner_edge_change, split_hull_edge_change, split_line_edge_change, split_line_end_change, extend_line_change}
use Rattle.delaunay.specs.Walk.{left_at, located}
use Rattle.delaunay.specs.Where.{Where, on_vertex, on_edge, in_face, outside, beyond, no_edge}
use Rattle.delaunay.specs.declared.outside.Way.{Way}
use Rattle.delaunay.specs.declared.outside.Way.TheVariants.{Ahead, Behind}
use Rattle.delaunay.specs.Iterate.{or_else}
use Rattle.delaunay.specs.Outside.{Rim, rim, ear_listed, ear_seen, closed_on, ear_fuel, ears_closed, put_outside}
use Rattle.delaunay.specs.Insert.{put_in_face, put_between, put_on_hull, put_on_line, put_on_edge, put_alone, put_at, number_at, put_and_settled, full_at, inserted, inserted_number}
use Rattle.delaunay.proofs.Steady.Listing.{Has, either_way, iterate_keeps, pushed_face_keeps, legalized_keeps}
use Rattle.delaunay.proofs.Steady.Walking.{WordPlace, located_word}

-- memory and half edge of a rim
pub record RimKept (P : List ℕ → Type 0) (W : ℕ → Type 0) (r : Rim) : Type 0 where
  pub words : P r.words
  pub edge : W r.edge

module _ (s : Size) (P : List ℕ → Type 0) (W : ℕ → Type 0) (K : Keeping s P W) where
  ear_listed_keeps : (m : List ℕ) (e : ℕ) → P m → W e → P (ear_listed s m e)
  unfolding ear_listed
  ear_listed_keeps m e p w = pushed_face_keeps s P W K _ e (ear_keeps s P W K m e p w) w

  -- the half edges that are new
  new_word : (m : List ℕ) (n : ℕ) → n ≤ 6 → W (half_edges_in s m + n)
  new_word m n h = K.few (omega (arith, (counted s m).half_edges_few))

  last_word : (m : List ℕ) → W (half_edges_in s m)
  last_word m = K.few (omega (arith, (counted s m).half_edges_few))

  module _ (q : Point) where
    seen_word : (way : Way) (r : Rim) → RimKept P W r → Has W (ear_seen s way q r.words r.edge)
    unfolding ear_seen
    seen_word Ahead r h = either_way (Has W) (left_at s r.words (cell s edge_next r.words r.edge) q) (Some r.edge) None h.edge tt
    seen_word Behind r h =
        either_way (Has W) (left_at s r.words (cell s edge_prev r.words r.edge) q) (Some (cell s edge_prev r.words r.edge)) None (K.read _ _ h.words) tt

    ear_keeps_rim : (r : Rim) → RimKept P W r → (o : Option ℕ) → Has W o → Has (RimKept P W) (or_else o None (λ e. Some (rim (ear_listed s r.words e) (half_edges_in s r.words))))
    ear_keeps_rim r h None w = tt
    ear_keeps_rim r h (Some e) w = record { words = ear_listed_keeps r.words e h.words w; edge = last_word r.words }

    closed_keeps : (way : Way) (r : Rim) → RimKept P W r → Has (RimKept P W) (closed_on s way q r)
    unfolding closed_on
    closed_keeps way r h = ear_keeps_rim r h (ear_seen s way q r.words r.edge) (seen_word way r h)

    ears_closed_keeps : (way : Way) (m : List ℕ) (e : ℕ) → P m → W e → P (ears_closed s way q m e)
    unfolding ears_closed
    ears_closed_keeps way m e p w =
        (iterate_keeps (RimKept P W) (closed_on s way q) (closed_keeps way) (ear_fuel s) (rim m e) (record { words = p; edge = w })).words

  module _ (m : List ℕ) (p : P m) (x y d : ℕ) (wx : W x) (wy : W y) (wd : W d) where
    outside_keeps : (e : ℕ) → W e → P (put_outside s m e x y d)
    unfolding put_outside
    outside_keeps e w =
        ears_closed_keeps (point x y) Behind _ _ (ears_closed_keeps (point x y) Ahead _ _
        (pushed_face_keeps s P W K _ e (growth_keeps s P W K attach_change (attach_words s P W K) m e p w wx wy wd) w) (new_word m 1 (omega arith))) (new_word m 3 (omega arith))

    in_face_keeps : (e : ℕ) → W e → P (put_in_face s m e x y d)
    unfolding put_in_face
    in_face_keeps e w =
        pushed_face_keeps s P W K _ _ (pushed_face_keeps s P W K _ _ (pushed_face_keeps s P W K _ _
        (growth_keeps s P W K split_face_change (split_face_words s P W K) m e p w wx wy wd) w) (K.read _ _ p)) (K.read _ _ p)

    between_keeps : (e : ℕ) → W e → P (put_between s m e x y d)
    unfolding put_between
    between_keeps e w =
        pushed_face_keeps s P W K _ _ (pushed_face_keeps s P W K _ _ (pushed_face_keeps s P W K _ _ (pushed_face_keeps s P W K _ _
        (growth_keeps s P W K split_inner_edge_change (split_inner_edge_words s P W K) m e p w wx wy wd) w) (K.read _ _ p)) (K.twinned w)) (K.read _ _ p)

    on_hull_keeps : (e : ℕ) → W e → P (put_on_hull s m e x y d)
    unfolding put_on_hull
    on_hull_keeps e w =
        pushed_face_keeps s P W K _ _ (pushed_face_keeps s P W K _ _ (growth_keeps s P W K split_hull_edge_change (split_hull_edge_words s P W K) m e p w wx wy wd) w) (K.read _ _ p)

    on_line_keeps : (e : ℕ) → W e → P (put_on_line s m e x y d)
    unfolding put_on_line
    on_line_keeps e w =
        either_way P (eqb (cell s edge_next m e) (twin e)) _ _ (growth_keeps s P W K split_line_end_change (split_line_end_words s P W K) m e p w wx wy wd)
        (growth_keeps s P W K split_line_edge_change (split_line_edge_words s P W K) m e p w wx wy wd)

    on_edge_keeps : (e : ℕ) → W e → P (put_on_edge s m e x y d)
    unfolding put_on_edge
    on_edge_keeps e w =
        either_way P (eqb (cell s edge_face m e) 0) _ _
        (either_way P (eqb (cell s edge_face m (twin e)) 0) _ _ (on_line_keeps e w) (on_hull_keeps (twin e) (K.twinned w)))
        (either_way P (eqb (cell s edge_face m (twin e)) 0) _ _ (on_hull_keeps e w) (between_keeps e w))

    alone_keeps : P (put_alone s m x y d)
    unfolding put_alone
    alone_keeps = either_way P (eqb (vertices_in s m) 0) _ _ (first_keeps s P W K m p wx wy wd) (second_keeps s P W K m p wx wy wd)

    put_at_keeps : (at : Where) → WordPlace W at → P (put_at s m at x y d)
    put_at_keeps (on_vertex v) w = K.written vertex_data v p wd
    put_at_keeps (on_edge e) w = on_edge_keeps e w
    put_at_keeps (in_face e) w = in_face_keeps e w
    put_at_keeps (outside e) w = outside_keeps e w
    put_at_keeps (beyond e) w = growth_keeps s P W K extend_line_change (extend_line_words s P W K) m e p w wx wy wd
    put_at_keeps no_edge w = alone_keeps

    settled_keeps : (at : Where) → WordPlace W at → P (put_and_settled s m at x y d)
    unfolding put_and_settled
    settled_keeps at w = let n = legalized_keeps s P W K _ (put_at_keeps at w) in K.written _ _ n (K.read _ _ n)

    pub inserted_keeps : P (inserted s m x y d)
    unfolding inserted
    inserted_keeps =
        let at = located s m (point x y) in
        either_way P (full_at s m at) _ _ p (settled_keeps at (located_word s P W K m p (point x y)))

  -- the number that the point gets, or has
  module _ (m : List ℕ) (p : P m) (x y : ℕ) where
    number_at_word : (at : Where) → WordPlace W at → W (number_at s m at)
    number_at_word (on_vertex v) w = w
    number_at_word (on_edge e) w = K.few (omega (arith, (counted s m).vertices_few))
    number_at_word (in_face e) w = K.few (omega (arith, (counted s m).vertices_few))
    number_at_word (outside e) w = K.few (omega (arith, (counted s m).vertices_few))
    number_at_word (beyond e) w = K.few (omega (arith, (counted s m).vertices_few))
    number_at_word no_edge w = K.few (omega (arith, (counted s m).vertices_few))

    pub inserted_number_word : Has W (inserted_number s m x y)
    unfolding inserted_number
    inserted_number_word =
        let at = located s m (point x y) in
        either_way (Has W) (full_at s m at) _ _ tt (number_at_word at (located_word s P W K m p (point x y)))
