-- The worklist and the flips keep what the writing of words keeps; and so do loops, if each turn does.
use Rattle.std.proofs.Common.{ℕ, zero, suc, ◌+◌, ◌-◌, ◌*◌, ◌/◌, Bool, eqb, List, Some, None, Option, arith, inl, inr}
use Rattle.std.proofs.lemmas.Bool.{cases_lt}
use Rattle.exact.specs.Plane.{pick}
use Rattle.dcel.specs.Layout.{Size, header, worklist}
use Rattle.dcel.specs.Memory.{cell}
use Rattle.dcel.proofs.Becoming.{at_most_below}
use Rattle.dcel.proofs.Steady.Writes.{Keeping}
use Rattle.dcel.proofs.Steady.Surgeries.{flip_keeps}
use Rattle.delaunay.specs.Iterate.{or_else, iterate}
use Rattle.delaunay.specs.Worklist.{head_of, list_head, pushed, pushed_face, first_listed, popped}
use Rattle.delaunay.specs.Legalize.{to_flip, turned, settled_edge, settle, settle_fuel, legalized}
use Rattle.delaunay.proofs.PointLocation.Tests.{picked}

-- Q of what is there, if something is
abbrev pub Has : {A : Type 0} → (A → Type 0) → Option A → Type 0
Has Q None = Unit {0}
Has Q (Some a) = Q a

-- Q of both of two, so of the one that is picked
pub either_way : {A : Type 0} (Q : A → Type 0) (b : Bool) (x y : A) → Q x → Q y → Q (pick b x y)
either_way Q b x y p q = picked Q b x y (λ e. p) (λ e. q)

pub iterate_keeps : {A : Type 0} (Q : A → Type 0) (step : A → Option A) → ((a : A) → Q a → Has Q (step a)) → (n : ℕ) (a : A) → Q a → Q (iterate step n a)
unfolding iterate
iterate_keeps Q step keeps zero a q = q
iterate_keeps {A} Q step keeps (suc n) a q = by (step a) (keeps a q) (λ b r. iterate_keeps Q step keeps n b r)
  where
    by : (o : Option A) → Has Q o → ((b : A) → Q b → Q (iterate step n b)) → Q (or_else o a (iterate step n))
    by None h go = q
    by (Some b) h go = go b h

module _ (s : Size) (P : List ℕ → Type 0) (W : ℕ → Type 0) (K : Keeping s P W) where
  -- one more than an edge
  edge_word : (e : ℕ) → W e → W (e / 2 + 1)
  edge_word e w = elim (cases_lt e 2) [ inl h ↦ K.few (omega arith) | inr h ↦ K.less (omega arith) w ]

  pub pushed_keeps : (m : List ℕ) (e : ℕ) → P m → W e → P (pushed s m e)
  unfolding pushed
  pushed_keeps m e p w =
      either_way P (eqb (cell s worklist m (e / 2)) 0) _ _
      (K.written _ _ (K.written _ _ p (K.few (omega (arith, at_most_below (3 * s.vertices) (cell s header m list_head))))) (edge_word e w)) p

  pub pushed_face_keeps : (m : List ℕ) (e : ℕ) → P m → W e → P (pushed_face s m e)
  unfolding pushed_face
  pushed_face_keeps m e p w = pushed_keeps _ _ (pushed_keeps _ _ (pushed_keeps m e p w) (K.read _ _ p)) (K.read _ _ p)

  popped_keeps : (m : List ℕ) → P m → P (popped s m)
  unfolding popped
  popped_keeps m p =
      either_way P (eqb (head_of s m) 0) _ _ p
      (K.written _ _ (K.written _ _ p (K.less (omega arith) (K.read worklist (head_of s m - 1) p))) (K.few (omega arith)))

  first_word : (m : List ℕ) → Has W (first_listed s m)
  unfolding first_listed
  first_word m = either_way (Has W) (eqb (head_of s m) 0) _ _ tt (K.few (omega (arith, at_most_below (3 * s.vertices) (cell s header m list_head))))

  turned_keeps : (m : List ℕ) (e : ℕ) → P m → W e → P (turned s m e)
  unfolding turned
  turned_keeps m e p w =
      pushed_keeps _ _ (pushed_keeps _ _ (pushed_keeps _ _ (pushed_keeps _ _ (flip_keeps s P W K m e p w) (K.read _ _ p)) (K.read _ _ p)) (K.read _ _ p)) (K.read _ _ p)

  settled_edge_keeps : (m : List ℕ) (e : ℕ) → P m → W e → P (settled_edge s m e)
  unfolding settled_edge
  settled_edge_keeps m e p w = either_way P (to_flip s m e) _ _ (turned_keeps m e p w) p

  settle_keeps : (m : List ℕ) → P m → Has P (settle s m)
  unfolding settle
  settle_keeps m p = by (first_listed s m) (first_word m)
    where
      by : (o : Option ℕ) → Has W o → Has P (or_else o None (λ e. Some (settled_edge s (popped s m) e)))
      by None w = tt
      by (Some e) w = settled_edge_keeps (popped s m) e (popped_keeps m p) w

  pub legalized_keeps : (m : List ℕ) → P m → P (legalized s m)
  unfolding legalized
  legalized_keeps m p = iterate_keeps P (settle s) settle_keeps (settle_fuel s) m p
