-- A place told right: on a vertex, and then that is the one there; or else no vertex is there.
use Rattle.std.proofs.Common.{◌≡◌, ℕ, ◌<◌, true, ◌⊎◌, List, sym, refl, ap, ◌∙◌, subst, inl, inr}
use Rattle.exact.specs.Plane.{Point, point}
use Rattle.exact.proofs.Booleans.{true_false}
use Rattle.dcel.specs.Layout.{Size}
use Rattle.dcel.specs.Memory.{vertices_in}
use Rattle.delaunay.specs.Places.{place_of}
use Rattle.delaunay.specs.Insert.{number_at, new_at}
use Rattle.delaunay.specs.Where.{Where, on_vertex, on_edge, in_face, outside, beyond, no_edge}
use Rattle.delaunay.specs.Kept.{Held, RightPlace}
use Rattle.delaunay.proofs.PointLocation.AtVertex.{only_vertex}

abbrev pub NoneAt : Size → List ℕ → Point → Type 0
NoneAt s m p = (v : ℕ) → v < vertices_in s m → place_of s m v ≡ p → ⊥

-- the vertex there, or that none is
pub record AtVertex (s : Size) (m : List ℕ) (p : Point) (w : Where) : Type 0 where
  pub vertex : ℕ
  pub is : w ≡ on_vertex vertex
  pub below : vertex < vertices_in s m
  pub there : place_of s m vertex ≡ p

pub record AtNone (s : Size) (m : List ℕ) (p : Point) (w : Where) : Type 0 where
  pub new : new_at w ≡ true
  pub number : number_at s m w ≡ vertices_in s m
  pub none : NoneAt s m p

module _ (s : Size) (m : List ℕ) (H : Held s m) (x y : ℕ) where
  -- if there were one, it would be told
  pub none_there : (w : Where) → RightPlace s m (point x y) w → new_at w ≡ true → NoneAt s m (point x y)
  none_there w h k v l q = true_false (new_at w) k (ap new_at (only_vertex s m H.holds.mesh.sound H.geometric v l w (subst (λ (p : Point). RightPlace s m p w) (sym q) h)))

  new_told : (w : Where) → RightPlace s m (point x y) w → new_at w ≡ true → number_at s m w ≡ vertices_in s m → AtVertex s m (point x y) w ⊎ AtNone s m (point x y) w
  new_told w h k q = inr (record { new = k; number = q; none = none_there w h k })

  pub told : (w : Where) → RightPlace s m (point x y) w → AtVertex s m (point x y) w ⊎ AtNone s m (point x y) w
  told (on_vertex v) h = inl (record { vertex = v; is = refl; below = h.0; there = h.1 })
  told (on_edge e) h = new_told (on_edge e) h refl refl
  told (in_face e) h = new_told (in_face e) h refl refl
  told (outside e) h = new_told (outside e) h refl refl
  told (beyond e) h = new_told (beyond e) h refl refl
  told no_edge h = absurd h

  pub vertex_once : (u v : ℕ) → u < vertices_in s m → v < vertices_in s m → place_of s m u ≡ point x y → place_of s m v ≡ point x y → u ≡ v
  vertex_once u v h l p q = let r = p ∙ sym q in H.geometric.apart u v h l (ap (λ (p : Point). p.x) r) (ap (λ (p : Point). p.y) r)
