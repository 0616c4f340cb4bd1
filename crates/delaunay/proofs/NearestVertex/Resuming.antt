-- The half edge at which the next walk starts is one, after a place was told right.
use Rattle.std.proofs.Common.{ℕ, ◌<◌, List}
use Rattle.exact.specs.Plane.{Point}
use Rattle.dcel.specs.Layout.{Size}
use Rattle.dcel.specs.Memory.{half_edges_in}
use Rattle.delaunay.specs.Where.{Where, on_vertex, on_edge, in_face, outside, beyond, no_edge}
use Rattle.delaunay.specs.Nearest.{resume_at}
use Rattle.delaunay.specs.Kept.{Triangulated, RightPlace}
use Rattle.delaunay.proofs.PointLocation.Located.{sound}

pub resume_in : (s : Size) (m : List ℕ) → Triangulated s m → (p : Point) (w : Where) → RightPlace s m p w → resume_at s m w < half_edges_in s m
resume_in s m T p (on_vertex v) r = (sound s m T).out_in v r.0
resume_in s m T p (on_edge e) r = r.0
resume_in s m T p (in_face e) r = r.0
resume_in s m T p (outside e) r = r.0
resume_in s m T p (beyond e) r = r.1
resume_in s m T p no_edge r = absurd r
