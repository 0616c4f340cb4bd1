-- What each surgery on memory keeps, for every size.
use Rattle.std.proofs.Common.{ℕ, List, refl, arith}
use Rattle.dcel.specs.Layout.{Size}
use Rattle.dcel.specs.Surgery.{Flippable, flip_change, flip_patch, Inner, split_face_change, split_face_patch, Outer, attach_change, attach_patch, Ear, ear_change, ear_patch}
use Rattle.dcel.specs.EdgeSurgery.{InnerEdge, split_inner_edge_change, split_inner_edge_patch, HullEdge, split_hull_edge_change, split_hull_edge_patch, LineEdge, split_line_edge_change, split_line_edge_patch, LineEnd, split_line_end_change, split_line_end_patch, extend_line_change, extend_line_patch}
use Rattle.dcel.specs.Memory.{vertices_in, map_of}
use Rattle.dcel.specs.Operations.{Keeps, Grows, apply_with, flipped, ear_closed}
use Rattle.dcel.proofs.Becoming.{at_most_below, becomes_rewired, becomes_applied, becomes_with}
use Rattle.dcel.proofs.EdgeFlip.{flip_surgery}
use Rattle.dcel.proofs.FaceSplit.{split_face_surgery}
use Rattle.dcel.proofs.OuterAttach.{attach_surgery}
use Rattle.dcel.proofs.EarClose.{ear_surgery}
use Rattle.dcel.proofs.InnerEdgeSplit.{split_inner_edge_surgery}
use Rattle.dcel.proofs.HullEdgeSplit.{split_hull_edge_surgery}
use Rattle.dcel.proofs.LineEdgeSplit.{split_line_edge_surgery}
use Rattle.dcel.proofs.LineEndSplit.{split_line_end_surgery}
use Rattle.dcel.proofs.LineExtend.{extend_line_surgery}

pub flip_keeps : (s : Size) (m : List ℕ) (e : ℕ) → Keeps s Flippable flip_patch m e (flipped s m e)
flip_keeps s m e H may = becomes_rewired s m H (flip_change (map_of s m) e) (flip_surgery (map_of s m) H.mesh e may) (at_most_below _ _) refl refl refl

pub ear_keeps : (s : Size) (m : List ℕ) (e : ℕ) → Keeps s Ear ear_patch m e (ear_closed s m e)
ear_keeps s m e H may = becomes_applied s m H (ear_change (map_of s m) e) (ear_surgery (map_of s m) H.mesh e may) (at_most_below _ _)

pub split_face_grows : (s : Size) (m : List ℕ) (e x y d : ℕ) → Grows s Inner split_face_patch m e x y d (apply_with s split_face_change m e x y d)
split_face_grows s m e x y d H may room = becomes_with s m H (split_face_change (map_of s m) e) (split_face_surgery (map_of s m) H.mesh e may) (omega arith) (vertices_in s m) x y d room

pub attach_grows : (s : Size) (m : List ℕ) (e x y d : ℕ) → Grows s Outer attach_patch m e x y d (apply_with s attach_change m e x y d)
attach_grows s m e x y d H may room = becomes_with s m H (attach_change (map_of s m) e) (attach_surgery (map_of s m) H.mesh e may) (omega arith) (vertices_in s m) x y d room

pub split_inner_edge_grows : (s : Size) (m : List ℕ) (e x y d : ℕ) → Grows s InnerEdge split_inner_edge_patch m e x y d (apply_with s split_inner_edge_change m e x y d)
split_inner_edge_grows s m e x y d H may room = becomes_with s m H (split_inner_edge_change (map_of s m) e) (split_inner_edge_surgery (map_of s m) H.mesh e may) (omega arith) (vertices_in s m) x y d room

pub split_hull_edge_grows : (s : Size) (m : List ℕ) (e x y d : ℕ) → Grows s HullEdge split_hull_edge_patch m e x y d (apply_with s split_hull_edge_change m e x y d)
split_hull_edge_grows s m e x y d H may room = becomes_with s m H (split_hull_edge_change (map_of s m) e) (split_hull_edge_surgery (map_of s m) H.mesh e may) (omega arith) (vertices_in s m) x y d room

pub split_line_edge_grows : (s : Size) (m : List ℕ) (e x y d : ℕ) → Grows s LineEdge split_line_edge_patch m e x y d (apply_with s split_line_edge_change m e x y d)
split_line_edge_grows s m e x y d H may room = becomes_with s m H (split_line_edge_change (map_of s m) e) (split_line_edge_surgery (map_of s m) H.mesh e may) (omega arith) (vertices_in s m) x y d room

pub split_line_end_grows : (s : Size) (m : List ℕ) (e x y d : ℕ) → Grows s LineEnd split_line_end_patch m e x y d (apply_with s split_line_end_change m e x y d)
split_line_end_grows s m e x y d H may room = becomes_with s m H (split_line_end_change (map_of s m) e) (split_line_end_surgery (map_of s m) H.mesh e may) (omega arith) (vertices_in s m) x y d room

pub extend_line_grows : (s : Size) (m : List ℕ) (e x y d : ℕ) → Grows s LineEnd extend_line_patch m e x y d (apply_with s extend_line_change m e x y d)
extend_line_grows s m e x y d H may room = becomes_with s m H (extend_line_change (map_of s m) e) (extend_line_surgery (map_of s m) H.mesh e may) (omega arith) (vertices_in s m) x y d room
