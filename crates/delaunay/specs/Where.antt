-- Where a point is, by numbers of vertices and half edges.
use Rattle.std.specs.Prelude.{ℕ}
use Rattle.delaunay.specs.declared.location.Location.{Location}
use Rattle.delaunay.specs.declared.location.Location.TheVariants.{OnVertex, OnEdge, InFace, Outside, Beyond, NoEdge}

pub data Where : Type 0 where
  on_vertex : ℕ → Where
  on_edge : ℕ → Where
  in_face : ℕ → Where
  outside : ℕ → Where
  beyond : ℕ → Where
  no_edge : Where

abbrev pub where_of : Location → Where
where_of (OnVertex v) = on_vertex v.0
where_of (OnEdge e) = on_edge e.0
where_of (InFace e) = in_face e.0
where_of (Outside e) = outside e.0
where_of (Beyond e) = beyond e.0
where_of NoEdge = no_edge
