-- The worked examples: each is computed.
use Rattle.std.proofs.Common.{refl, inl, inr, lit<}
use Rattle.exact.specs.Plane.{every, any, those, up_to, vertex_at, no_twice, all_apart, on_a_line, none_of, tri}
use Rattle.triangles.specs.House.{refusal, vertices_after, Located, Nearest, HullRow, chained, first_of, no_number_twice, found_from, beyond, on_an_edge, set_nth, all_but_last}
use Rattle.triangles.specs.Promise.{on_hull}
use Rattle.triangles.specs.Examples.{RightSoFar, RectangleFanned, RectangleHull, RectangleLocated, RectangleNearest, RectangleLess, SquareEitherWay, RowJoined}

pub rectangle_fanned : RectangleFanned
unfolding RightSoFar all_apart on_a_line every any no_twice those up_to vertex_at on_hull
rectangle_fanned = (refl, refl, refl, refl, refl, refl)

pub rectangle_hull : RectangleHull
unfolding HullRow on_a_line every any up_to vertex_at chained first_of no_number_twice none_of
rectangle_hull = (λ e. cc, λ e. (refl, refl, refl, refl))

pub rectangle_located : RectangleLocated
unfolding Located found_from on_a_line every any up_to vertex_at beyond on_an_edge
rectangle_located =
    (inr (refl, inl (0, 1, refl, refl, refl)), inr (refl, inl (1, 0, refl, refl, refl)), inr (refl, inr (inl (tri 1 2 4, refl, refl, refl))), inr (refl, inr (inr (inl (2, 1, refl, refl, refl, refl)))))

pub rectangle_nearest : RectangleNearest
unfolding Nearest every vertex_at
rectangle_nearest = (lit< tt, refl)

pub rectangle_less : RectangleLess
unfolding RightSoFar refusal vertices_after set_nth all_but_last all_apart on_a_line every any no_twice those up_to vertex_at on_hull
rectangle_less = (refl, refl, (refl, refl, refl, refl, refl, refl))

pub square_either_way : SquareEitherWay
unfolding RightSoFar all_apart on_a_line every any no_twice those up_to vertex_at on_hull
square_either_way = ((refl, refl, refl, refl, refl, refl), (refl, refl, refl, refl, refl, refl))

pub row_joined : RowJoined
unfolding on_a_line every any up_to vertex_at
row_joined = (refl, refl, refl, refl, refl, refl, refl)
