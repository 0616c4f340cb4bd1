pub mod MeshTriangles
pub mod EmptyCircles
pub mod FaceOrLine
pub mod AtRest
pub mod TriangleEdges
pub mod LineEdges
pub mod Joined
pub mod Walking
