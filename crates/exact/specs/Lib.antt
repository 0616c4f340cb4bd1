pub mod Plane
pub mod Signed
pub mod OneForm
pub mod Verdicts
pub mod Sums
pub mod Distance
