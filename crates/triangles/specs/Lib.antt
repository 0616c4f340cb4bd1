pub mod House
pub mod Promise
pub mod Machine
pub mod LookupRows
pub mod Outcome
pub mod Entry
pub mod Request
pub mod Line
pub mod PointLine
pub mod Word
pub mod Examples
pub mod Small
-- What answers are made of, so that a caller need not list the crates below.
pub use Rattle.exact.specs.declared.verdict.Circle
pub use Rattle.dcel.specs.declared.site.Site
