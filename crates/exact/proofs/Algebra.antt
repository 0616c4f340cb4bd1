pub mod Integers
pub mod Polynomials
pub mod Reading
pub mod Ring
pub mod Signs
pub mod SignRules
pub mod Tests
pub mod IntegerTests
