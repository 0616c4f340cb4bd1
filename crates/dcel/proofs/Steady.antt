pub mod Writes
pub mod Surgeries
pub mod Instances
