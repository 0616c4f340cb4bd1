pub mod Resuming
pub mod Search
pub mod Found
