pub mod Listing
pub mod Walking
pub mod Insertion
pub mod Searching
