pub mod Words
pub mod Digits
pub mod Rows
pub mod Apart
pub mod Worked
pub mod Entries
pub mod Promises
pub mod ThereIs
