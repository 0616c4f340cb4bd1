pub mod Sides
pub mod Dots
pub mod Circles
