pub mod Chords
pub mod Edges
pub mod Measure
pub mod Termination
pub mod Lemma
pub mod Everywhere
pub mod Lists
