pub mod Layers
pub mod Meaning
pub mod Undoing
