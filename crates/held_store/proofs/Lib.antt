pub mod Changes
pub mod Layers
pub mod Removing
pub mod Undone
