pub mod Edits
pub mod Leasts
pub mod Loops
pub mod Small
pub mod Steps
