pub mod Adjacencies
pub mod Edits
pub mod Kept
pub mod Laws
