pub mod Laws
pub mod Members
mod Moves
mod Searching
