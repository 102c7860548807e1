pub mod Commands
pub mod Parts
pub mod Texts
pub mod Words
