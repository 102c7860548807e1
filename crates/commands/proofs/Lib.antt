pub mod Digits
pub mod Dashes
pub mod Names
pub mod Runs
pub mod Steps
