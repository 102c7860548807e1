pub mod Numbers
pub mod Steps
pub mod Texts
pub mod Words
