pub mod Answers
pub mod Numbers
pub mod Sets
pub mod Order
pub mod Texts
