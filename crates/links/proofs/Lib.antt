pub mod Equality
pub mod Inside
pub mod Order
pub mod Ranges
pub mod Switching
pub mod Touching
