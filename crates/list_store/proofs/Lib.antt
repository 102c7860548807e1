mod Inserting
mod Next
mod Sources
mod Touching
