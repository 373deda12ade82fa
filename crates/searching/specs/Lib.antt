pub mod Searching
pub mod Object
