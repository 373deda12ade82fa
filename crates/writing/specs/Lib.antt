pub mod Moving
pub mod Appending
pub mod Held
