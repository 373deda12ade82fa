pub mod Copying
pub mod Held
