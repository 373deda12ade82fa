pub mod Making
pub mod Held
