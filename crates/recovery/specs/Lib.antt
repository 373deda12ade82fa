pub mod Mending
pub mod Finishing
pub mod Last
pub mod Held
