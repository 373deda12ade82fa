pub mod Ahead
pub mod Pages
pub mod Step
pub mod Noting
pub mod Repeats
pub mod Sweeping
pub mod Doubles
pub mod Held
