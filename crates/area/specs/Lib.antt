pub mod Checks
pub mod Holding
pub mod Reading
