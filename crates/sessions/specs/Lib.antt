pub mod Stepping
pub mod Sessions
pub mod Listing
pub mod Steady
