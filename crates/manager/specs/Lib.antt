pub mod Reading
pub mod Comparing
pub mod Holding
pub mod Storing
pub mod Safety
pub mod Held
