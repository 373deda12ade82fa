pub mod Surveying
pub mod Looking
pub mod Views
pub mod Quotas
pub mod Walking
pub mod Passing
pub mod Verdict
