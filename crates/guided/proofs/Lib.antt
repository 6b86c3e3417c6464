pub mod Parts
pub mod Estimates
pub mod Indexes
pub mod Along
pub mod Differences
pub mod Early
pub mod Computed
