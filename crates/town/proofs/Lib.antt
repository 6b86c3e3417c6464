pub mod Computed
pub mod Sound
pub mod Asked
pub mod LeastTimes
pub mod Offered
pub mod Guided
pub mod Examples
