pub mod Cuts
pub mod Minimum
pub mod Pieces
pub mod Entered
pub mod Walking
pub mod LeastTimes
