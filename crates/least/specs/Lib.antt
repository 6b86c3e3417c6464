pub mod Segments
pub mod Faults
pub mod Held
pub mod Points
pub mod Times
