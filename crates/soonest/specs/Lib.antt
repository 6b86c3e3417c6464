pub mod Guidance
pub mod Stages
pub mod Ways
pub mod Claims
pub mod Faults
pub mod Asking
pub mod Tracing
