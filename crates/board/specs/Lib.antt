pub mod Tables
pub mod Faults
pub mod Calls
pub mod Promise
pub mod Held
pub mod Answered
