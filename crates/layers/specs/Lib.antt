pub mod Changes
pub mod Faults
pub mod Layered
pub mod Kept
pub mod Firsts
