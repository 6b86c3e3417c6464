pub mod Holdings
pub mod Closing
