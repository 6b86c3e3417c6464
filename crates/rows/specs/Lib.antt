pub mod Nearest
pub mod Rows
pub mod Offering
pub mod Index
pub mod Guided
