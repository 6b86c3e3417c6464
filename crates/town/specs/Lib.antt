pub mod FourJunctions
pub mod Frozen
pub mod Worked
pub mod Askings
pub mod Indexed
pub mod Guided
pub mod Examples
