pub mod Bridges
pub mod Nexts
pub mod Goings
pub mod Travels
pub mod Outcomes
pub mod Parts
pub mod Refusing
