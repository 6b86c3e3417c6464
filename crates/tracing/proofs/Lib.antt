pub mod Driven
pub mod Folded
pub mod Backwards
pub mod Refusing
pub mod Outcomes
