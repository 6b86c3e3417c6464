pub mod First
pub mod Refusing
pub mod Tails
pub mod Following
pub mod Layering
