pub mod Named
pub mod States
pub mod Throughout
