pub mod Labels
pub mod Lists
pub mod Takings
pub mod Askings
