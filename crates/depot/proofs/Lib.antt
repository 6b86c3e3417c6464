pub mod Cutting
pub mod Gathering
pub mod Lining
pub mod Lists
pub mod Naming
pub mod Numerals
