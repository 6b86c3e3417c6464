pub mod Lists
pub mod Offers
pub mod Indexed
pub mod Held
pub mod GuidedLaws
pub mod Faults
pub mod Loads
