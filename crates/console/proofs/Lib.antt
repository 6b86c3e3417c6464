pub mod Driving
pub mod Naming
