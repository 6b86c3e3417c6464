pub mod Traces
pub mod Admitted
