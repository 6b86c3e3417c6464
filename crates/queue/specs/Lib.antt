pub mod Keys
pub mod Room
pub mod Waiting
pub mod Heap
pub mod Queues
pub mod Entries
