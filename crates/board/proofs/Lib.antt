pub mod Counting
pub mod Columns
pub mod Boards
pub mod Gathering
pub mod Entries
pub mod Promised
