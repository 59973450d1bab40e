pub mod Columns
pub mod Writing
pub mod Reading
pub mod Places
mod Exits
