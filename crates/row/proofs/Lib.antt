pub mod Writing
pub mod Reading
pub mod Spaces
pub mod Laws
