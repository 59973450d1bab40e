pub mod Rows
pub mod Frames
pub mod Messages
pub mod Laws
