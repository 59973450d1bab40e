pub mod Cases
pub mod Areas
pub mod Overlays
pub mod Copies
pub mod Writes
