pub mod Disk
pub mod Makes
pub mod Faults
