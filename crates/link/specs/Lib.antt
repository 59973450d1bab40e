pub mod Channel
pub mod Faults
pub mod Lends
pub mod Makes
pub mod Soundness
