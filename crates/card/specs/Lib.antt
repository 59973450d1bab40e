pub mod Rows
pub mod Faults
pub mod Generations
pub mod Activities
pub mod Creation
pub mod Reading
