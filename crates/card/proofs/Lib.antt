pub mod Generations
pub mod Activities
pub mod Creation
pub mod Exits
