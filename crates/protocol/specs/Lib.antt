pub mod Words
pub mod World
pub mod Changes
pub mod Activation
pub mod Rules
pub mod Step
