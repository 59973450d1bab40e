pub mod Nodes
pub mod Sides
pub mod Rules
pub mod Meeting
pub mod Laws
