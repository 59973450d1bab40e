pub mod Sends
pub mod Hops
