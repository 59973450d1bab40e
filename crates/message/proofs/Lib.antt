pub mod Rows
pub mod Decoding
pub mod Encoding
pub mod Laws
