pub mod Digits
pub mod Packing
pub mod Rows
pub mod Counting
pub mod Seeking
pub mod Laws
