pub mod Chosen
pub mod Made
pub mod Keeping
pub mod Plain
pub mod Parsed
pub mod Depth
