pub mod Written
pub mod Added
