pub mod Options
pub mod Text
