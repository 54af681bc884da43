-- The meaning of scripts, which a reader must believe.
pub mod Error
pub mod Run
pub mod SafeRun
pub mod Script
pub mod Serve
pub mod Within
-- The meaning of a script's lines, which a reader must believe; only contracts that no promise
-- cites use `PlainLine` and `CommonName`.
pub mod Line
pub mod Number
pub mod PlainLine
pub mod Setting
pub mod CommonName
