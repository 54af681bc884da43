-- Texts with heads inserted, and what stays of them when others are written, captured and ended.
pub mod HeadsFit
pub mod Merged
pub mod LastBytes
pub mod Renewed
pub mod Sound
pub mod Ended
pub mod HeadsBefore
pub mod CodeText
