-- What is promised of a text; the definition of a safe text, and which options are refused; how
-- much work events are and how much a document uses again, and why there is no text within limits;
-- and definitions that only contracts of private functions cite.
pub mod Promises
pub mod Safe
pub mod SafeHtml
pub mod Unnested
pub mod Work
pub mod Reuse
pub mod Lengths
pub mod Within
pub mod SafeWithin
-- The events between two indices, the steps at them, the text of all, and what is counted of a
-- document's reuse: only contracts of private functions cite these.
pub mod Windows
pub mod Fits
pub mod Stepping
pub mod Printed
-- Only the call for `md_markdown` cites this.
pub mod MeasuredEvents
