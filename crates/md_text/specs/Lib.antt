-- Transformations of text that goes into HTML, one module for each call, the grammar of that HTML,
-- and the definitions that the laws use.
pub mod Bytes
pub mod LineEnding
pub mod Defaults
pub mod Encode
pub mod Kept
pub mod Url
pub mod Filter
pub mod References
pub mod Html
pub mod HtmlName
pub mod Safe
pub mod Ids
pub mod Laws
