-- The definition of a page, which a reader must believe.
pub mod Page
-- Attributes added to the tags of a safe text, as tokens of the HTML Standard; and how the program
-- finds the tags.
pub mod Added
pub mod Attributed
pub mod AttributedHtml
pub mod Pieces
pub mod Scan
pub mod Headings
pub mod Ids
pub mod GivenIds
pub mod PageAround
pub mod Built
