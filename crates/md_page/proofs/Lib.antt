-- The lemmas of pages: a page around a title and a safe text can be read in one way.
pub mod Pages
pub mod Given
-- Lemmas: pieces are tokenized as their tokens; one more attribute in a piece is one more in its
-- token; and the program finds each tag that gets one.
pub mod Plain
pub mod Tags
pub mod PieceRuns
pub mod FromForest
pub mod Adding
pub mod Scanning
pub mod Parts
pub mod Finding
pub mod Passing
pub mod Nearby
pub mod Rules
pub mod Forests
pub mod LinkRule
pub mod Numbers
pub mod HeadingRule
pub mod HeadingTexts
pub mod Listing
pub mod HeadingTurns
pub mod Distinct
pub mod GivenDistinct
pub mod TakenIds
pub mod Apart
pub mod Paging
pub mod PagesAround
