-- The lemmas on URLs, escaping, the tag filter and the HTML that is written. The laws of
-- `src/laws.rt` follow, and `md_safe` reads printed texts back by those on HTML.
pub mod HighBytes
pub mod RunLemmas
pub mod EncodeLemmas
pub mod KeptLemmas
pub mod UrlLemmas
pub mod FilterLemmas
pub mod EncodeLaws
pub mod FilterLaws
pub mod UrlLaws
pub mod UrlTwice
pub mod UrlTriples
pub mod PlainLemmas
pub mod ProtocolLemmas
pub mod EscapedLemmas
pub mod HtmlWriting
pub mod HtmlNames
pub mod HtmlSplit
pub mod HtmlReading
pub mod HtmlJoin
pub mod HtmlIds
pub mod HtmlAngles
pub mod HtmlPut
pub mod HtmlReader
pub mod HtmlRead
