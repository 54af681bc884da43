-- Which options are safe, and what two documents on one page share, which a reader must believe;
-- when a link contains a link; and the content of nodes in a document, which only proofs use.
pub mod Options
pub mod Apart
pub mod Links
pub mod Placed
-- The tokens that the HTML Standard's tokenizer emits for a text, those of a forest of the HTML
-- grammar and of a page, and the scheme that the URL Standard finds in a URL.
pub mod Input
pub mod Token
pub mod Tag
pub mod TokenizerStates
pub mod Tokenizer
pub mod Tokens
pub mod Scheme
pub mod SafeTokens
pub mod Tokenized
pub mod PageTokens
pub mod Running
-- The results of some steps of the tokenizer on a text, whatever follows it.
pub mod Tokenizes
pub mod Embedded
-- The content model of the HTML that is written.
pub mod Contents
-- The HTML Standard's tree construction, as far as the HTML grammar requires it.
pub mod Node
pub mod Elements
pub mod Stack
pub mod Formatting
pub mod InBody
pub mod InTable
pub mod AroundBody
pub mod Construction
pub mod Built
pub mod Page
pub mod Fragment
