-- The event grammar and the promises of the check: begin with `Grammar`, `Rules` and `Refusal`.
-- `Machine`, `Walk` and `Reader` define it event by event, as the code reads it.
pub mod Checked
pub mod Grammar
pub mod Machine
pub mod Mentions
pub mod Names
pub mod Numbers
pub mod Reader
pub mod Reads
pub mod Refusal
pub mod Resolve
pub mod Rules
pub mod TextRuns
pub mod Texts
pub mod Walk
pub mod Found
pub mod Entered
pub mod Laws
pub mod Tables
pub mod Indices
