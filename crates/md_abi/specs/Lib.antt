-- The definitions of the C interface: the meaning of C's arguments, and of an answer's numbers and
-- buffer.
pub mod Numbers
pub mod Names
pub mod Standing
pub mod Events
pub mod References
pub mod Options
pub mod Rendered
pub mod Failures
pub mod Buffer
pub mod Answers
pub mod Attributes
pub mod Attributed
pub mod Refusals
pub mod Within
pub mod WithinFailures
pub mod Unnested
pub mod UnnestedFailures
pub mod Links
