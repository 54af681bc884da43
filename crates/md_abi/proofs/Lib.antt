-- The lemmas of the C interface: for the input, from C's arguments to a text; for the output, the
-- promises of an answer.
pub mod GivenLemmas
pub mod AnswerLemmas
pub mod OptionLemmas
pub mod StandingLemmas
pub mod AttributedLemmas
pub mod ListAnswerLemmas
pub mod WithinLemmas
pub mod WithinAnswers
pub mod UnnestedLemmas
pub mod LinksLemmas
