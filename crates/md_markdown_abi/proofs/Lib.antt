-- The lemmas about Markdown for C: from the input to a text, and the promises of an answer.
pub mod AnswerLemmas
pub mod GivenLemmas
pub mod SluggedLemmas
