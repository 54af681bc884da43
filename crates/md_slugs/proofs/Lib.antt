-- Lemmas of ids that are chosen: a free number is found, and what is chosen is distinct.
pub mod Numbers
pub mod Choosing
