-- The lemmas of scripts: a whole script, and what is answered of it.
pub mod RunLemmas
pub mod WithinLemmas
pub mod ScriptLemmas
-- The lemmas of a script's lines: bytes that are split, numbers, names, events and settings.
pub mod SixteenBytes
pub mod CommonLemmas
pub mod LineLemmas
pub mod NameLemmas
pub mod NumberLemmas
pub mod PlainLemmas
pub mod SettingLemmas
pub mod SplitLemmas
