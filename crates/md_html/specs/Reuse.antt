-- How much a document uses again when it is printed.
pub use Rattle.md_length.specs.Reuse.{definition_length, definition_lengths, length_at}
pub use Rattle.md_length.specs.Reuse.{resolved_lengths}
pub use Rattle.md_length.specs.Reuse.{referred, is_media, is_call, entries, option_length}
pub use Rattle.md_length.specs.Reuse.{call_texts, reuse}
