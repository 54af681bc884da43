-- What is unfolded where a meaning is computed.
pub use Rattle.std.specs.Str.{is_utf8, chars}
pub use lib.Utf8.{encode}
pub use Rattle.caseless.proofs.Computing.{caseless}
pub use Rattle.std.specs.Fmt.{digits}
