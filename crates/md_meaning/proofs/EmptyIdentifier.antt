-- Of no text the identifier is empty.
use Rattle.std.proofs.Common.{◌≡◌, [], refl}
use Rattle.std.specs.Str.{is_utf8, chars}
use lib.Utf8.{encode}
use Rattle.caseless.proofs.Computing.{caseless}
use Rattle.md_base.specs.Identifier.{normalized}

pub normalized-nothing : normalized [] ≡ []
unfolding is_utf8 chars encode caseless
normalized-nothing = refl
