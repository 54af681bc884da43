-- By computation.
use Rattle.std.proofs.Common.{refl}
use lib.Utf8.{encode}
use Rattle.md_base.proofs.laws.references_are_as_written.Goals as goal

pub returns-clause-greatest : goal.returns-clause-greatest
unfolding encode
returns-clause-greatest c = refl

pub returns-clause-greatest_hexadecimal : goal.returns-clause-greatest_hexadecimal
unfolding encode
returns-clause-greatest_hexadecimal c = refl
