-- By computation.
use Rattle.std.proofs.Common.{refl}
use Rattle.std.specs.Str.{is_utf8, chars}
use lib.Utf8.{encode}
use Rattle.caseless.proofs.Computing.{caseless}
use Rattle.md_base.proofs.laws.white_space_is_as_written.Goals as goal

pub returns-clause-folded : goal.returns-clause-folded
unfolding is_utf8 chars encode caseless
returns-clause-folded c = refl

pub returns-clause-lowered : goal.returns-clause-lowered
unfolding is_utf8 chars encode caseless
returns-clause-lowered c = refl
