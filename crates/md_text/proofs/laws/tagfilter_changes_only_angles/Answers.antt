-- Byte by byte.
use Rattle.md_text.proofs.FilterLaws.{tag_filtered-changes, tag_filtered-twice}
use Rattle.md_text.proofs.laws.tagfilter_changes_only_angles.Goals as goal

pub returns-clause-only_angles : goal.returns-clause-only_angles
returns-clause-only_angles c = tag_filtered-changes

pub returns-clause-twice_is_once : goal.returns-clause-twice_is_once
returns-clause-twice_is_once c = tag_filtered-twice
