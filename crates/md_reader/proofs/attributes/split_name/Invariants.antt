-- The bytes before the end are those of a name.
use Rattle.std.proofs.Common.{◌≡◌, ◌≤◌, ◌-◌, length, take, true}
use Rattle.std.specs.List.{list_all}
use Rattle.md_text.specs.HtmlName.{is_name_byte}
use Rattle.md_reader.proofs.attributes.split_name.Given as goal

abbrev pub invariant-bytes : goal.invariant-bytes
invariant-bytes l = (l.end ≤ length l.text) × (list_all is_name_byte (take l.end l.text) ≡ true)

abbrev pub decreases-bytes : goal.decreases-bytes
decreases-bytes l = length l.text - l.end
