-- The numbers in which the work is counted. No contract of a call for users cites
-- this.
use Rattle.std.specs.Prelude.{ℕ, ◌-◌, ◌^◌, min, suc, Bool, true, false, ◌||◌, if◌then◌else◌}
use Rattle.md_base.specs.declared.event.Kind.{Kind}
use Rattle.md_base.specs.declared.event.Kind.TheVariants.{Enter, Exit}
use Rattle.md_base.specs.declared.event.Name.{Name}
use Rattle.md_base.specs.declared.event.Name.TheVariants.{GfmTable, GfmTableRow, GfmFootnoteCall}
use Rattle.md_base.specs.declared.event.Name.TheVariants.{GfmTableDelimiterCellValue}
use Rattle.md_pattern.specs.declared.kinds.Standing.{Standing}
use Rattle.md_tree.specs.Texts.{has_reading, is_text, is_identifier}

-- a number, or the maximum of a `u128`
abbrev pub capped : ℕ → ℕ
capped n = min n (2 ^ 128 - 1)

-- how many counted nodes are open after an event of a node that counts or doesn't
abbrev pub moved : ℕ → Kind → Bool → ℕ
moved depth kind counts =
    if counts then (elim kind [ Enter ↦ suc depth | Exit ↦ depth - 1 ]) else depth

-- a node of this class is read
abbrev pub is_read_standing : Standing → Bool
is_read_standing standing = has_reading is_text standing || has_reading is_identifier standing

-- a name is that of a table, of a counted part of one, or of a footnote call
abbrev pub is_part : Name → Bool
is_part name = elim name [
  | GfmTable ↦ true
  | GfmTableRow ↦ true
  | GfmTableDelimiterCellValue ↦ true
  | GfmFootnoteCall ↦ true
  | _ ↦ false
]
