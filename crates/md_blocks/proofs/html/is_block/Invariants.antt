-- None of the names so far is the tag's.
use Rattle.std.proofs.Common.{◌≡◌, drop}
use Rattle.std.specs.List.{list_any}
use Rattle.std.specs.Str.{str_eq_ignore_ascii_case}
use Rattle.md_blocks.specs.HtmlBlocks.{is_block_name}
use Rattle.md_blocks.proofs.html.is_block.Given as goal

abbrev pub invariant-loop-tag : goal.invariant-loop-tag
invariant-loop-tag l =
    is_block_name l.name
    ≡ list_any (λ tag. str_eq_ignore_ascii_case l.name tag.now) (drop l.tag-index l.tag-items)
