-- A safe text is written in sound pieces.
use Rattle.std.proofs.Common.{string_bytes}
use Rattle.md_reader.proofs.SafeLemmas.{links-safe, images-safe}
use Rattle.md_page.proofs.FromForest.{written-safe}
use Rattle.md_markdown_abi.proofs.kept.kept_within.Goals as goal

pub new-requires : goal.new-requires
new-requires c =
    let text = string_bytes c.in_ok-html.html in
    let safe = c.in_ok-html.ensures.safe in
    written-safe text (links-safe text safe) (images-safe text safe)
