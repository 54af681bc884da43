-- Each part is that of the text that the cuts before it left.
use Rattle.md_urls.proofs.Cuts.{split-by-cuts}
use Rattle.md_urls.proofs.parts.Parts.new.Goals as goal

pub returns : goal.returns
returns c =
    split-by-cuts c.args.url.now _ _ _ _ _ _ _ _ c.cut.ensures.front c.cut.ensures.back
    c.cut-2.ensures.front c.cut-2.ensures.back c.cut_scheme.ensures.scheme
    c.cut_scheme.ensures.rest c.cut_authority.ensures.authority c.cut_authority.ensures.path
