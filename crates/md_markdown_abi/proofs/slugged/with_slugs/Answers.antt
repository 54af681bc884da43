-- Without a `rel` the tokens are those of the text.
use Rattle.std.proofs.Common.{List, IfOk, option_copied, string_bytes, sym, ap, subst}
use Rattle.md_safe.specs.Token.{Token}
use Rattle.md_safe.specs.Tokenizer.{IsTokenized}
use Rattle.md_abi.specs.Attributes.{with_rel}
use Rattle.md_markdown_abi.specs.Slugged.{IsSluggedAfter}
use Rattle.md_markdown_abi.proofs.slugged.with_slugs.Goals as goal

pub returns-in-None-clause-slugged : goal.returns-in-None-clause-slugged
returns-in-None-clause-slugged g c =
    subst (λ rel. IfOk c.slugged-in-None.result
    (λ made. (x : List Token) → IsTokenized (g.H.Html.text c.args.html.now) x
    → IsSluggedAfter (with_rel rel x) made.start (string_bytes made.whole)))
    (sym (ap option_copied c.in-None.is)) c.slugged-in-None.ensures.slugged
