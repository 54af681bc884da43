-- Without a `rel` the tokens are those of the text.
use Rattle.std.proofs.Common.{List, IfOk, option_copied, string_bytes, sym, ap, subst}
use Rattle.md_safe.specs.Token.{Token}
use Rattle.md_safe.specs.Tokenizer.{IsTokenized}
use Rattle.md_abi.specs.Attributes.{with_rel}
use Rattle.md_abi.specs.Attributed.{IsListedAfter}
use Rattle.md_abi.proofs.attributed.add_asked.Goals as goal

pub returns-in-None-clause-listed : goal.returns-in-None-clause-listed
returns-in-None-clause-listed g c =
    subst (λ rel. IfOk c.add_ids-in-None.result
    (λ made. (x : List Token) → IsTokenized (g.H.Html.text c.args.html.now) x
    → IsListedAfter (option_copied c.args.prefix) (with_rel rel x) made.start
    (string_bytes made.whole))) (sym (ap option_copied c.in-None.is))
    c.add_ids-in-None.ensures.listed
