-- The text is what the checked document means, so what holds of each meaning holds of it.
use Rattle.std.proofs.Common.{string_bytes, length, ap, arith}
use Rattle.md_html.proofs.Promises.{promises}
use Rattle.md_html.proofs.compiler.count_checked.Goals as goal

pub returns-clause-promises : goal.returns-clause-promises
returns-clause-promises c =
    promises c.args.options.now c.args.checked.now (string_bytes c.in_ok-text.text)
    c.events-events.ensures.grammatical
    (omega (arith, ap (λ es. length es) c.events-events.ensures.events))
    c.in_ok-text.ensures.meaning
