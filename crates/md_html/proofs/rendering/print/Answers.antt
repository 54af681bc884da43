-- The run over all events, and the section of footnotes after it.
use Rattle.std.proofs.Common.{string_bytes, length, ap, ◌∙◌}
use Rattle.md_html.proofs.Long.{printed, whole-run}
use Rattle.md_html.proofs.rendering.print.Goals as goal

pub returns : goal.returns
returns c =
    printed _ c.run_events-ran.new.printer (string_bytes c.in_ok-text.text)
    (whole-run _ _ (length c.events.result.now) c.run_events-ran.new.printer
    (ap (λ es. length es) c.events.ensures.events)
    (rw (c.reserve.ensures ∙ c.new-printer.ensures) at c.in_ok-ran.ensures.goes)
    c.in_ok-ran.ensures.far) c.in_ok-text.ensures
