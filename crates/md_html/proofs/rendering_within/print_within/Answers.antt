-- The text of all events with the section of footnotes, or that it is longer than the limit.
use Rattle.std.proofs.Common.{rules, ◌≡◌, length, arith}
use Rattle.std.specs.Prelude.{string_bytes}
use Rattle.md_html.specs.Printed.{IsPrinted}
use Rattle.md_html.proofs.Long.{printed, longer-text}
use Rattle.md_html.proofs.rendering_within.print_within.Goals as goal

pub returns-then-len-limit : goal.returns-then-len-limit
returns-then-len-limit c = record {
  text = printed _ c.run_events_within-ran.new.printer (string_bytes c.in_ok-text.text)
      (c.in_ok-is_whole.ensures.whole c.if-is_whole.true) c.in_ok-text.ensures;
  within = search rules;
  too_long = λ none. cc;
}

pub returns-else-is_whole : goal.returns-else-is_whole
returns-else-is_whole c = record {
  text = tt;
  within = tt;
  too_long = λ none. elim c.else-is_whole.branch [
    | goal.else-is_whole-via-then-is_whole+else-len-limit w ↦
        let text = string_bytes c.in_ok-text.text in
        let whole : IsPrinted c.args.context.now text =
        printed _ c.run_events_within-ran.new.printer text
        (c.in_ok-is_whole.ensures.whole w.if-is_whole.true) c.in_ok-text.ensures in
        let size : w.len.result ≡ length text = search rules in
        record {
          is = grind arith;
        }
    | goal.else-is_whole-via-else-is_whole w ↦
        longer-text _ c.args.limit (c.in_ok-is_whole.ensures.too_long w.if-is_whole.false)
  ];
}
