-- If there are no footnote calls, only references count.
use Rattle.std.proofs.Common.{◌≡◌, rules, ap, sym, ◌∙◌}
use Rattle.md_html.specs.Reuse.{entries, is_call}
use Rattle.md_measure.specs.Counting.{capped}
use Rattle.md_html.proofs.Reusing.{none-called}
use Rattle.md_html.proofs.reuse.count_reuse.Goals as goal

pub returns-then-calls-eq0 : goal.returns-then-calls-eq0
returns-then-calls-eq0 c = λ document flat.
    let none : entries is_call c.args.checked.now.events ≡ 0 = search rules in
    c.in_ok-referred.ensures document flat
    ∙ sym (ap capped (none-called c.args.options.now c.args.checked.now.bytes document
    c.args.checked.now.events flat none))
