-- The texts in sequence. The search alone unfolds the call's id, and then doesn't find the rest.
use Rattle.std.proofs.Common.{◌≡◌, ◌++◌, OnOk, ap, ◌∙◌, subst, codes, string_bytes}
use Rattle.md_meaning.specs.Meaning.Footnotes as meaning
use Rattle.md_footnotes.proofs.tags.push_ids.Goals as goal

pub returns : goal.returns
returns c =
    let options = c.args.options.now in
    let identifier = c.args.called.now.identifier.now in
    let number = c.args.called.now.number in
    subst (λ t. OnOk c.push_call_id.result (string_bytes c.push_call_id.new.out
    ≡ t ++ meaning.call_id options identifier number c.args.occurrence))
    (c.in_ok-push_str-2.ensures.bytes ∙ ap (λ t. t ++ codes "\" id=\"") (c.in_ok-push_id.ensures
    ∙ ap (λ t. t ++ meaning.id_of options (codes "fn-") identifier number)
    c.in_ok-push_str.ensures.bytes))
    c.push_call_id.ensures
