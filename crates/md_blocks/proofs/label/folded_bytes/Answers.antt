-- A text has a form just if it is UTF-8.
use Rattle.std.proofs.Common.{◌∙◌, ap, sym}
use Rattle.std.specs.Prelude.{None, Some, if◌then◌else◌}
use Rattle.std.proofs.lemmas.Str.{is_utf8-from_IsUtf8}
use Rattle.md_base.specs.Identifier.{normalized}
use Rattle.md_blocks.proofs.LinkLemmas.{not_utf8}
use Rattle.md_blocks.proofs.label.folded_bytes.Goals as goal

pub returns-in_ok-normalize_identifier-in-Ok-clause-form :
    goal.returns-in_ok-normalize_identifier-in-Ok-clause-form
returns-in_ok-normalize_identifier-in-Ok-clause-form c =
    let label = c.args.label.now in
    let same = c.in-Ok.ensures.cases.0 in
    ap (λ t. Some t) (c.in_ok-normalize_identifier-in-Ok.ensures ∙ ap normalized same)
    ∙ sym (ap (λ b. if b then Some (normalized label) else None)
    (is_utf8-from_IsUtf8 label c.in-Ok.ensures.cases.1))

pub returns-in-Err-clause-form : goal.returns-in-Err-clause-form
returns-in-Err-clause-form c =
    let label = c.args.label.now in
    sym (ap (λ b. if b then Some (normalized label) else None)
    (not_utf8 label c.in-Err.ensures.cases.0))
