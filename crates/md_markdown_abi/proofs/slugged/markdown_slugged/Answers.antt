-- The promises about a text, for C's answer and the input that was read. The search alone doesn't
-- combine the clauses.
use Rattle.std.proofs.Common.{◌∙◌, inl, option_copied, string_bytes, sym}
use Rattle.md_markdown_abi.proofs.GivenLemmas.{plain_of, kept_for, reported, option_fault}
use Rattle.md_markdown_abi.proofs.SluggedLemmas.{made_slugged}
use Rattle.md_markdown_abi.proofs.slugged.markdown_slugged.Goals as goal

pub returns-in_err-options-clause-err : goal.returns-in_err-options-clause-err
returns-in_err-options-clause-err c =
    let made = c.from_residual-in_err-options in
    reported c.args.bytes.now c.args.given.now made.result _ made.ensures.1
    (option_fault c.args.bytes.now c.args.given.now c.in_ok-check_version.ensures.ok _
    c.in_err-options.ensures.err)

pub returns-then-keeps_html-clause-ok : goal.returns-then-keeps_html-clause-ok
returns-then-keeps_html-clause-ok c =
    let kept = c.in_ok-kept.ensures in
    made_slugged c.args.bytes.now c.args.given.now (option_copied c.in_ok-rel.rel)
    c.in_ok-kept.kept (string_bytes c.in_ok-made.made.whole) c.in_ok-made.made.start
    (plain_of c.args.bytes.now c.in_ok-text.text.now c.args.given.now c.in_ok-options.options
    c.in_ok-kept.kept c.in_ok-text.ensures.ok.0 c.in_ok-options.ensures.ok
    (kept_for c.in_ok-text.text.now c.args.given.now c.in_ok-options.options c.in_ok-kept.kept
    (sym c.keeps_html.ensures ∙ c.if-keeps_html.true) kept.made) kept.tokens kept.contained kept.tree kept.nesting
    kept.distinct_ids) c.in_ok-rel.ensures.ok c.in_ok-made.ensures.slugged
    c.in_ok-made.ensures.tree c.in_ok-made.ensures.fits

pub returns-clause-ok : goal.returns-clause-ok
returns-clause-ok c =
    let html = c.in_ok-html.ensures in
    made_slugged c.args.bytes.now c.args.given.now (option_copied c.in_ok-rel.rel)
    c.in_ok-html.html (string_bytes c.in_ok-made-2.made.whole) c.in_ok-made-2.made.start
    (plain_of c.args.bytes.now c.in_ok-text.text.now c.args.given.now c.in_ok-options.options
    c.in_ok-html.html c.in_ok-text.ensures.ok.0 c.in_ok-options.ensures.ok (inl html.made)
    html.tokens html.contained html.tree html.nesting html.distinct_ids) c.in_ok-rel.ensures.ok
    c.in_ok-made-2.ensures.slugged c.in_ok-made-2.ensures.tree c.in_ok-made-2.ensures.fits
