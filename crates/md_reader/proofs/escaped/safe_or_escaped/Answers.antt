-- The text, or its characters.
use Rattle.std.proofs.Common.{true, sym, subst, ◌∙◌}
use Rattle.std.specs.String.{string_bytes}
use Rattle.md_base.proofs.Lies.{lie}
use Rattle.md_text.specs.Encode.{encoded}
use Rattle.md_text.specs.Url.{link_protocols, image_protocols}
use Rattle.md_text.proofs.EncodeLaws.{is_escaped-encoded}
use Rattle.md_reader.specs.Safe.{IsSafeHtml, IsSafeReading}
use Rattle.md_reader.proofs.SafeLemmas.{ok-with, escaped-safe}
use Rattle.md_reader.proofs.escaped.safe_or_escaped.Goals as goal

pub returns-then-is_safe_html-clause-safe : goal.returns-then-is_safe_html-clause-safe
returns-then-is_safe_html-clause-safe c = ok-with string_bytes
    (IsSafeHtml link_protocols image_protocols) c.from_str.result c.args.text.now
    c.from_str.ensures.ok (subst (IsSafeHtml link_protocols image_protocols)
    c.as_bytes.ensures.value (c.is_safe_html.ensures.safe c.if-is_safe_html.true))

pub returns-then-is_safe_html-clause-kept : goal.returns-then-is_safe_html-clause-kept
returns-then-is_safe_html-clause-kept c = λ forest safe. c.from_str.ensures.ok

pub returns-then-is_safe_html-clause-escaped : goal.returns-then-is_safe_html-clause-escaped
returns-then-is_safe_html-clause-escaped c = λ no. absurd (no
    (subst (IsSafeHtml link_protocols image_protocols) c.as_bytes.ensures.value
    (c.is_safe_html.ensures.safe c.if-is_safe_html.true)))

pub returns-else-is_safe_html-clause-safe : goal.returns-else-is_safe_html-clause-safe
returns-else-is_safe_html-clause-safe c = ok-with string_bytes
    (IsSafeHtml link_protocols image_protocols) c.encode.result (encoded true c.args.text.now)
    c.encode.ensures.by_byte (escaped-safe (encoded true c.args.text.now)
    (is_escaped-encoded c.args.text.now))

pub returns-else-is_safe_html-clause-kept : goal.returns-else-is_safe_html-clause-kept
returns-else-is_safe_html-clause-kept c = λ forest safe. lie (sym c.if-is_safe_html.false
    ∙ c.is_safe_html.ensures.exact forest
    (subst (λ x. IsSafeReading link_protocols image_protocols x forest)
    (sym c.as_bytes.ensures.value) safe))

pub returns-else-is_safe_html-clause-escaped : goal.returns-else-is_safe_html-clause-escaped
returns-else-is_safe_html-clause-escaped c = λ no. c.encode.ensures.by_byte
