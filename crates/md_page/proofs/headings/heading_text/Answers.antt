-- An iteration writes a text, and skips a tag.
use Rattle.std.proofs.Common.{◌++◌, string_bytes, sym, ap, ◌∙◌}
use Rattle.md_page.specs.Scan.{closes_heading}
use Rattle.md_page.proofs.HeadingTurns.{text-ends, text-turn, text-all}
use Rattle.md_page.proofs.headings.heading_text.Goals as goal

pub returns-then-closes_heading : goal.returns-then-closes_heading
returns-then-closes_heading c =
    let parts = c.in-Some.ensures.parts in
    text-ends c.args.digit (string_bytes c.loop-words.out) c.in-Some.words.now c.in-Some.tag.now
    parts.0 parts.1 c.in_ok-push_lined.ensures
    (ap (closes_heading c.args.digit) (sym c.as_bytes.ensures.value) ∙ sym c.closes_heading.ensures
    ∙ c.if-closes_heading.true) c.loop-words.invariant.0

pub loop-words-preserved : goal.loop-words-preserved
loop-words-preserved c =
    let parts = c.in-Some.ensures.parts in (
      text-turn c.args.digit (string_bytes c.loop-words.out) c.in-Some.words.now c.in-Some.tag.now
          parts.0 parts.1 c.in_ok-push_lined.ensures
          (ap (closes_heading c.args.digit) (sym c.as_bytes.ensures.value)
          ∙ sym c.closes_heading.ensures ∙ c.if-closes_heading.false)
          c.past_angle-rest.ensures.value c.loop-words.invariant.0,
      c.past_angle-rest.utf8,
    )

pub returns : goal.returns
returns c =
    c.in_ok-push_lined-2.ensures
    ∙ ap (λ text. string_bytes c.loop-words.out ++ text)
    (sym (text-all c.args.digit c.loop-words.rest.now c.in_default.ensures.parts))
    ∙ c.loop-words.invariant.0
