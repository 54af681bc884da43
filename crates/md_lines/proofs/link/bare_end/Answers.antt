-- Each step is one of the definition's.
use Rattle.std.proofs.Common.{◌≡◌, ◌∙◌, ◌∷◌, ◌+◌, ap, sym, drop, take, suc, get_or, arith, false, length}
use Rattle.std.proofs.lemmas.List.{length-take-le}
use Rattle.md_lines.specs.LinkParts.{bare_end}
use Rattle.md_lines.proofs.Reading.{here, none}
use Rattle.md_lines.proofs.Parts.{reach, stops, deep, goes, escapes_at}
use Rattle.md_lines.proofs.link.bare_end.Goals as goal

pub returns-then-at-end-clause-value : goal.returns-then-at-end-clause-value
returns-then-at-end-clause-value c =
    let bytes = c.args.bytes.now in
    let end = c.args.end in
    let inv = c.loop-at.invariant in
    let found = c.find-at.ensures in
    c.if_paired.ensures
    ∙ sym (inv.rest ∙ reach bytes c.loop-at.at end end c.loop-at.opened inv.shallow (omega arith)
    (omega arith) (omega (arith, found.none_skipped))
    ∙ ap (bare_end end c.loop-at.opened false) (none bytes end end (omega arith)))

pub loop-at-preserved-then-byte-eq92 : goal.loop-at-preserved-then-byte-eq92
loop-at-preserved-then-byte-eq92 c =
    let bytes = c.args.bytes.now in
    let end = c.args.end in
    let inv = c.loop-at.invariant in
    let found = c.find-at.ensures in
    let at = c.find-at.result in
    let line = take end bytes in
    let long : length line ≡ end = length-take-le end bytes c.requires in
    let byte = here bytes at end c.if-at-end.false c.requires
    ∙ ap (λ b. b ∷ drop (suc at) line) c.if-byte-eq92.true in record {
      shallow = inv.shallow;
      after = omega arith;
      within = λ _. omega (arith, long, c.after_byte-at.ensures.within);
      rest = inv.rest ∙ reach bytes c.loop-at.at at end c.loop-at.opened inv.shallow
          found.after (omega arith) found.none_skipped
          ∙ escapes_at line at c.after_byte-at.result c.loop-at.opened (drop (suc at) line)
          inv.shallow byte c.after_byte-at.ensures.width;
    }

pub returns-then-ends_destination-clause-value : goal.returns-then-ends_destination-clause-value
returns-then-ends_destination-clause-value c =
    let bytes = c.args.bytes.now in
    let end = c.args.end in
    let inv = c.loop-at.invariant in
    let found = c.find-at.ensures in
    let at = c.find-at.result in
    let rest = drop (suc at) (take end bytes) in
    c.if_paired-then-ends_destination.ensures
    ∙ sym (inv.rest ∙ reach bytes c.loop-at.at at end c.loop-at.opened inv.shallow found.after
    (omega arith) found.none_skipped
    ∙ ap (bare_end at c.loop-at.opened false) (here bytes at end c.if-at-end.false c.requires)
    ∙ stops at c.loop-at.opened (get_or bytes at 0) rest
    (sym c.ends_destination.ensures ∙ c.if-ends_destination.true))

pub returns-then-opened-gt-MOST_NESTED-clause-value :
    goal.returns-then-opened-gt-MOST_NESTED-clause-value
returns-then-opened-gt-MOST_NESTED-clause-value c =
    let bytes = c.args.bytes.now in
    let end = c.args.end in
    let inv = c.loop-at.invariant in
    let found = c.find-at.ensures in
    let at = c.find-at.result in
    let rest = drop (suc at) (take end bytes) in
    sym (inv.rest ∙ reach bytes c.loop-at.at at end c.loop-at.opened inv.shallow found.after
    (omega arith) found.none_skipped
    ∙ ap (bare_end at c.loop-at.opened false) (here bytes at end c.if-at-end.false c.requires)
    ∙ deep at c.loop-at.opened (get_or bytes at 0) rest
    (sym c.ends_destination.ensures ∙ c.if-ends_destination.false)
    (omega (arith, c.opened_after-opened.ensures)))

pub loop-at-preserved : goal.loop-at-preserved
loop-at-preserved c =
    let bytes = c.args.bytes.now in
    let end = c.args.end in
    let inv = c.loop-at.invariant in
    let found = c.find-at.ensures in
    let at = c.find-at.result in
    let rest = drop (suc at) (take end bytes) in
    let one : suc at ≡ at + 1 = omega arith in record {
      shallow = omega arith;
      after = omega arith;
      within = λ _. omega arith;
      rest = inv.rest ∙ reach bytes c.loop-at.at at end c.loop-at.opened inv.shallow found.after
          (omega arith) found.none_skipped
          ∙ ap (bare_end at c.loop-at.opened false) (here bytes at end c.if-at-end.false c.requires)
          ∙ goes at c.loop-at.opened (get_or bytes at 0) rest
          (sym c.ends_destination.ensures ∙ c.if-ends_destination.false)
          (omega (arith, c.opened_after-opened.ensures)) c.if-byte-eq92.false
          ∙ ap (λ o. bare_end (at + 1) o false rest) (sym c.opened_after-opened.ensures)
          ∙ ap (λ k. bare_end (at + 1) c.opened_after-opened.result false (drop k (take end bytes)))
          one;
    }
