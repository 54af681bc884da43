-- The mark that comes first, and what follows it.
use Rattle.std.proofs.Common.{◌≡◌, ◌+◌, ◌∷◌, ◌∙◌, ap, sym, subst, arith, drop, take, suc, get_or}
use Rattle.std.specs.Prelude.{IfNone, IfSome, None, Some, option_map}
use Rattle.md_lines.specs.LinkParts.{title_after}
use Rattle.md_lines.specs.Reading.{lines_after, text_from}
use Rattle.md_lines.specs.Texts.{Part}
use Rattle.md_lines.proofs.Reading.{here}
use Rattle.md_lines.proofs.Parts.{title_begins, title_has_no_mark}
use Rattle.md_lines.proofs.link.read_title.Goals as goal

pub returns-in_default-clause-none : goal.returns-in_default-clause-none
returns-in_default-clause-none c =
    let old = c.args.cursor.now in
    let bytes = old.bytes.now in
    title_has_no_mark _ _ (lines_after old) (get_or bytes old.at 0)
    (here bytes old.at old.end c.if-cursor.false old.within)
    (sym c.closing_mark.ensures ∙ c.in_default.is)

pub returns-clause-rest : goal.returns-clause-rest
returns-clause-rest c =
    let old = c.args.cursor.now in
    let bytes = old.bytes.now in
    let mark = get_or bytes old.at 0 in
    let one : suc old.at ≡ old.at + 1 = omega arith in
    let begun = title_begins _ _ (lines_after old) mark c.in-Some.close
    (here bytes old.at old.end c.if-cursor.false old.within)
    (sym c.closing_mark.ensures ∙ c.in-Some.is)
    ∙ ap (λ n. title_after mark c.in-Some.close (drop n (take old.end bytes) ∷ lines_after old))
    one in
    subst (λ t. IfSome c.read_title_after.result (λ _. option_map (λ (part : Part). part.rest) t
    ≡ Some (text_from c.read_title_after.new.cursor))) (sym begun) c.read_title_after.ensures.rest

pub returns-clause-none : goal.returns-clause-none
returns-clause-none c =
    let old = c.args.cursor.now in
    let bytes = old.bytes.now in
    let mark = get_or bytes old.at 0 in
    let one : suc old.at ≡ old.at + 1 = omega arith in
    let begun = title_begins _ _ (lines_after old) mark c.in-Some.close
    (here bytes old.at old.end c.if-cursor.false old.within)
    (sym c.closing_mark.ensures ∙ c.in-Some.is)
    ∙ ap (λ n. title_after mark c.in-Some.close (drop n (take old.end bytes) ∷ lines_after old))
    one in
    subst (λ t. IfNone c.read_title_after.result (t ≡ None)) (sym begun)
    c.read_title_after.ensures.none
