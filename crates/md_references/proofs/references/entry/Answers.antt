-- What is read behind the beginning of an entry is an entry.
use Rattle.std.proofs.Common.{◌≡◌, ◌++◌, refl, ap, ◌∙◌, subst}
use Rattle.md_references.specs.Names.{html_references, has, name_and_text}
use Rattle.md_references.specs.Places.{IsBeforeEntry}
use Rattle.md_references.specs.declared.names.TheConstants.{TEXT}
use Rattle.md_references.proofs.Entries.{joined, listed, parts_listed}
use Rattle.md_references.proofs.references.entry.Goals as goal

pub returns-then-is_before_entry : goal.returns-then-is_before_entry
unfolding html_references
returns-then-is_before_entry c =
    let before = c.in_ok-before.before.now in
    let rest = c.in_ok-before.rest.now in
    let whole : TEXT.now ≡ before ++ rest =
    joined TEXT.now c.table.result.now before rest c.from-start.result c.table.ensures
    c.in_ok-before.ensures.front c.in_ok-before.ensures.back in
    parts_listed html_references c.first_entry.result.now c.name_and_text.result
    (ap (λ entry. has html_references (name_and_text entry)) c.first_entry.ensures
    ∙ listed TEXT.now before rest whole
    (subst IsBeforeEntry c.as_bytes.ensures.value (c.if-is_before_entry.ensures refl)))
    c.name_and_text.ensures
