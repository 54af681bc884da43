-- Up to the end of the first tag that is picked.
use Rattle.std.proofs.Common.{◌≡◌, ◌+◌, true, subst}
use Rattle.std.specs.List.{list_all}
use Rattle.std.proofs.lemmas.List.{take_rest}
use Rattle.md_page.specs.Scan.{differs, picks_of}
use Rattle.md_page.proofs.Finding.{from_place, picked, unended, done}
use Rattle.md_page.proofs.scan.next_end.Goals as goal

pub returns-in_err-tag-clause-scan : goal.returns-in_err-tag-clause-scan
returns-in_err-tag-clause-scan c = λ add n.
    rw c.from_residual.ensures
    (done (picks_of c.args.rule) add n c.args.text.now c.in_err-tag.ensures)

pub returns-in_err-end-clause-scan : goal.returns-in_err-end-clause-scan
returns-in_err-end-clause-scan c = λ add n.
    (let text = c.args.text.now in
    let tag = c.in_ok-tag.tag in
    rw c.from_residual-in_err-end.ensures
    (unended (picks_of c.args.rule) add n text tag c.in_ok-tag.ensures
    (subst (λ x. list_all (differs 62) x ≡ true) (take_rest text (tag + 1)) c.in_err-end.ensures)))

pub returns-clause-scan : goal.returns-clause-scan
returns-clause-scan c = λ add n.
    (let text = c.args.text.now in
    let tag = c.in_ok-tag.tag in
    picked (picks_of c.args.rule) add n text tag c.in_ok-end.end c.in_ok-tag.ensures
    (from_place 62 text (tag + 1) c.in_ok-end.end c.in_ok-end.ensures))
