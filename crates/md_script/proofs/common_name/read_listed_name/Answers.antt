-- A row's text is its name and spaces, and the bytes are the same as far as the first space.
-- By itself the search does no induction over the rows.
use Rattle.std.proofs.Common.{sym, ap, ◌∙◌, Some}
use Rattle.std.proofs.lemmas.Bool.{ltb-true}
use Rattle.std.proofs.lemmas.Option.{slice_get-get_or}
use Rattle.md_script.proofs.CommonLemmas.{row_read}
use Rattle.md_script.proofs.common_name.read_listed_name.Goals as goal

pub returns-then-size-same_bytes : goal.returns-then-size-same_bytes
returns-then-size-same_bytes c =
    let rows = c.listed_rows.result.now in
    let row = c.in_ok-text.field-0.now in
    let found = c.in_ok-text.ensures.lookup in
    row_read rows c.args.place row c.args.bytes.now c.args.size c.same_bytes.result
    c.listed_rows.ensures
    (slice_get-get_or rows c.args.place row (ltb-true _ _ (sym found.0)) ∙ ap Some (sym found.1))
    c.requires.room
    c.requires.few c.requires.space c.same_bytes.ensures c.if-size-same_bytes.true
