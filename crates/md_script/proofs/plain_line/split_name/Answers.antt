-- Before the first space or line feed of a line's rest there stands no other.
-- By itself the search does no induction over the bytes.
use Rattle.md_script.specs.PlainLine.{is_break}
use Rattle.md_script.proofs.PlainLemmas.{none_until}
use Rattle.md_script.proofs.plain_line.split_name.Goals as goal

pub returns-then-bytes-end-eq32-clause-unbroken : goal.returns-then-bytes-end-eq32-clause-unbroken
returns-then-bytes-end-eq32-clause-unbroken c =
    none_until is_break c.args.bytes.now c.in_ok-end.end c.in_ok-end.ensures
