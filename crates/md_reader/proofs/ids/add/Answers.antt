-- One more id.
use Rattle.std.proofs.Common.{true, cond, string_bytes, ap, ◌∙◌}
use Rattle.std.specs.Str.{bytes_eq}
use Rattle.std.specs.BTreeSet.{contains_text}
use Rattle.std.proofs.lemmas.Map.Text.{btree_set_updates_text}
use Rattle.md_reader.proofs.ids.add.Goals as goal

pub returns-clause-added : goal.returns-clause-added
returns-clause-added c = λ new w.
    btree_set_updates_text (string_bytes c.in_ok-from_str.field-0) c.args.seen.now
    c.insert.new.self true c.in_ok-insert.ensures.updates w
    ∙ ap (λ id. cond (bytes_eq id w) true (contains_text c.args.seen.now w))
    c.in_ok-from_str.ensures.ok
