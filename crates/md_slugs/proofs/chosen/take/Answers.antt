-- What is looked up in the set, with one more.
use Rattle.std.proofs.Common.{true, cond, string_bytes, ap, ◌∙◌}
use Rattle.std.specs.Str.{bytes_eq}
use Rattle.std.specs.BTreeSet.{contains_text}
use Rattle.std.proofs.lemmas.Map.Text.{btree_set_updates_text}
use Rattle.md_slugs.proofs.chosen.take.Goals as goal

pub returns : goal.returns
returns c = λ w.
    btree_set_updates_text (string_bytes c.in_ok-written.written) c.args.taken.now
    c.insert.new.self true c.in_ok-insert.ensures.updates w
    ∙ ap (λ written. cond (bytes_eq written w) true (contains_text c.args.taken.now w))
    c.in_ok-written.ensures
