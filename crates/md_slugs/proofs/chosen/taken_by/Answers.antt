-- One that was left is taken.
use Rattle.std.proofs.Common.{◌≡◌, ◌||◌, ◌+◌, Bool, true, false, cond, drop, map, refl, sym, ap}
use Rattle.std.proofs.Common.{◌∙◌, string_bytes, rules}
use Rattle.std.specs.Str.{bytes_eq}
use Rattle.std.specs.BTreeSet.{contains_text}
use Rattle.std.proofs.lemmas.Map.Text.{btree_set_updates_text}
use Rattle.std.proofs.lemmas.List.{at_drop_more}
use Rattle.md_page.specs.GivenIds.{is_among}
use Rattle.md_slugs.proofs.chosen.taken_by.Goals.{In_ok-insert}
use Rattle.md_slugs.proofs.chosen.taken_by.Goals as goal

moved : (b c d : Bool) → (cond b true c || d) ≡ (c || (b || d))
moved true true d = refl
moved true false d = refl
moved false c d = refl

pub loop-other-preserved : goal.loop-other-preserved
loop-other-preserved c = λ w.
    (let index = c.loop-other.other-index in
    let others = c.args.others.now in
    let rest = is_among w (map string_bytes (drop (index + 1) others)) in
    let had = contains_text c.loop-other.taken w in
    ap (λ b. b || rest) (btree_set_updates_text (string_bytes c.in_ok-clone.field-0)
    c.loop-other.taken c.insert.new.self true c.in_ok-insert.ensures.updates w)
    ∙ moved (bytes_eq (string_bytes c.in_ok-clone.field-0) w) had rest
    ∙ ap (λ b. had || b) (ap (λ k. bytes_eq k w || rest) (same c)
    ∙ ap (λ k. bytes_eq (string_bytes k) w || rest) c.other-item.is
    ∙ sym (at_drop_more (λ xs. is_among w (map string_bytes xs)) others index
    c.other-item.result c.loop-other-test.true))
    ∙ c.loop-other.invariant w)
  where
    same : (c : In_ok-insert) → string_bytes c.in_ok-clone.field-0
        ≡ string_bytes c.other-item.result
    same c = search rules
