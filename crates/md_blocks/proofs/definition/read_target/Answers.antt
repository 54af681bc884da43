-- What follows the colon and the spaces.
use Rattle.std.proofs.Common.{◌≡◌, ◌∙◌, ap, sym, subst, drop, take, List, ℕ, Bor}
use Rattle.std.specs.Prelude.{IfSome, None, Some, option_map, if◌then◌else◌}
use Rattle.md_lines.specs.Reading.{text_from}
use Rattle.md_lines.specs.Texts.{after_next, after_spaces}
use Rattle.md_blocks.specs.declared.definition.Target.{Target as Read}
use Rattle.md_blocks.specs.LinkDefinitions.{Target, target_in}
use Rattle.md_blocks.proofs.definition.read_target.Goals as goal

pub returns-clause-destination : goal.returns-clause-destination
returns-clause-destination c =
    let old = c.args.cursor.now in
    let behind = text_from c.skip_spaces.new.self in
    let taken = c.if-not-take.false in
    let begun = ap (λ b. if b then target_in (after_spaces (after_next (text_from old))) else None)
    (sym c.take.ensures.is_there ∙ taken)
    ∙ ap target_in (ap after_spaces (sym (c.take.ensures.text taken))
    ∙ sym c.skip_spaces.ensures.text) in
    let read = c.read_destination_and_title.result in
    let same = c.skip_spaces.ensures.same.0 ∙ c.take.ensures.same_text.0 in
    subst (λ t. IfSome read (λ (one : Read). option_map (λ (target : Target). target.destination) t
    ≡ Some (drop one.destination.start (take one.destination.end old.bytes.now)))) (sym begun)
    (subst (λ (bytes : Bor (List ℕ)). IfSome read (λ (one : Read).
    option_map (λ (target : Target). target.destination) (target_in behind)
    ≡ Some (drop one.destination.start (take one.destination.end bytes.now)))) same
    c.read_destination_and_title.ensures.destination)
