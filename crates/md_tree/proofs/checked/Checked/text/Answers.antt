-- The place and the text of the node are there, so neither `unwrap` fails, and the text is the
-- defined one: without one a rule is broken. `Indexed` shows it, which the search doesn't find.
use Rattle.std.proofs.Common.{◌≡◌, ℕ, Option, ap, ◌∙◌}
use Rattle.md_tree.proofs.Common.{text_between, Inside, Handed, handed_of, IsKept, is_text}
use Rattle.md_tree.proofs.Common.{Position, position_ended}
use Rattle.md_tree.specs.Texts.{ExitsText}
use Rattle.md_tree.proofs.Indexed.{ReadAt, text_names}
use Rattle.md_tree.proofs.Kept.{ended-kept}
use Rattle.md_tree.proofs.checked.Checked.text.Goals as goal

-- what is read at the index
read : (inside : Inside) (given : Handed) (index : ℕ) → IsKept inside → handed_of inside ≡ given →
    ExitsText given.events index → (place : Option Position) →
    place ≡ position_ended inside.events.now inside.facts index →
    ReadAt (text_between given.bytes) given index place
read inside given index kept same exits =
    ended-kept inside given index kept same is_text (text_between given.bytes) exits.0
    (text_names given.bytes given.names) exits.1 exits.2

pub unwrap-position-requires : goal.unwrap-position-requires
unwrap-position-requires c =
    ReadAt.there (read c.self.inside c.args.self.now c.args.index c.self.invariant c.self.view_is
    c.requires _ c.position_ended.ensures)

pub unwrap-requires : goal.unwrap-requires
unwrap-requires c =
    let position = c.unwrap-position.result in
    ReadAt.text_there (read c.self.inside c.args.self.now c.args.index c.self.invariant
    c.self.view_is c.requires _ c.position_ended.ensures) position _ c.unwrap-position.ensures
    (c.text_at.ensures
    ∙ ap (λ (g : Handed). text_between g.bytes position.start position.end) c.self.view_is)

pub returns : goal.returns
returns c =
    let position = c.unwrap-position.result in
    ReadAt.text_is (read c.self.inside c.args.self.now c.args.index c.self.invariant c.self.view_is
    c.requires _ c.position_ended.ensures) position _ _ c.unwrap-position.ensures (c.text_at.ensures
    ∙ ap (λ (g : Handed). text_between g.bytes position.start position.end) c.self.view_is)
    c.unwrap.ensures
