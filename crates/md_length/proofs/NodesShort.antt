-- What a node prints, and what is kept of it, is no longer than what it may print, what it uses
-- and what its children may.
use Rattle.std.proofs.Common.{◌≡◌, ℕ, ◌+◌, ◌*◌, ◌≤◌, Bool, true, false, arith, length, unwrap_or}
use Rattle.std.specs.Prelude.{if◌then◌else◌, is_some}
use Rattle.std.proofs.lemmas.Fmt.{length-decimal-le}
use Rattle.md_base.specs.declared.event.Name.{Name}
use Rattle.md_base.specs.NameTests.{is_transparent}
use Rattle.md_tree.specs.declared.mention.Referral.TheVariants as referral
use Rattle.md_tree.specs.Rules.{target_of}
use Rattle.md_meaning.specs.Meaning.At.{Context, At, identifier_of}
use Rattle.md_meaning.specs.Meaning.Before.{before_children}
use Rattle.md_meaning.specs.Meaning.Footnotes.{call}
use Rattle.md_meaning.specs.Meaning.Layout.{layout}
use Rattle.md_meaning.specs.Meaning.Nodes.{Outcome, node}
use Rattle.md_content.specs.Underlined.{is_underline, waits_past, waits_after}
use Rattle.md_steps.specs.Content.{Content, content_inside}
use Rattle.md_steps.proofs.Standing.{is_callless}
use Rattle.md_length.specs.Costs.{own, unit}
use Rattle.md_length.specs.Sound.{IsSound}
use Rattle.md_length.specs.Uses.{used, call_cost}
use Rattle.md_length.proofs.Pieces.{size}
use Rattle.md_length.proofs.Prints.{IsShort}
use Rattle.md_length.proofs.Strings.{notes, notes-append}
use Rattle.md_length.proofs.Kept.{kept, held, target-kept}

-- what is known of a node and of what its children print
pub record Known (context : Context) (at : At) (waits : Bool) (content : Content) (inner : Outcome)
    (name : Name) (spent : ℕ) : Type 0 where
  pub printed : IsShort context at inner.pieces name
  pub laid : length (layout context.ending inner.pieces) ≤ size inner.pieces
  pub sound : IsSound name at.place.start at.place.end at.children
  pub resource : target_of at.children referral.Missing ≡ referral.Resource →
      is_some at.found.resource ≡ true
  pub called : size (call context at)
      ≤ call_cost context.options (identifier_of context.bytes at.children)
  pub under : is_underline name ≡ true → waits ≡ true
  pub strings : is_callless (content_inside content name) ≡ true →
      7 * size inner.pieces + notes inner.footnotes ≤ spent
  pub children : size inner.pieces + kept at.found + notes inner.footnotes
      + held (waits_after (if is_transparent name then waits else false) at.children)
      (unwrap_or at.found.heading (before_children name at.children at.before).heading)
      ≤ spent + held (if is_transparent name then waits else false)
      (before_children name at.children at.before).heading

-- a node is no longer than what it may print, what it uses and what its children may
abbrev IsNodeShort : Context → At → Bool → Outcome → Name → ℕ → Type 0
IsNodeShort context at waits inner name spent =
    size (node context at name inner).pieces + kept (node context at name inner).found
    + notes (node context at name inner).footnotes
    + held (if is_transparent name then waits_after waits at.children else waits_past waits name)
    (unwrap_or (node context at name inner).found.heading at.before.heading)
    ≤ unit context.names + 42 * own name at.place
    + used context at.before.columns name at.children + spent + held waits at.before.heading

pub node-short : (context : Context) (at : At) (waits : Bool) (content : Content)
    (inner : Outcome) (name : Name) (spent : ℕ) →
    Known context at waits content inner name spent →
    IsNodeShort context at waits inner name spent
node-short context at waits content inner name spent known =
    grind (arith, notes-append, length-decimal-le, target-kept)
