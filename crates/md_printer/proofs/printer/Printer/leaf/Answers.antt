-- The fact about a blank line's end is whether it is the last.
use Rattle.std.proofs.Common.{rules, ◌∷◌, [], Bool, false, Some, ap, ◌∙◌}
use Rattle.std.specs.Prelude.{if◌then◌else◌}
use Rattle.md_base.specs.declared.event.Name.TheVariants as names
use Rattle.md_steps.specs.State.{State}
use Rattle.md_meaning.specs.Meaning.Layout.{Needed, laid_after, when}
use Rattle.md_printer.proofs.Answering.{leaves-by}
use Rattle.md_printer.proofs.printer.Printer.leaf.Goals as goal

pub returns-in_ok-leave_blank-in-BlankLineEnding-clause-left :
    goal.returns-in_ok-leave_blank-in-BlankLineEnding-clause-left
returns-in_ok-leave_blank-in-BlankLineEnding-clause-left c = λ done.
    let old = c.args.self.now in
    let code = c.args.context.now in
    let after : Bool → State = λ last. record old {
      text = laid_after code.ending.now old.text (when last (Needed ∷ []));
      slurps = if old.scope.in_definition then old.slurps else false;
      ended = Some names.BlankLineEnding;
      marker = 38;
    } in
    leaves-by code c.args.entry c.args.name names.BlankLineEnding old c.leave_blank.new.self
    c.in-BlankLineEnding.is (λ context one supplies there.
    c.in_ok-leave_blank-in-BlankLineEnding.ensures
    ∙ ap after (c.is_last_at.ensures one (c.requires.one one there)))

pub returns-in-ListItemMarker-clause-left : goal.returns-in-ListItemMarker-clause-left
returns-in-ListItemMarker-clause-left c = search rules
