-- The digits that are left write the same number.
use Rattle.std.proofs.Common.{◌≡◌, length}
use denote.Text.{Utf8}
use denote.Shadow.{shadow}
use Rattle.md_printer.specs.Parts.{unpadded}
use Rattle.md_printer.proofs.lists.unpadded.Given as goal

abbrev pub invariant-loop-digits : goal.invariant-loop-digits
invariant-loop-digits l = (unpadded l.digits ≡ unpadded l.initial.digits) × shadow (Utf8 l.digits)

abbrev pub decreases-loop-digits : goal.decreases-loop-digits
decreases-loop-digits l = length l.digits
