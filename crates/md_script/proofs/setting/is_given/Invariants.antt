-- In each iteration, one of the remaining lines sets the option exactly if one of all lines does.
use Rattle.std.proofs.Common.{◌≡◌, drop}
use Rattle.md_script.specs.Setting.{is_given, texts_of}
use Rattle.md_script.proofs.setting.is_given.Given as goal

abbrev pub invariant-loop-line : goal.invariant-loop-line
invariant-loop-line l =
    is_given (texts_of (drop l.line-index l.lines)) l.name ≡ is_given (texts_of l.lines) l.name
