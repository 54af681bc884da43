-- In each iteration, the value that the remaining lines give is the value that all lines give.
use Rattle.std.proofs.Common.{◌≡◌, drop}
use Rattle.md_script.specs.Setting.{text_given, texts_of}
use Rattle.md_script.proofs.setting.value_given.Given as goal

abbrev pub invariant-loop-line : goal.invariant-loop-line
invariant-loop-line l =
    text_given (texts_of (drop l.line-index l.lines)) l.name ≡ text_given (texts_of l.lines) l.name
