-- In each iteration, the text is among the remaining names exactly if it is among all.
use Rattle.std.proofs.Common.{◌≡◌, drop}
use Rattle.md_script.specs.Setting.{is_among, texts_of}
use Rattle.md_script.proofs.setting.is_among.Given as goal

abbrev pub invariant-loop-name : goal.invariant-loop-name
invariant-loop-name l =
    is_among (texts_of (drop l.name-index l.names)) l.text ≡ is_among (texts_of l.names) l.text
