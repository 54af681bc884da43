-- Nothing is left at the end.
use Rattle.std.proofs.Common.{◌∙◌, ap, sym, inl, inr}
use Rattle.std.proofs.lemmas.Bool.{cases_lt, le-leb, lt-leb}
use Rattle.md_lines.specs.Texts.{is_none}
use Rattle.md_lines.proofs.Reading.{here, none}
use Rattle.md_lines.proofs.cursor.Cursor.is_at_line_end.Goals as goal

pub returns : goal.returns
returns c =
    let self = c.args.self.now in elim (cases_lt self.at self.end) [
      | inl before ↦
          lt-leb _ _ before ∙ sym (ap is_none (here self.bytes.now self.at self.end before self.within))
      | inr over ↦ le-leb _ _ over ∙ sym (ap is_none (none self.bytes.now self.at self.end over))
    ]
