-- The bytes after `=` are a text exactly if std's check accepts them as UTF-8. The search alone
-- doesn't split the two results of the check.
use Rattle.std.proofs.Common.{true, ap, ◌∙◌}
use Rattle.std.specs.Prelude.{option_copied}
use Rattle.md_base.specs.Place.{text_when}
use Rattle.md_script.proofs.SettingLemmas.{read_text}
use Rattle.md_script.proofs.setting.value_after_equals.Goals as goal

pub returns : goal.returns
returns c =
    ap option_copied c.ok.ensures.value ∙ read_text c.after_equals.result.now _ c.from_utf8.result
    c.from_utf8.ensures.cases
    ∙ ap (text_when true) c.after_equals.ensures
