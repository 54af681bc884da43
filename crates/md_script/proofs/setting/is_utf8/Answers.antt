-- Bytes are UTF-8 exactly if std's check accepts them. The search alone doesn't split the two
-- results of the check.
use Rattle.std.proofs.Common.{◌∙◌}
use Rattle.md_script.proofs.SettingLemmas.{reads_as_text}
use Rattle.md_script.proofs.setting.is_utf8.Goals as goal

pub returns : goal.returns
returns c = c.is_ok.ensures.value
    ∙ reads_as_text c.args.bytes.now _ c.from_utf8.result c.from_utf8.ensures.cases
