-- Bytes are a text exactly if std's check accepts them as UTF-8. The search alone doesn't split the
-- two results of the check.
use Rattle.std.proofs.Common.{ap, ◌∙◌}
use Rattle.std.specs.Prelude.{option_copied}
use Rattle.md_script.proofs.SettingLemmas.{read_text}
use Rattle.md_abi.proofs.text.read_utf8.Goals as goal

pub returns : goal.returns
returns c = ap option_copied c.ok.ensures.value ∙ read_text c.args.bytes.now _ c.from_utf8.result
    c.from_utf8.ensures.cases
