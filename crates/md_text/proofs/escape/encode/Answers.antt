-- The text by bytes is the one by characters.
use Rattle.std.proofs.Common.{◌++◌, ap, ◌∙◌}
use Rattle.md_text.specs.Encode.{encoded}
use Rattle.md_text.proofs.EncodeLemmas.{encoded-chars}
use Rattle.md_text.proofs.escape.encode.Goals as goal

pub returns-clause-by_character : goal.returns-clause-by_character
returns-clause-by_character c =
    let html = c.args.encode_html in
    let value = c.args.value.now in
    c.in_ok-push_encoded.ensures.added
    ∙ ap (λ before. before ++ encoded html value) c.in_ok-out.ensures.bytes
    ∙ encoded-chars html value c.utf8.value
