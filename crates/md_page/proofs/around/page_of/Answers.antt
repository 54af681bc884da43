-- Five steps build the text.
use Rattle.std.proofs.Common.{true, refl, ◌∙◌}
use Rattle.md_text.specs.Encode.{encoded}
use Rattle.md_page.proofs.around.page_of.Goals as goal
use Rattle.md_page.proofs.Pages.{page_appended}

pub returns : goal.returns
returns c =
    page_appended (encoded true c.args.title.now) c.args.body.now c.new-text.ensures.bytes
    c.in_ok-push_str.ensures.bytes c.in_ok-push_str-2.ensures.bytes
    c.in_ok-push_str-3.ensures.bytes c.in_ok-push_str-4.ensures.bytes
    c.in_ok-push_str-5.ensures.bytes (c.as_str.ensures.value ∙ c.in_ok-escaped.ensures.by_byte)
    refl
