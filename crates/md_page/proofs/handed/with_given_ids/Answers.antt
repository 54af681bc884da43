-- The result for the text by its bytes, in the Standard's terms.
use Rattle.std.proofs.Common.{map, string_bytes, ◌∙◌}
use Rattle.md_page.proofs.Forests.{changed-text}
use Rattle.md_page.proofs.GivenDistinct.{distinct-given}
use Rattle.md_page.proofs.HeadingRule.{given-rule}
use Rattle.md_page.proofs.Rules.{attributed}
use Rattle.md_page.proofs.handed.with_given_ids.Goals as goal

pub new-requires : goal.new-requires
new-requires g c =
    (changed-text (given-rule (map string_bytes c.args.ids.now)) c.as_str.ensures.written
    c.as_str.ensures.text c.in_ok-text.ensures).written

pub returns : goal.returns
returns g c =
    let ids = map string_bytes c.args.ids.now in
    let made = changed-text (given-rule ids) c.as_str.ensures.written c.as_str.ensures.text
    (c.new.ensures ∙ c.in_ok-text.ensures) in
    record {
      tokens = made.tokens;
      distinct = λ x h distinct. distinct-given ids x distinct;
      attributed = attributed _ made.written;
      tree = made.tree;
    }
