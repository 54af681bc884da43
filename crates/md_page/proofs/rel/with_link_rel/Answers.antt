-- The result for the text by its bytes, in the Standard's terms.
use Rattle.std.proofs.Common.{◌∙◌}
use Rattle.md_page.proofs.Forests.{changed-text}
use Rattle.md_page.proofs.LinkRule.{link-rule}
use Rattle.md_page.proofs.Rules.{attributed}
use Rattle.md_page.proofs.rel.with_link_rel.Goals as goal

pub new-requires : goal.new-requires
new-requires g c =
    (changed-text (link-rule c.args.rel.now) c.as_str.ensures.written c.as_str.ensures.text
    c.in_ok-text.ensures).written

pub returns : goal.returns
returns g c =
    let made = changed-text (link-rule c.args.rel.now) c.as_str.ensures.written
    c.as_str.ensures.text (c.new.ensures ∙ c.in_ok-text.ensures) in
    record {
      tokens = made.tokens;
      attributed = attributed _ made.written;
      tree = made.tree;
    }
