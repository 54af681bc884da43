-- The result for the text by its bytes, in the Standard's terms.
use Rattle.std.proofs.Common.{List, ap, ◌∙◌, length, ◌<◌, ◌^◌, arith}
use Rattle.std.proofs.lemmas.List.{length-map}
use Rattle.md_safe.specs.Token.{Token}
use Rattle.md_safe.specs.Tokenizer.{IsTokenized}
use Rattle.md_page.specs.Added.{headings_of}
use Rattle.md_page.specs.Headings.{listed}
use Rattle.md_page.specs.Scan.{scanned_headings}
use Rattle.md_page.proofs.Distinct.{distinct-headings}
use Rattle.md_page.proofs.Forests.{changed-text}
use Rattle.md_page.proofs.HeadingRule.{heading-rule}
use Rattle.md_page.proofs.Listing.{listed-tokens}
use Rattle.md_page.proofs.Rules.{attributed}
use Rattle.md_page.proofs.ids.with_heading_ids.Goals as goal

pub new-html-requires : goal.new-html-requires
new-html-requires g c =
    (changed-text (heading-rule c.args.prefix.now) c.as_str.ensures.written
    c.as_str-2.ensures.text c.in_ok-text.ensures).written

pub returns : goal.returns
returns g c =
    let text = g.H.Html.text c.args.html.now in
    let made = changed-text (heading-rule c.args.prefix.now) c.as_str.ensures.written
    c.as_str-2.ensures.text (c.new-html.ensures ∙ c.in_ok-text.ensures) in
    let found = λ (x : List Token) (h : IsTokenized text x).
    c.in_ok-headings.ensures ∙ ap (scanned_headings 0) c.as_str.ensures.text
    ∙ listed-tokens text c.as_str.ensures.written x h in
    record {
      tokens = made.tokens;
      headings = found;
      distinct = λ x h distinct none.
          (let few : length (headings_of x) < 2 ^ 64 = omega (
            arith,
            ap length (found x h),
            length-map c.in_ok-headings.headings.items listed,
            c.in_ok-headings.headings.small,
            c.in_ok-headings.headings.ok.0,
          ) in
          distinct-headings c.args.prefix.now x few distinct none);
      attributed = attributed _ made.written;
      tree = made.tree;
    }
