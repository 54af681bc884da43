-- What is listed by its bytes, in the words of the Standard.
use Rattle.std.proofs.Common.{ap, ◌∙◌}
use Rattle.md_page.specs.Scan.{scanned_headings}
use Rattle.md_page.proofs.Listing.{listed-tokens}
use Rattle.md_page.proofs.handed.list_headings.Goals as goal

pub returns : goal.returns
returns g c = record {
  headings = λ x h.
      (c.in_ok-found.ensures ∙ ap (scanned_headings 0) c.as_str.ensures.text
      ∙ listed-tokens (g.H.Html.text c.args.html.now) c.as_str.ensures.written x h);
}
