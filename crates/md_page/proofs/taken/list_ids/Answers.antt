-- What stands in quotes after ` id=`, in the words of the Standard.
use Rattle.std.proofs.Common.{true, ap, ◌∙◌}
use Rattle.md_text.specs.Encode.{encoded}
use Rattle.md_page.specs.GivenIds.{is_among}
use Rattle.md_page.specs.Scan.{scanned_ids}
use Rattle.md_page.proofs.TakenIds.{found-tokens}
use Rattle.md_page.proofs.taken.list_ids.Goals as goal

pub returns : goal.returns
returns g c = record {
  ids = λ x h id k.
      (ap (is_among (encoded true id)) (c.in_ok-found.ensures
      ∙ ap scanned_ids c.as_str.ensures.text)
      ∙ found-tokens (g.H.Html.text c.args.html.now) c.as_str.ensures.written x h id k);
}
