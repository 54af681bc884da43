-- A safe text is written in sound pieces.
use Rattle.md_page.proofs.FromForest.{written-safe}
use Rattle.md_page.proofs.html.SafeHtmlHtml.as_str.Goals as goal

pub returns-clause-written : goal.returns-clause-written
returns-clause-written c =
    let safe = c.as_str.ensures.safe in
    written-safe c.args.self.now safe.safe_links safe.safe_images
