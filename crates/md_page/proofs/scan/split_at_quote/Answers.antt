use Rattle.md_page.proofs.Parts.{parts-found, parts-none}
use Rattle.md_page.proofs.scan.split_at_quote.Goals as goal

pub returns-in_err-at : goal.returns-in_err-at
returns-in_err-at c = rw c.from_residual.ensures (parts-none c.args.bytes.now c.in_err-at.ensures)

pub returns : goal.returns
returns c = parts-found c.args.bytes.now c.in_ok-at.at c.in_ok-at.ensures
