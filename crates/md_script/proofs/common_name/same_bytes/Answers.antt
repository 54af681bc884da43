-- The lowest mark of the two vectors is set where they first differ.
-- By itself the search can't read a mask.
use Rattle.md_script.proofs.SixteenBytes.{same_before}
use Rattle.md_script.proofs.common_name.same_bytes.Goals as goal

pub returns : goal.returns
returns c =
    λ k low few. same_before c.args.bytes.now c.args.text.now k c.requires c.told-text low few
