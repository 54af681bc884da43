-- The lowest mark is set at the first space.
-- By itself the search can't read a mask.
use Rattle.md_script.proofs.SixteenBytes.{space_found}
use Rattle.md_script.proofs.common_name.first_space.Goals as goal

pub returns : goal.returns
returns c = λ low. space_found c.args.bytes.now c.requires low
