-- `Other` and the number that is read after it are the name that they spell. The search alone
-- doesn't assemble the text from them.
use Rattle.md_script.proofs.CommonLemmas.{other_read}
use Rattle.md_script.proofs.common_name.read_other_name.Goals as goal

pub returns : goal.returns
returns c =
    let parts = c.in_ok-digits.ensures.cases in
    other_read c.args.bytes.now c.in_ok-digits.digits.now c.in_ok-number.following.now
    c.in_ok-number.number
    c.in_ok-name.name parts.0 parts.1 c.in_ok-number.ensures c.in_ok-name.ensures
