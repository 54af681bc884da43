-- The table has each plain byte at its own place, and a backquote at every other one's.
use Rattle.std.proofs.Common.{ℕ, List, ◌++◌, not, nat_eq, get_or, codes, ap, ◌∙◌, refl}
use Rattle.std.proofs.lemmas.Bool.{agree_below_at}
use Rattle.md_text.specs.Kept.{is_plain}
use Rattle.md_text.proofs.url.kept.is_plain_byte.Goals as goal

abbrev table : List ℕ
table = codes "`````````````````````````````````!`#$``'()*+,-./0123456789:;`=`?"
    ++ codes "@ABCDEFGHIJKLMNOPQRSTUVWXYZ````_`abcdefghijklmnopqrstuvwxyz```~`"
    ++ codes "````````````````````````````````````````````````````````````````"
    ++ codes "````````````````````````````````````````````````````````````````"

pub returns : goal.returns
returns c =
    ap (λ n. not (nat_eq (get_or table n 0) 96)) c.from.ensures
    ∙ agree_below_at (λ b. not (nat_eq (get_or table b 0) 96)) is_plain 256 c.args.byte
    refl c.ranges.byte.fits
