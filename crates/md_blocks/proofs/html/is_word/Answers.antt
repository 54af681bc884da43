-- Texts are equal in any case if they are equal in lower case.
use Rattle.std.proofs.Common.{ℕ, Bool, List, ◌≡◌, rules, map}
use Rattle.std.specs.Bool.{Decides}
use Rattle.std.specs.Str.{bytes_eq}
use Rattle.std.specs.Char.{to_ascii_lowercase}
use Rattle.std.proofs.lemmas.Slice.Eq.{bytes_eq-Decides}
use Rattle.md_blocks.proofs.html.is_word.Goals as goal

tested : (xs ys : List ℕ) (r : Bool) → Decides r (xs ≡ ys) → r ≡ bytes_eq xs ys
tested xs ys r decides = search (rules, bytes_eq-Decides)

pub returns : goal.returns
returns c =
    tested (map to_ascii_lowercase c.args.text.now) (map to_ascii_lowercase c.args.word.now) _
    c.eq_ignore_ascii_case.ensures.test
