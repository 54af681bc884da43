-- The bytes are the name, the space after it, and the rest.
-- By itself the search can't cut a list.
use Rattle.std.proofs.Common.{◌+◌, ◌++◌, ◌∷◌, take, sym, ap, ◌∙◌}
use Rattle.std.proofs.lemmas.List.{take_rest}
use Rattle.md_script.proofs.PlainLemmas.{cut_at}
use Rattle.md_script.proofs.common_name.read_long_name.Goals as goal

pub returns : goal.returns
returns c =
    let bytes = c.args.bytes.now in
    let n = c.in_ok-size.size in
    let space = c.in_ok-size.ensures in
    record {
      text = take n bytes;
      whole = cut_at bytes n 32 space.inside space.there
          ∙ ap (λ rest. take n bytes ++ 32 ∷ rest) (sym (take_rest bytes (n + 1)));
      says = sym c.in_ok-name.ensures;
    }
