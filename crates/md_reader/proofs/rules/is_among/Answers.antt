-- A name is listed if it has an index.
use Rattle.std.proofs.Common.{ap, ◌∙◌, is_some, map}
use Rattle.md_reader.proofs.AttributeLemmas.{index-some}
use Rattle.md_reader.proofs.rules.is_among.Goals as goal

pub returns : goal.returns
returns c = c.is_some.ensures ∙ ap is_some c.index_in.ensures.is
    ∙ index-some (map (λ other. other.now) c.args.names.now) c.args.name.now
