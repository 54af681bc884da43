-- The root is such a place.
use Rattle.md_safe.specs.Node.{InBody, Empty as NoNode}
use Rattle.md_safe.specs.Built.{open_at}
use Rattle.std.specs.Prelude.{[], codes}
use Rattle.md_safe.proofs.Fragments.{fragment-built, root-place}
use Rattle.md_safe.proofs.trees.fragment_is_built.Goals as goal

pub returns : goal.returns
returns c context text h built =
    fragment-built context built.forest h
    (built.builds InBody (open_at 0 (codes "html") NoNode) [] [] 1 root-place)
