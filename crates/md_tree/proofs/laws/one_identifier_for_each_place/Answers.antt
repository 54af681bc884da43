-- The law is a lemma of `MentionsResolved`: at a place stands one identifier.
use Rattle.md_tree.proofs.MentionsResolved.{which-one}
use Rattle.md_tree.proofs.laws.one_identifier_for_each_place.Goals as goal

pub returns : goal.returns
returns c = which-one
