-- The map gets a copy of the identifier with the place where the entry will stand: so it still
-- finds each place. By itself the search can't follow each look-up into the longer list.
use Rattle.std.proofs.Common.{arith}
use Rattle.md_footnotes.proofs.MappedPlaces.{places-push}
use Rattle.md_footnotes.proofs.places.put_last.Goals as goal

pub returns-clause-found : goal.returns-clause-found
returns-clause-found g c = grind (arith, places-push)
