-- By computation.
use Rattle.std.proofs.Common.{refl}
use lib.Utf8.{encode}
use Rattle.md_base.proofs.laws.characters_are_as_written.Goals as goal

pub returns-clause-under_256 : goal.returns-clause-under_256
unfolding encode
returns-clause-under_256 c = refl

pub returns-clause-surrogates : goal.returns-clause-surrogates
unfolding encode
returns-clause-surrogates c = refl

pub returns-clause-noncharacters : goal.returns-clause-noncharacters
unfolding encode
returns-clause-noncharacters c = refl

pub returns-clause-first_of_a_plane : goal.returns-clause-first_of_a_plane
unfolding encode
returns-clause-first_of_a_plane c = refl

pub returns-clause-third_last : goal.returns-clause-third_last
unfolding encode
returns-clause-third_last c = refl

pub returns-clause-second_last : goal.returns-clause-second_last
unfolding encode
returns-clause-second_last c = refl

pub returns-clause-last : goal.returns-clause-last
unfolding encode
returns-clause-last c = refl

pub returns-clause-past_the_last : goal.returns-clause-past_the_last
unfolding encode
returns-clause-past_the_last c = refl
