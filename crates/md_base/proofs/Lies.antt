-- From a test that is both false and true anything follows: how a proof leaves a
-- case that can't be.
use Rattle.std.proofs.Common.{◌≡◌, true, false}
use Rattle.std.proofs.lemmas.Bool.{false≢true}

pub lie : {A : Type 0} → false ≡ true → A
lie h = absurd (false≢true h)
