-- The letter at a row decides it; past the rows a spine has no symbols.
use Rattle.std.proofs.lemmas.Grind.{common_steps}
use Rattle.std.proofs.Common.{arith, rules, None, ◌≡◌, ◌<◌, length, get_or}
use Rattle.md_pattern.proofs.PlaceLemmas.{ends-at, ends-outside, ends-count}
use Rattle.md_pattern.proofs.spine_state.SpineState.may_end.Goals as goal

pub returns-in-Some : goal.returns-in-Some
returns-in-Some c =
    let inside : c.args.self.number < length c.ends.result.now = search rules in
    let is : c.in-Some.letter.now ≡ get_or c.ends.result.now c.args.self.number 0 = search rules in
    ends-at c.ends.result.now c.args.self.number c.in-Some.letter.now None c.ends.ensures inside is

pub returns-in-None : goal.returns-in-None
returns-in-None c = grind (arith, common_steps, ends-outside, ends-count)
