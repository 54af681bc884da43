-- An open leaf is tried first, if the line continues all containers.
use Rattle.std.proofs.Common.{◌≡◌, true, ℕ}
use Rattle.std.proofs.Common.{ap, sym, ◌∙◌, false, length, nat_lt, true}
use Rattle.std.proofs.lemmas.Result.{IfOk-weaker}
use Rattle.md_blocks.specs.BlockStructure.{begun, line_after, lines_defined}
use Rattle.md_blocks.specs.LeafBlocks.{blank_read, blank_waits, if_begun}
use Rattle.md_blocks.specs.Passes.{defined_in, state_of}
use Rattle.md_blocks.specs.Positions.{ending_of, rest_of}
use Rattle.md_blocks.specs.Rests.{is_blank_rest}
use Rattle.md_blocks.proofs.Steps.{ok_to, or_text}
use Rattle.md_blocks.proofs.pass.Pass.read_after.Goals as goal

pub returns-then-branch-clause-state : goal.returns-then-branch-clause-state
returns-then-branch-clause-state c =
    let p = c.args.self.now in
    let new = c.continue_if.new.self in
    let place = c.args.position.now in
    let rest = rest_of place in
    let other = begun (length rest.text) p.options.now (defined_in p) c.args.matched c.args.is_whole
    (nat_lt 0 place.ending) false rest (ending_of p.bytes.now place) (state_of p) in
    sym (ap (λ found. or_text found other) (c.in_ok-continue_if.ensures.state
    ∙ ap (λ so. if_begun so (state_of new)) c.if-branch.true))

pub returns-clause-state : goal.returns-clause-state
returns-clause-state c =
    let p = c.args.self.now in
    let l = c.continue_if.new.self in
    let place = c.args.position.now in
    let rest = rest_of place in
    let ending = ending_of p.bytes.now place in
    let whole = c.args.is_whole in
    let matched = c.args.matched in
    let after = c.continue_if.new.position in
    let ended = nat_lt 0 place.ending in
    let alike : (n : ℕ) → begun (length (rest_of after).text) l.options.now n matched whole
    (nat_lt 0 after.ending) false (rest_of after) (ending_of l.bytes.now after) (state_of l)
    ≡ begun (length rest.text) p.options.now n matched whole ended false rest ending (state_of p) =
    λ n. ap (λ q. begun (length (rest_of q).text) l.options.now n matched whole
    (nat_lt 0 q.ending) false (rest_of q) (ending_of l.bytes.now q) (state_of l))
    (c.in_ok-continue_if.ensures.same c.if-branch.false)
    ∙ ap (λ o. begun (length rest.text) o.now n matched whole ended
    false rest (ending_of l.bytes.now place) (state_of l)) c.continue_if.ensures.options
    ∙ ap (λ b. begun (length rest.text) p.options.now n matched whole ended
    false rest (ending_of b.now place) (state_of l)) c.continue_if.ensures.document
    ∙ ap (begun (length rest.text) p.options.now n matched whole ended
    false rest ending) (c.in_ok-continue_if.ensures.stays c.if-branch.false) in
    let none = c.in_ok-continue_if.ensures.state ∙ ap (λ so. if_begun so (state_of l)) c.if-branch.false in
    let counted : defined_in l ≡ defined_in p =
    ap lines_defined (c.in_ok-continue_if.ensures.stays c.if-branch.false) in
    let last : (n : ℕ) → n ≡ defined_in p →
    begun (length rest.text) p.options.now n matched whole ended false rest ending (state_of p)
    ≡ line_after p.options.now matched whole ended rest ending (state_of p) =
    λ n is. ap (λ n. begun (length rest.text) p.options.now n matched whole ended false rest ending
    (state_of p)) is
    ∙ sym (ap (λ found. or_text found (begun (length rest.text) p.options.now (defined_in p) matched whole
    ended false rest ending (state_of p))) none) in
    let begins = begun (length (rest_of after).text) l.options.now (defined_in l) matched whole
    (nat_lt 0 after.ending) false (rest_of after) (ending_of l.bytes.now after) (state_of l) in
    ok_to c.begin_blocks.result (state_of c.begin_blocks.new.self) begins
    (line_after p.options.now matched whole ended rest ending (state_of p))
    (alike (defined_in l) ∙ last (defined_in l) counted) c.begin_blocks.ensures.state

pub returns-clause-blank : goal.returns-clause-blank
returns-clause-blank c =
    let p = c.args.self.now in
    let l = c.continue_if.new.self in
    let at = c.continue_if.new.position in
    let new = c.begin_blocks.new.self in
    let place = c.args.position.now in
    let whole = c.args.is_whole in
    let matched = c.args.matched in
    let same = c.in_ok-continue_if.ensures.same c.if-branch.false in
    IfOk-weaker c.begin_blocks.result
    (λ blank. blank ≡ true → (is_blank_rest (rest_of at) ≡ true) × (state_of new
    ≡ blank_waits (nat_lt 0 at.ending) (blank_read (defined_in l) matched whole (rest_of at)
    (ending_of l.bytes.now at) (state_of l))))
    (λ blank. blank ≡ true → (is_blank_rest (rest_of place) ≡ true) × (state_of new
    ≡ blank_waits (nat_lt 0 place.ending) (blank_read (defined_in p) matched whole (rest_of place)
    (ending_of p.bytes.now place) (state_of p))))
    (λ blank found is. let those = found is in (
      ap (λ a. is_blank_rest (rest_of a)) (sym same) ∙ those.0,
      those.1
          ∙ ap (λ a. blank_waits (nat_lt 0 a.ending) (blank_read (defined_in l) matched whole (rest_of a)
          (ending_of l.bytes.now a) (state_of l))) same
          ∙ ap (λ b. blank_waits (nat_lt 0 place.ending) (blank_read (defined_in l) matched whole (rest_of place)
          (ending_of b.now place) (state_of l))) c.continue_if.ensures.document
          ∙ ap (λ s. blank_waits (nat_lt 0 place.ending) (blank_read (lines_defined s) matched whole (rest_of place)
          (ending_of p.bytes.now place) s)) (c.in_ok-continue_if.ensures.stays c.if-branch.false),
    ))
    c.begin_blocks.ensures.blank
