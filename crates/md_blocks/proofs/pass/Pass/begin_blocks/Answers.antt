-- Each step begins what the definition says.
use Rattle.std.proofs.Common.{ap, sym, subst, refl, ◌∙◌, ◌≡◌, ◌<◌, ◌-◌, true, false}
use Rattle.std.proofs.Common.{length, nat_lt, arith, is_some}
use Rattle.std.specs.Prelude.{get_or, if◌then◌else◌}
use Rattle.std.proofs.lemmas.Bool.{false≢true}
use Rattle.md_blocks.specs.BlockStructure.{Ends, GoesOn, begun, blank_or, step_read}
use Rattle.md_blocks.specs.LeafBlocks.{blank_read, blank_waits}
use Rattle.md_blocks.specs.Passes.{defined_in, state_of}
use Rattle.md_blocks.specs.Positions.{ending_of, rest_of}
use Rattle.md_blocks.specs.Progress.{begun_of}
use Rattle.md_blocks.specs.Rests.{is_blank_rest, unindented}
use Rattle.md_blocks.specs.States.{State}
use Rattle.md_blocks.proofs.Folds.{Left, begun_blank, ends_so, first_is, goes_on, long, no_text, some_text}
use Rattle.md_blocks.proofs.LineLemmas.{text_is}
use Rattle.md_blocks.proofs.Markers.{same_ending}
use Rattle.md_blocks.proofs.pass.Pass.begin_blocks.Goals as goal

pub parts-init : goal.parts-init
parts-init c =
    let place = c.args.position.now in record {
      line = refl;
      ending = refl;
      document = refl;
      options = refl;
      first = λ _. refl;
      same = λ _. (refl, refl);
      left = (
        length (rest_of place).text,
        long place.line.now place.at place.column place.is_in_tab,
        refl,
      );
    }

pub returns-then-not-branch-clause-state : goal.returns-then-not-branch-clause-state
returns-then-not-branch-clause-state c =
    let p = c.args.self.now in
    let q = c.parts.self in
    let place = c.args.position.now in
    let at = c.parts.position in
    let inv = c.parts.invariant in
    let new = c.begin_block.new in
    let whole = c.args.is_whole in
    let depth = c.parts.depth in
    let ended = nat_lt 0 place.ending in
    let ending = ending_of p.bytes.now place in
    let rest = rest_of at in
    let some = sym c.byte.ensures.value ∙ c.in-Some.is in
    let found = c.in_ok-begin_block.ensures.state
    (first_is (unindented rest) c.in-Some.byte some ∙ ap (λ t. get_or t 0 0) (text_is at)) in
    let ending_is : ending_of q.bytes.now at ≡ ending =
    ap (λ b. ending_of b.now at) inv.document ∙ same_ending p.bytes.now place at inv.line inv.ending in
    let step : step_read p.options.now (defined_in q) depth whole rest ending (state_of q)
    ≡ Ends (state_of new.self) =
    ap (λ o. step_read o.now (defined_in q) depth whole rest ending (state_of q)) (sym inv.options)
    ∙ ap (λ e. step_read q.options.now (defined_in q) depth whole rest e (state_of q)) (sym ending_is)
    ∙ found
    ∙ ap (λ so. if so then GoesOn (begun_of new.self new.position) else Ends (state_of new.self))
    c.if-not-branch.true in
    ends_so (length at.line.now - at.at) p.options.now depth whole ended
    c.parts.has_begun rest
    ending (state_of q) (state_of new.self)
    (begun (length (rest_of place).text) p.options.now (defined_in p) c.args.matched whole ended false
    (rest_of place) ending (state_of p))
    (some_text (unindented rest) c.in-Some.byte some)
    (omega (arith, c.byte.ensures.there (ap is_some c.in-Some.is), at.before_text)) step inv.left

pub parts-preserved : goal.parts-preserved
parts-preserved c =
    let p = c.args.self.now in
    let q = c.parts.self in
    let place = c.args.position.now in
    let at = c.parts.position in
    let inv = c.parts.invariant in
    let new = c.begin_block.new in
    let whole = c.args.is_whole in
    let depth = c.parts.depth in
    let ended = nat_lt 0 place.ending in
    let ending = ending_of p.bytes.now place in
    let rest = rest_of at in
    let some = sym c.byte.ensures.value ∙ c.in-Some.is in
    let found = c.in_ok-begin_block.ensures.state
    (first_is (unindented rest) c.in-Some.byte some ∙ ap (λ t. get_or t 0 0) (text_is at)) in
    let ending_is : ending_of q.bytes.now at ≡ ending =
    ap (λ b. ending_of b.now at) inv.document ∙ same_ending p.bytes.now place at inv.line inv.ending in
    let next = begun_of new.self new.position in
    let step : step_read p.options.now (defined_in q) depth whole rest ending (state_of q) ≡ GoesOn next =
    ap (λ o. step_read o.now (defined_in q) depth whole rest ending (state_of q)) (sym inv.options)
    ∙ ap (λ e. step_read q.options.now (defined_in q) depth whole rest e (state_of q)) (sym ending_is)
    ∙ found
    ∙ ap (λ so. if so then GoesOn next else Ends (state_of new.self)) c.if-not-branch.false in
    let further = c.in_ok-begin_block.ensures.goes_on c.if-not-branch.false in
    let line_is : length new.position.line.now ≡ length at.line.now =
    ap (λ l. length l.now) c.begin_block.ensures.same_line in
    let less : length new.position.line.now - new.position.at < length at.line.now - at.at =
    omega (arith, further, line_is, c.byte.ensures.there (ap is_some c.in-Some.is), at.before_text) in
    let line : State = begun (length
    (rest_of place).text) p.options.now (defined_in p) c.args.matched whole ended
    false (rest_of place) ending (state_of p) in
    record {
      line = c.begin_block.ensures.same_line ∙ inv.line;
      ending = c.begin_block.ensures.same_ending ∙ inv.ending;
      document = c.begin_block.ensures.document ∙ inv.document;
      options = c.begin_block.ensures.options ∙ inv.options;
      first = λ none. absurd (false≢true (sym none));
      same = λ none. absurd (false≢true (sym none));
      left = subst (λ d. Left (length new.position.line.now - new.position.at) p.options.now d
          whole ended true
          (rest_of new.position) ending (state_of new.self) line)
          (sym (c.depth-depth.ensures ∙ new.self.nesting.stack.ok.0))
          (goes_on (length at.line.now - at.at) (length new.position.line.now - new.position.at) p.options.now
          depth whole ended c.parts.has_begun rest ending (state_of q) next line
          (some_text (unindented rest) c.in-Some.byte some) less step inv.left);
    }

pub returns-then-has_begun-clause-state : goal.returns-then-has_begun-clause-state
returns-then-has_begun-clause-state c =
    let p = c.args.self.now in
    let q = c.parts.self in
    let place = c.args.position.now in
    let at = c.parts.position in
    let inv = c.parts.invariant in
    let whole = c.args.is_whole in
    let depth = c.parts.depth in
    let ended = nat_lt 0 place.ending in
    let ending = ending_of p.bytes.now place in
    let rest = rest_of at in
    let blank = no_text (unindented rest) (sym c.byte.ensures.value ∙ c.in_default.is) in
    let given = inv.left.2 in
    sym (begun_blank inv.left.0 p.options.now (defined_in q) depth whole ended c.parts.has_begun rest
    ending (state_of q) blank
    ∙ ap (λ so. blank_or (defined_in q) depth whole ended so rest ending (state_of q)) c.if-has_begun.true)
    ∙ given

pub returns-clause-state : goal.returns-clause-state
returns-clause-state c =
    let p = c.args.self.now in
    let q = c.parts.self in
    let place = c.args.position.now in
    let at = c.parts.position in
    let inv = c.parts.invariant in
    let new = c.read_blank_line.new.self in
    let whole = c.args.is_whole in
    let depth = c.parts.depth in
    let matched = c.args.matched in
    let ended = nat_lt 0 place.ending in
    let ending = ending_of p.bytes.now place in
    let rest = rest_of at in
    let n = defined_in q in
    let ending_is : ending_of q.bytes.now at ≡ ending =
    ap (λ b. ending_of b.now at) inv.document ∙ same_ending p.bytes.now place at inv.line inv.ending in
    let blank = no_text (unindented rest) (sym c.byte.ensures.value ∙ c.in_default.is) in
    let given = inv.left.2 in
    let read = c.in_ok-read_blank_line.ensures.state in
    read
    ∙ ap (λ b. blank_waits (nat_lt 0 b) (blank_read n matched whole rest
    (ending_of q.bytes.now at) (state_of q))) inv.ending
    ∙ ap (λ e. blank_waits ended (blank_read n matched whole rest e (state_of q))) ending_is
    ∙ ap (λ d. blank_waits ended (blank_read n d whole rest ending (state_of q))) (sym
    (inv.first c.if-has_begun.false))
    ∙ sym (begun_blank inv.left.0 p.options.now n depth whole ended c.parts.has_begun
    rest ending (state_of q) blank
    ∙ ap (λ so. blank_or n depth whole ended so rest ending (state_of q)) c.if-has_begun.false)
    ∙ given

pub returns-clause-blank : goal.returns-clause-blank
returns-clause-blank c _ =
    let q = c.parts.self in
    let place = c.args.position.now in
    let at = c.parts.position in
    let whole = c.args.is_whole in
    let matched = c.args.matched in
    let n = defined_in q in
    let same = c.parts.invariant.same c.if-has_begun.false in
    let blank = no_text (unindented (rest_of at)) (sym c.byte.ensures.value ∙ c.in_default.is) in (
      ap (λ a. is_blank_rest (rest_of a)) (sym same.1) ∙ blank,
      c.in_ok-read_blank_line.ensures.state
          ∙ ap (λ a. blank_waits (nat_lt 0 a.ending) (blank_read n matched whole (rest_of a)
          (ending_of q.bytes.now a) (state_of q))) same.1
          ∙ ap (λ s. blank_waits (nat_lt 0 place.ending) (blank_read (defined_in s) matched whole (rest_of place)
          (ending_of s.bytes.now place) (state_of s))) same.0,
    )
