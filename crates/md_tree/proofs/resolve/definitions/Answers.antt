-- A definition gets its number in the map, another mention none. The search can't take a mention
-- off the end of the list.
use Rattle.std.proofs.Common.{◌≡◌, ◌-◌, ◌++◌, ◌∷◌, [], ℕ, suc, List, length, ap, sym, subst, ◌∙◌}
use Rattle.std.proofs.Common.{append_assoc, arith}
use Rattle.md_tree.proofs.Common.{Position, Definition, Mentioned, defined, defined_by}
use Rattle.md_tree.proofs.Common.{mentions_among, NumbersFrom}
use Rattle.md_tree.proofs.MentionsResolved.{NumbersFrom-put, defined-last, defined_by-other}
use Rattle.md_tree.proofs.resolve.definitions.Goals as goal

-- how many definitions there are up to a mention
module _ (bytes : List ℕ) (rest before : List Mentioned) (last : Mentioned) (number : ℕ)
    (split : rest ≡ before ++ last ∷ [])
    (counted : number ≡ length (defined bytes (mentions_among rest))) where
  at_definition : (label : Position) → last.mention ≡ Definition label →
      number ≡ suc (length (defined bytes (mentions_among before)))
  at_definition label is = grind (arith, defined-last)

  at_another : ((label : Position) → last.mention ≡ Definition label → ⊥) →
      number ≡ length (defined bytes (mentions_among before))
  at_another no_such = grind (arith, defined-last, defined_by-other)

one_less : (number left : ℕ) → number ≡ suc left → number - 1 ≡ left
one_less number left e = omega (arith, e)

pub overflow_sub-number : goal.overflow_sub-number
overflow_sub-number c =
    let e = at_definition c.args.bytes.now c.loop-mentioned.rest.now c.in-Some.before.now
    c.in-Some.mentioned.now c.loop-mentioned.number c.in-Some.ensures.cases.0
    c.loop-mentioned.invariant.2 c.in-Definition.label c.in-Definition.is in
    omega (arith, e)

pub loop-mentioned-preserved-in_ok-insert : goal.loop-mentioned-preserved-in_ok-insert
loop-mentioned-preserved-in_ok-insert c =
    let bytes = c.args.bytes.now in
    let before = c.in-Some.before.now in
    let last = c.in-Some.mentioned.now in
    let passed = c.loop-mentioned.invariant.0 in
    let left = length (defined bytes (mentions_among before)) in
    let later = defined bytes (mentions_among passed) in
    let e = at_definition bytes c.loop-mentioned.rest.now before last c.loop-mentioned.number
    c.in-Some.ensures.cases.0 c.loop-mentioned.invariant.2 c.in-Definition.label
    c.in-Definition.is in (
      last ∷ passed,
      c.loop-mentioned.invariant.1 ∙ ap (λ r. r ++ passed) c.in-Some.ensures.cases.0
          ∙ append_assoc before (last ∷ []) passed,
      one_less c.loop-mentioned.number left e,
      subst (λ n. NumbersFrom c.insert.new.self n (defined_by bytes last.mention later))
          (sym (one_less c.loop-mentioned.number left e))
          (subst (λ l. NumbersFrom c.insert.new.self left l)
          (ap (λ i. i ∷ later) c.in_ok-identifier.ensures
          ∙ sym (ap (λ m. defined_by bytes m later) c.in-Definition.is))
          (NumbersFrom-put c.loop-mentioned.numbers c.insert.new.self
          c.in_ok-identifier.identifier left later
          (subst (λ n. NumbersFrom c.loop-mentioned.numbers n later) e c.loop-mentioned.invariant.3)
          (rw e at c.in_ok-insert.ensures.updates))),
    )

pub loop-mentioned-preserved : goal.loop-mentioned-preserved
loop-mentioned-preserved c =
    let bytes = c.args.bytes.now in
    let before = c.in-Some.before.now in
    let last = c.in-Some.mentioned.now in
    let passed = c.loop-mentioned.invariant.0 in
    let e = at_another bytes c.loop-mentioned.rest.now before last c.loop-mentioned.number
    c.in-Some.ensures.cases.0 c.loop-mentioned.invariant.2 c.in_default-mention.not-Definition in (
      last ∷ passed,
      c.loop-mentioned.invariant.1 ∙ ap (λ r. r ++ passed) c.in-Some.ensures.cases.0
          ∙ append_assoc before (last ∷ []) passed,
      e,
      subst (λ l. NumbersFrom c.loop-mentioned.numbers c.loop-mentioned.number l)
          (sym (defined_by-other bytes last.mention (defined bytes (mentions_among passed))
          c.in_default-mention.not-Definition)) c.loop-mentioned.invariant.3,
    )
