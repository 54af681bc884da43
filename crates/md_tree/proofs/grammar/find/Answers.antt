-- The result of `find` if the walk isn't done, if a mention is unresolved, and if all is well. The
-- search can't derive facts about the events from the end of a walk: `Checking` does.
use Rattle.std.proofs.Common.{◌≡◌, [], ◌∷◌, true, refl, sym, ap, ◌∙◌, subst, length, List}
use Rattle.std.proofs.lemmas.List.{reverse-reverse}
use Rattle.md_tree.proofs.Common.{reverse, Event, All, err_from_is_err_and, Aim, mentions_among}
use Rattle.md_tree.proofs.Common.{IsResolved, IsUnresolved, numbered, number_for, handed, opens_at}
use Rattle.md_tree.proofs.Common.{opens_seen, course_of, Handed, Runs, Unbroken, beginning}
use Rattle.md_tree.proofs.Common.{is_complete, state_of}
use Rattle.md_tree.specs.declared.walk.Walk.{Walk}
use Rattle.md_tree.specs.declared.open_nodes.Open.{Open}
use Rattle.md_tree.proofs.Checking.{IsWalked, IsWalked-done, IsRefusal-undone, IsRefusal-lost}
use Rattle.md_tree.proofs.Checking.{IsChecked-walked, AreNumbered-walked}
use Rattle.md_tree.proofs.grammar.find.Goals as goal

-- no node of a course is open, and so none of a walk
none_at : (events : List Event) (targets : List Aim) (opens : List Open) →
    opens_at events targets opens ≡ [] → opens ≡ []
none_at events targets [] e = refl
none_at events targets (open_node ∷ opens) e = cc

none_open : (events : List Event) (targets : List Aim) (opens : List Open) →
    opens_seen events targets opens ≡ [] → opens ≡ []
none_open events targets opens e =
    sym (reverse-reverse opens) ∙ ap reverse (none_at events targets (reverse opens) e)

-- the document that was walked to its end
walked : (given : Handed) (walk : Walk) → Runs (Unbroken given.bytes given.names) given.events
    beginning (course_of given.events (length given.events) walk) → (walk.open_nodes.items ≡ []) ×
    (is_complete (state_of walk.place walk.before) ≡ true) → IsWalked given walk.mentions.items
walked given walk runs done =
    IsWalked-done given _ runs (ap (opens_seen given.events (reverse walk.targets.items)) done.0)
    done.1

pub returns-then-not-is_done-clause-refused : goal.returns-then-not-is_done-clause-refused
returns-then-not-is_done-clause-refused c =
    IsRefusal-undone (handed c.args.events.now c.args.bytes.now c.args.names.now)
    (course_of c.args.events.now (length c.args.events.now) c.in_ok-read.read.walk)
    (rw (c.in_ok-texts.ensures, c.in_ok-references.ensures) at c.in_ok-read.ensures.walked)
    (λ e. c.is_done.ensures.undone c.if-not-is_done.true
    (none_open c.args.events.now (reverse c.in_ok-read.read.walk.targets.items)
    c.in_ok-read.read.walk.open_nodes.items e))

pub returns-in_err-resolve-clause-refused : goal.returns-in_err-resolve-clause-refused
returns-in_err-resolve-clause-refused c =
    let p = err_from_is_err_and c.from_residual-in_err-resolve.result
    c.from_residual-in_err-resolve.ensures.1 in
    let given = handed c.args.events.now c.args.bytes.now c.args.names.now in
    let mentions = c.in_ok-read.read.walk.mentions.items in
    let document = walked given c.in_ok-read.read.walk (rw (c.in_ok-texts.ensures, c.in_ok-references.ensures) at
    c.in_ok-read.ensures.walked) (c.is_done.ensures.done c.if-not-is_done.false) in
    rw (p.1, p.2) (IsRefusal-lost given mentions c.in_err-resolve.field-0.0 document
    (subst (λ ms. IsUnresolved c.args.bytes.now ms c.in_err-resolve.field-0.0) c.deref.ensures.value
    (rw (c.with_front_alone-texts.ensures, c.in_ok-texts.ensures) at
    c.in_err-resolve.ensures.refused)))

pub returns-clause-grammatical : goal.returns-clause-grammatical
returns-clause-grammatical c =
    let given = handed c.args.events.now c.args.bytes.now c.args.names.now in
    let mentions = c.in_ok-read.read.walk.mentions.items in
    let document = walked given c.in_ok-read.read.walk (rw (c.in_ok-texts.ensures, c.in_ok-references.ensures) at
    c.in_ok-read.ensures.walked) (c.is_done.ensures.done c.if-not-is_done.false) in
    IsChecked-walked given mentions document
    (subst (λ ms. All (IsResolved c.args.bytes.now (mentions_among ms))
    (mentions_among ms)) c.deref.ensures.value
    (rw (c.with_front_alone-texts.ensures, c.in_ok-texts.ensures) at c.in_ok-resolve.ensures.ok))

pub returns-clause-facts : goal.returns-clause-facts
returns-clause-facts c = λ forest flattens.
    let given = handed c.args.events.now c.args.bytes.now c.args.names.now in
    let mentions = c.in_ok-read.read.walk.mentions.items in
    let document = walked given c.in_ok-read.read.walk (rw (c.in_ok-texts.ensures, c.in_ok-references.ensures) at
    c.in_ok-read.ensures.walked) (c.is_done.ensures.done c.if-not-is_done.false) in
    rw (c.with_front_alone-texts.ensures, c.in_ok-texts.ensures) at c.in_ok-resolve.ensures.numbered
    ∙ ap (λ ms. numbered (number_for given.bytes (mentions_among ms)) ms
    c.in_ok-read.read.found.facts) c.deref.ensures.value
    ∙ ap (λ fs. numbered (number_for given.bytes (mentions_among mentions)) mentions fs)
    c.in_ok-read.ensures.facts ∙ AreNumbered-walked given mentions document forest flattens
