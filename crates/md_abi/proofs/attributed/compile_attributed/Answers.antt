-- The converted input is what C's input encodes, also as slices, and the requested attributes are
-- those that were read. The search alone doesn't carry the promise from one to the other.
use Rattle.std.proofs.Common.{option_copied, string_bytes}
use Rattle.md_abi.proofs.GivenLemmas.{read_as, rendered}
use Rattle.md_abi.proofs.AttributedLemmas.{made_text}
use Rattle.md_abi.proofs.attributed.compile_attributed.Goals as goal

pub returns-clause-ok : goal.returns-clause-ok
returns-clause-ok c =
    let given = c.args.given in
    let read = read_as given.events.now given.options.now given.names.now c.as_slice.result.now _
    c.in_ok-options.options c.as_slice-2.result.now _
    c.as_slice.ensures.value c.as_slice-2.ensures.value c.in_ok-events.ensures.ok
    c.in_ok-options.ensures.ok c.in_ok-names.ensures.ok in
    let keeps = c.in_ok-html.ensures.safe in
    let compiled = c.in_ok-html.ensures.ok in
    made_text given.events.now given.bytes.now given.options.now given.names.now
    c.args.attributes.now (option_copied c.in_ok-rel.rel) (option_copied c.in_ok-prefix.prefix)
    c.in_ok-html.html
    (string_bytes c.in_ok-made.made.whole) c.in_ok-made.made.start c.in_ok-options.options
    c.in_ok-options.ensures.ok
    keeps (rendered _ given.bytes.now _ _ _ _ _ read c.in_ok-html.html compiled)
    (compiled.tokenized keeps.links.grammar) c.in_ok-rel.ensures.ok c.in_ok-prefix.ensures.ok
    c.in_ok-made.ensures.listed c.in_ok-made.ensures.tree
