-- The pieces of the events are the bytes that are appended last.
use Rattle.std.proofs.Common.{arith, ◌≡◌, ◌++◌, [], ap, ◌∙◌, subst, length}
use Rattle.md_kept.specs.Pieces.{ArePieces}
use Rattle.md_markdown.proofs.KeepingLemmas.{have_pieces}
use Rattle.md_markdown.proofs.keeping.kept_events.Goals as goal

pub returns : goal.returns
returns c =
    let document = c.args.text.now in
    let urls = c.resolved.result.now in
    let ending = c.ending.result.now in
    let own = c.in_ok-own.own.items in
    let whole = c.in_ok-whole.whole.items in
    let events = c.in_ok-kept.kept.events.items in
    let size : c.len-2.result ≡ length own = omega (arith, c.len-2.ensures, c.in_ok-own.own.ok) in
    let are = subst (λ b. ArePieces b (length own) events) c.as_slice-4.ensures.value
    (subst (λ n. ArePieces c.as_slice-4.result.now n events) size
    (subst (λ e. ArePieces c.as_slice-4.result.now c.len-2.result e) c.as_slice-3.ensures.value
    (c.are_pieces.ensures c.if-not-are_pieces.false))) in
    have_pieces c.args.options.now document urls ending own (c.as_bytes-2.result.now ++ []) whole
    events c.resolved.ensures c.ending.ensures
    (c.in_ok-own.ensures ∙ ap (λ b. b ++ (urls ++ ending)) c.as_bytes.ensures.value)
    (c.in_ok-whole.ensures ∙ ap (λ b. b ++ (c.as_bytes-2.result.now ++ []))
    c.as_slice-2.ensures.value) are
