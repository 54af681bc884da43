-- Nothing is read at first, each read adds its bytes, and one that gives none, with room for some,
-- has met the end. By itself the search can't join what was read by several reads.
use Rattle.std.proofs.Common.{◌≡◌, ◌++◌, take, append-nil, sym, ap, ◌∙◌, subst, rules}
use Rattle.std.proofs.lemmas.List.{places}
use Rattle.std.specs.Io.KnownBytes.{Consumes}
use Rattle.std.proofs.KnownBytes.{Consumes-nil, Consumes-trans}
use Rattle.md_script.proofs.serving.read_input.Goals as goal

pub loop-init : goal.loop-init
loop-init g c =
    (subst (Consumes _ _) (sym c.new-input.ensures.items) (Consumes-nil _), c.in_ok-buffer.ensures)

pub returns-then-count-eq0-clause-ok : goal.returns-then-count-eq0-clause-ok
returns-then-count-eq0-clause-ok g c =
    let left = g.R.Read.remaining in
    let room = c.read.new.buf in
    let none : c.in-Ok.count ≡ 0 = search rules in
    let more = c.in-Ok.ensures.bytes in
    let all = Consumes-trans _ _ _ _ _ c.loop.invariant.0 more.0 in (
      subst (Consumes (left c.args.reader.now) (left c.read.new.self))
          (ap (λ n. c.loop.input.items ++ take n room) none ∙ append-nil _) all,
      more.1 none (search (rules, places)),
    )

pub loop-preserved : goal.loop-preserved
loop-preserved g c =
    let room = c.read.new.buf in
    let same : c.deref.result.now ≡ room = search (rules, places) in
    let more = c.in-Ok.ensures.bytes in
    let all = Consumes-trans _ _ _ _ _ c.loop.invariant.0 more.0 in (
      subst (Consumes _ _) (sym (c.in_ok-extend_from_slice.ensures.items
          ∙ ap (λ bs. c.loop.input.items ++ take c.in-Ok.count bs) same)) all,
      search (rules, places),
    )
