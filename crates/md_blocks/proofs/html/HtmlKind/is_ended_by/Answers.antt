-- What ends the block begins with its first byte.
use Rattle.std.proofs.Common.{◌<◌, ◌+◌, ◌-◌, ◌∙◌, length, drop, sym, arith}
use Rattle.std.proofs.lemmas.List.{length-take, length-drop}
use Rattle.md_blocks.proofs.Somewhere.{ends_there, goes_on, missing, no_end}
use Rattle.md_blocks.proofs.html.HtmlKind.is_ended_by.Goals as goal

pub returns-in_default : goal.returns-in_default
returns-in_default c = sym (no_end c.args.self c.args.line.now (sym c.in_default.ensures))

pub overflow_add-rest : goal.overflow_add-rest
overflow_add-rest c =
    let within : c.in-Some-memchr.at < length c.loop-at.rest.now =
    c.in-Some-memchr.ensures.0.high in
    omega (arith, within, c.loop-at.invariant.0)

pub returns-then-is_end : goal.returns-then-is_end
returns-then-is_end c =
    ends_there c.args.self c.in-Some.first c.in-Some-memchr.at c.args.line.now
    c.loop-at.rest.now c.in-Some.ensures c.in-Some-memchr.ensures c.loop-at.invariant.1
    c.if-is_end.ensures

pub returns : goal.returns
returns c =
    sym (c.loop-at.invariant.1
    ∙ missing c.args.self c.in-Some.first c.loop-at.rest.now (sym c.in-Some.ensures)
    c.in_default-memchr.ensures)

pub loop-at-preserved : goal.loop-at-preserved
loop-at-preserved c =
    let at = c.in-Some-memchr.at in
    let rest = c.loop-at.rest.now in (
      omega (
        arith,
        c.loop-at.invariant.0,
        length-take (length rest - (at + 1)) (drop (at + 1) rest),
        length-drop (at + 1) rest,
      ),
      goes_on c.args.self c.in-Some.first at c.args.line.now rest c.in-Some.ensures
          c.in-Some-memchr.ensures c.loop-at.invariant.1 c.if-is_end.ensures,
    )
