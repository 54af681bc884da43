-- The event ends the next piece, or no piece.
use Rattle.std.proofs.Common.{◌∙◌, sym, arith}
use Rattle.md_kept.proofs.PieceLemmas.{other, entered, exited}
use Rattle.md_kept.proofs.pieces.past_event.Goals as goal

pub returns-then-not-is_html_data : goal.returns-then-not-is_html_data
returns-then-not-is_html_data c = λ rest are.
    other c.args.bytes.now c.args.at c.args.event.now rest
    (sym c.is_html_data.ensures ∙ c.if-not-is_html_data.true) are

pub returns-then-index-at-2 : goal.returns-then-index-at-2
returns-then-index-at-2 c = λ rest are.
    entered c.args.bytes.now c.args.at c.args.event.now rest
    (sym c.is_html_data.ensures ∙ c.if-not-is_html_data.false) c.in-Enter.is
    (omega (arith, c.if-event-ne0.false)) (omega (arith, c.if-index-at-2.true)) are

pub returns-then-is_piece : goal.returns-then-is_piece
returns-then-is_piece c = λ rest are.
    exited c.args.bytes.now c.args.at c.args.event.now rest
    (sym c.is_html_data.ensures ∙ c.if-not-is_html_data.false) c.in-Exit.is
    (omega (arith, c.if-event-ne0.false)) (omega (arith, c.if-index-at.false))
    (c.is_piece.ensures c.if-is_piece.true) are
