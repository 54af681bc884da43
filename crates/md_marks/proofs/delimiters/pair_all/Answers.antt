-- One more run is read.
use Rattle.std.proofs.Common.{arith, ◌≡◌, ◌<◌, ◌+◌, ◌∷◌, ◌∙◌, ap, ap₂, sym, drop, length, reverse}
use Rattle.std.proofs.lemmas.List.{drop_more}
use Rattle.md_marks.specs.Pairs.{openers_after, pairs_after, run_closed, with_pairs}
use Rattle.md_marks.proofs.PairLemmas.{pairs-joined}
use Rattle.md_marks.proofs.delimiters.pair_all.Goals as goal

pub runs-preserved : goal.runs-preserved
runs-preserved c =
    let runs = c.args.list.now.items in
    let at = c.runs.at in
    let run = c.index.result.now in
    let rest = drop (at + 1) runs in
    let before = reverse c.runs.openers.items in
    let tokens = c.runs.tokens.items in
    let done = run_closed before run in
    let within : at < length runs =
    omega (arith, c.len.ensures, c.runs-test.true, c.args.list.now.ok) in
    let is : drop at runs ≡ run ∷ rest =
    drop_more runs at run within ∙ ap (λ r. r ∷ rest) (sym c.index.ensures) in
    record {
      same = ap₂ (λ openers t. with_pairs (pairs_after openers rest) t)
          c.in_ok-read_run.ensures.openers c.in_ok-read_run.ensures.tokens
          ∙ sym (pairs-joined done.pairs (pairs_after (openers_after done) rest) tokens)
          ∙ ap (λ l. with_pairs (pairs_after before l) tokens) (sym is) ∙ c.runs.invariant.same;
      opens = c.in_ok-read_run.ensures.open;
      bottoms = c.in_ok-read_run.ensures.bottoms;
    }
