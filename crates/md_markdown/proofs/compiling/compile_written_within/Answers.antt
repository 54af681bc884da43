-- A text over the parsed bytes is that of the document.
use Rattle.std.proofs.Common.{◌++◌, [], inl, refl, sym, ap, ◌∙◌, option_map, string_bytes}
use Rattle.std.proofs.lemmas.List.{append-nil}
use Rattle.std.proofs.lemmas.Result.{IfOk-weaker}
use Rattle.md_markdown.proofs.MadeLemmas.{none, of_either}
use Rattle.md_markdown.proofs.compiling.compile_written_within.Goals as goal

pub returns-then-not-writer-clause-made : goal.returns-then-not-writer-clause-made
returns-then-not-writer-clause-made c =
    IfOk-weaker c.compile_or_plain_within.result _ _
    (λ text made. of_either c.args.options.now c.args.text.now c.measured_of.result.bytes.now
    text [] [] (none (option_map string_bytes c.args.options.now.base)) (inl refl)
    (c.measured_of.ensures.bytes ∙ c.as_bytes-bytes.ensures.value
    ∙ sym (append-nil c.args.text.now))
    (made c.args.options.now c.in_ok-compile_options.ensures.chosen))
    c.compile_or_plain_within.ensures.made

pub returns-then-not-writer-clause-distinct_ids : goal.returns-then-not-writer-clause-distinct_ids
returns-then-not-writer-clause-distinct_ids c =
    IfOk-weaker c.compile_or_plain_within.result _ _
    (λ text distinct asked. distinct (c.in_ok-compile_options.ensures.chosen.number_ids ∙ asked))
    c.compile_or_plain_within.ensures.distinct_ids

pub returns-clause-made : goal.returns-clause-made
returns-clause-made c =
    IfOk-weaker c.compile_or_plain_within-2.result _ _
    (λ text made. of_either c.args.options.now c.args.text.now c.measured_of-2.result.bytes.now
    text c.resolved.result.now c.ending.result.now c.resolved.ensures c.ending.ensures
    (c.measured_of-2.ensures.bytes ∙ c.as_slice.ensures.value ∙ c.in_ok-whole.ensures
    ∙ ap (λ bytes. bytes ++ (c.resolved.result.now ++ c.ending.result.now))
    c.as_bytes-bytes.ensures.value)
    (made c.args.options.now c.in_ok-compile_options.ensures.chosen))
    c.compile_or_plain_within-2.ensures.made

pub returns-clause-distinct_ids : goal.returns-clause-distinct_ids
returns-clause-distinct_ids c =
    IfOk-weaker c.compile_or_plain_within-2.result _ _
    (λ text distinct asked. distinct (c.in_ok-compile_options.ensures.chosen.number_ids ∙ asked))
    c.compile_or_plain_within-2.ensures.distinct_ids
