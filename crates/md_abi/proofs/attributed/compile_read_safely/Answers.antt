-- What is promised of a safe text, and of why there is none.
use Rattle.md_tree.specs.Grammar.{handed}
use Rattle.md_abi.specs.Refusals.{refusal_of, IsRefusalFor}
use Rattle.md_abi.proofs.AttributedLemmas.{reads_once, safe_fault_of}
use Rattle.md_abi.proofs.GivenLemmas.{reported}
use Rattle.md_abi.proofs.attributed.compile_read_safely.Goals as goal

pub returns-clause-ok : goal.returns-clause-ok
returns-clause-ok c =
    let made = c.in_ok-html.ensures.promises in
    record {
      grammatical = made.grammatical;
      meaning = made.meaning;
      one_reading = λ _. reads_once c.in_ok-html.html made.tokens.as_read;
      printed = λ _. made.printed;
      safe_links = λ _. c.as_str-text.ensures.safe.safe_links;
      safe_images = λ _. c.as_str-text.ensures.safe.safe_images;
      contained = λ _. made.contained;
      tree = λ document flat unnested _. made.tree document flat unnested;
      tokenized = λ _. made.tokens.as_read;
      safe_link_tokens = λ _. made.tokens.safe_links;
      safe_image_tokens = λ _. made.tokens.safe_images;
      distinct_ids = λ keeps. made.distinct_ids keeps.by_number;
    }

pub returns-in_err-html-clause-err : goal.returns-in_err-html-clause-err
returns-in_err-html-clause-err c =
    let why = c.in_err-html.ensures in
    let given = handed c.args.events.now c.args.bytes.now c.args.names.now in
    reported (IsRefusalFor given c.args.options.now) refusal_of c.in_err-html.field-0.0
    c.from_residual.result (safe_fault_of given c.args.options.now c.in_err-html.field-0.0
    why.options why.refused) c.from_residual.ensures.1
