-- The text of the events, with the targets of the document's definitions, is the meaning of the
-- document.
use Rattle.std.proofs.Common.{string_bytes, refl, ◌∙◌}
use Rattle.std.proofs.lemmas.Result.{IfOk-weaker}
use Rattle.md_html.proofs.Supplying.{alone-supplied, supplied, printed-meant}
use Rattle.md_html.proofs.rendering.render.Goals as goal

pub targets-requires : goal.targets-requires
targets-requires c =
    record { supplied = (_, alone-supplied _ refl) }

pub print-requires : goal.print-requires
print-requires c =
    record {
      supplied = supplied _ (λ document flat.
          c.as_slice.ensures.value ∙ c.in_ok-definitions.ensures _ document
          (alone-supplied _ refl) flat)
          c.ending_of-ending.ensures.grammatical;
    }

pub returns : goal.returns
returns c =
    record {
      meaning = IfOk-weaker c.print.result _ _ (λ text printed. printed-meant _ (λ document flat. c.as_slice.ensures.value
          ∙ c.in_ok-definitions.ensures _ document (alone-supplied _ refl)
          flat)
          c.ending_of-ending.ensures.grammatical c.ending_of-ending.ensures.ending
          c.steps_print_what_is_meant.ensures (string_bytes text) printed) c.print.ensures;
    }
