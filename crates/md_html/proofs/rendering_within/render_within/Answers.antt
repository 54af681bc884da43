-- The text of the events, with the targets of the document's definitions, is the meaning of the
-- document.
use Rattle.std.proofs.Common.{string_bytes, refl, ◌∙◌}
use Rattle.std.proofs.lemmas.Option.{IfSome_then}
use Rattle.std.proofs.lemmas.Result.{IfOk-weaker}
use Rattle.md_html.proofs.Supplying.{alone-supplied, supplied, printed-meant, over-longer}
use Rattle.md_html.proofs.rendering_within.render_within.Goals as goal

pub targets-requires : goal.targets-requires
targets-requires c =
    record { supplied = (_, alone-supplied _ refl) }

pub print_within-requires : goal.print_within-requires
print_within-requires c =
    record {
      supplied = supplied _ (λ document flat.
          c.as_slice.ensures.value ∙ c.in_ok-definitions.ensures _ document
          (alone-supplied _ refl) flat)
          c.ending_of-ending.ensures.grammatical;
    }

pub returns : goal.returns
returns c =
    IfOk-weaker c.print_within.result _ _ (λ answer printed. record {
      text = IfSome_then answer printed.text (λ text is. printed-meant _ (λ document flat. c.as_slice.ensures.value
          ∙ c.in_ok-definitions.ensures _ document (alone-supplied _ refl)
          flat)
          c.ending_of-ending.ensures.grammatical c.ending_of-ending.ensures.ending
          c.steps_print_what_is_meant.ensures (string_bytes text) is);
      within = printed.within;
      too_long = λ none. over-longer _ (λ document flat. c.as_slice.ensures.value
          ∙ c.in_ok-definitions.ensures _ document (alone-supplied _ refl)
          flat)
          c.ending_of-ending.ensures.grammatical c.ending_of-ending.ensures.ending
          c.steps_print_what_is_meant.ensures c.args.limit (printed.too_long none);
    }) c.print_within.ensures
