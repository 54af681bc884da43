-- The compiler's results within limits as those of `run_within`.
use Rattle.std.proofs.Common.{arith}
use Rattle.std.proofs.Common.{ℕ, List}
use Rattle.md_base.specs.declared.event.Event.{Event}
use Rattle.md_html.specs.Within.{WithinRefusal}
use Rattle.md_html.specs.declared.within.Limits.{Limits}
use Rattle.md_html.specs.declared.within.WithinError.{WithinError}
use Rattle.md_html.specs.declared.within.WithinError.TheVariants as within
use Rattle.md_text.specs.declared.options.CompileOptions.{CompileOptions}
use Rattle.md_script.specs.Run.{document_of}
use Rattle.md_script.specs.Within.{run_within_error_of, ExplainsEventsWithin}
use Rattle.md_script.proofs.RunLemmas.{refused}

pub refused_within : (events : List Event) (bytes : List ℕ) (options : CompileOptions)
    (limits : Limits) (why : WithinError) →
    WithinRefusal options (document_of events bytes) limits why →
    ExplainsEventsWithin events bytes options limits (run_within_error_of why)
refused_within events bytes options limits within.TooLong says = grind arith
refused_within events bytes options limits within.TooMuch says = (says.too_deep, says.too_much)
refused_within events bytes options limits within.TooDeep says = says.too_deep
refused_within events bytes options limits (within.Compile cause) says =
    (says.too_deep, says.too_much, refused events bytes cause says.refused)
