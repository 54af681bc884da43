-- The compiler's results as those of `run`.
use Rattle.std.proofs.Common.{◌≡◌, ℕ, List, Result, Ok, Err, IfErr, sym, subst}
use Rattle.std.specs.Prelude.{IsErrAnd}
use Rattle.md_base.specs.declared.event.Event.{Event}
use Rattle.md_tree.specs.declared.rule.CompileError.{CompileError}
use Rattle.md_tree.specs.declared.rule.CompileError.TheVariants as refusal
use Rattle.md_tree.specs.Refusal.{IsRefusal}
use Rattle.md_html.specs.Safe.{IsRefusedFor, OfCompile}
use Rattle.md_html.specs.declared.safe_html.SafeError.{SafeError}
use Rattle.md_html.specs.declared.safe_html.SafeError.TheVariants as safe
use Rattle.md_text.specs.declared.options.CompileOptions.{CompileOptions}
use Rattle.md_script.specs.Error.{run_error_of}
use Rattle.md_script.specs.Run.{document_of, ExplainsEvents}
use Rattle.md_script.specs.SafeRun.{ExplainsSafeEvents, safe_run_error_of}

pub refused : (events : List Event) (bytes : List ℕ) (why : CompileError) →
    IsRefusal (document_of events bytes) why →
    ExplainsEvents events bytes (run_error_of why)
refused events bytes refusal.Memory h = tt
refused events bytes (refusal.Event index rule) h = h

-- what the conversion of an error gives, for the events that were given
pub told : {T E W : Type 0} (explains : List Event → E → Type 0) (of : W → E) (r : Result T E)
    (why : W) (given events : List Event) → given ≡ events → IsErrAnd r (λ made. made ≡ of why) →
    explains given (of why) → IfErr r (explains events)
told explains of (Ok x) why given events same h held = tt
told explains of (Err made) why given events same h held =
    subst (λ es. explains es made) same (subst (explains given) (sym h) held)

pub refused_safely :
    (events : List Event) (bytes : List ℕ) (options : CompileOptions) (why : SafeError) →
    IsRefusedFor options why → OfCompile (IsRefusal (document_of events bytes)) why →
    ExplainsSafeEvents events bytes options (safe_run_error_of why)
refused_safely events bytes options safe.Options unsafe refusal = unsafe
refused_safely events bytes options (safe.Compile cause) keeps refusal =
    (keeps, refused events bytes cause refusal)
