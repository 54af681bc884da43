-- Why there is no safe text within limits.
use Rattle.std.specs.Prelude.{ℕ, List, codes}
use Rattle.md_text.specs.declared.options.CompileOptions.{CompileOptions}
use Rattle.md_safe.specs.Options.{KeepsImages}
use Rattle.md_html.specs.Within.{within_line}
use Rattle.md_html.specs.declared.within.WithinError.{WithinError}
use Rattle.md_html.specs.declared.within.SafeWithinError.{SafeWithinError}
use Rattle.md_html.specs.declared.within.SafeWithinError.TheVariants.{Options, Within}

-- options are refused exactly if they aren't safe
abbrev pub IsUnsafeFor : CompileOptions → SafeWithinError → Type 0
IsUnsafeFor options Options = KeepsImages options → ⊥
IsUnsafeFor options (Within cause) = KeepsImages options

-- a claim about why there is no text within limits, if that is the error
abbrev pub OfLimits : (WithinError → Type 0) → SafeWithinError → Type 0
OfLimits claim Options = Unit {0}
OfLimits claim (Within cause) = claim cause

-- the line that an error prints
abbrev pub safe_within_line : SafeWithinError → List ℕ
safe_within_line Options = codes "unsafe options"
safe_within_line (Within cause) = within_line cause
