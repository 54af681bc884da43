-- A text that may be inserted into a page, and why there is none.
use Rattle.std.specs.Prelude.{ℕ, List, codes}
use Rattle.md_text.specs.Html.{HasOneReadingWith}
use Rattle.md_text.specs.Safe.{is_safe_link, is_safe_image}
use Rattle.md_tree.specs.declared.rule.CompileError.{CompileError}
use Rattle.md_tree.specs.Names.{message_of}
use Rattle.md_text.specs.declared.options.CompileOptions.{CompileOptions}
use Rattle.md_safe.specs.Contents.{IsContained}
use Rattle.md_safe.specs.Options.{KeepsImages}
use Rattle.md_html.specs.declared.safe_html.SafeError.{SafeError}
use Rattle.md_html.specs.declared.safe_html.SafeError.TheVariants.{Options, Compile}

-- a text with exactly one reading, in which each link and each image has no protocol or a permitted
-- one, and which fulfils the content model
pub record IsSafe (text : List ℕ) : Type 0 where
  pub safe_links : HasOneReadingWith is_safe_link text
  pub safe_images : HasOneReadingWith is_safe_image text
  pub contained : IsContained text

-- options are refused exactly if they aren't safe
abbrev pub IsRefusedFor : CompileOptions → SafeError → Type 0
IsRefusedFor options Options = KeepsImages options → ⊥
IsRefusedFor options (Compile cause) = KeepsImages options

-- a claim about the refusal of a compiler, if it is the error
abbrev pub OfCompile : (CompileError → Type 0) → SafeError → Type 0
OfCompile claim Options = Unit {0}
OfCompile claim (Compile cause) = claim cause

-- the line that an error prints
abbrev pub line_of : SafeError → List ℕ
line_of Options = codes "unsafe options"
line_of (Compile cause) = message_of cause
