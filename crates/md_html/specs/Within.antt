-- What is promised of a text within limits, and why there is none.
use Rattle.std.specs.Prelude.{◌≡◌, ◌⊎◌, ◌≤◌, ◌<◌, ◌+◌, ◌*◌, ℕ, List, length, codes}
use Rattle.md_base.specs.declared.event.Event.{Event}
use Rattle.md_base.specs.Tree.{Forest, flatten}
use Rattle.md_text.specs.declared.options.CompileOptions.{CompileOptions}
use Rattle.md_tree.specs.Grammar.{Handed, IsChecked}
use Rattle.md_tree.specs.Names.{message_of}
use Rattle.md_tree.specs.declared.rule.CompileError.{CompileError}
use Rattle.md_meaning.specs.Meaning.{meaning}
use Rattle.md_length.specs.Bound.{text_bound}
use Rattle.md_depth.specs.Depth.{depth}
use Rattle.md_depth.specs.Levels.{NestsWithin}
use Rattle.md_safe.specs.Options.{KeepsGrammar}
use Rattle.md_tree.specs.Refusal.{IsRefusal}
use Rattle.md_html.specs.Promises.{Promises}
use Rattle.md_html.specs.declared.within.Limits.{Limits}
use Rattle.md_html.specs.Work.{work}
use Rattle.md_html.specs.Reuse.{reuse}
use Rattle.md_html.specs.declared.within.WithinError.{WithinError}
use Rattle.md_html.specs.declared.within.WithinError.TheVariants.{TooLong, TooMuch, TooDeep}
use Rattle.md_html.specs.declared.within.WithinError.TheVariants.{Compile}

-- the meaning of a document that the events flatten has more bytes than this
abbrev pub IsLonger : CompileOptions → Handed → ℕ → Type 0
IsLonger options given limit =
    (document : Forest) → flatten document ≡ given.events →
    limit < length (meaning options given.names given.bytes document)

-- a claim if the text is too long
abbrev pub OfTooLong : Type 0 → WithinError → Type 0
OfTooLong claim TooLong = claim
OfTooLong claim TooMuch = Unit {0}
OfTooLong claim TooDeep = Unit {0}
OfTooLong claim (Compile cause) = Unit {0}

-- the reuse of the document that the events flatten doesn't exceed this
abbrev pub IsReuseWithin : CompileOptions → Handed → ℕ → Type 0
IsReuseWithin options given limit =
    (document : Forest) → flatten document ≡ given.events →
    reuse options given.bytes document ≤ limit

-- the work exceeds this, or the events are a document of the grammar whose reuse does
abbrev pub IsOver : CompileOptions → Handed → ℕ → Type 0
IsOver options given limit =
    (limit < work given.events)
    ⊎ (IsChecked given × ((document : Forest) → flatten document ≡ given.events →
    limit < reuse options given.bytes document))

-- `TooDeep` means that the events nest deeper than this, and each other error that they don't
abbrev pub IsTooDeepFor : List Event → ℕ → WithinError → Type 0
IsTooDeepFor events limit TooDeep = limit < depth events
IsTooDeepFor events limit TooMuch = depth events ≤ limit
IsTooDeepFor events limit TooLong = depth events ≤ limit
IsTooDeepFor events limit (Compile cause) = depth events ≤ limit

-- `TooMuch` means that one of the two exceeds this; `TooLong` that neither does; a refusal of the
-- compiler that the first doesn't; `TooDeep` says nothing about them
abbrev pub IsTooMuchFor : CompileOptions → Handed → ℕ → WithinError → Type 0
IsTooMuchFor options given limit TooMuch = IsOver options given limit
IsTooMuchFor options given limit TooDeep = Unit {0}
IsTooMuchFor options given limit TooLong =
    (work given.events ≤ limit) × IsReuseWithin options given limit
IsTooMuchFor options given limit (Compile cause) = work given.events ≤ limit

-- a claim about the refusal of a compiler, if it is the error
abbrev pub OfWithin : (CompileError → Type 0) → WithinError → Type 0
OfWithin claim TooLong = Unit {0}
OfWithin claim TooMuch = Unit {0}
OfWithin claim TooDeep = Unit {0}
OfWithin claim (Compile cause) = claim cause

-- what is promised of a text within limits
pub record WithinPromises (options : CompileOptions) (given : Handed) (limits : Limits)
    (text : List ℕ) : Type 0 where
  pub within : length text ≤ limits.text
  pub work : work given.events ≤ limits.work
  pub depth : depth given.events ≤ limits.depth
  pub nesting : KeepsGrammar options → NestsWithin (2 * limits.depth + 5) text
  pub reuse : IsReuseWithin options given limits.work
  pub bounded : length text
      ≤ text_bound options given.names (length given.events) (2 * limits.work)
  pub promises : Promises options given text

-- what is promised where there is no text within limits
pub record WithinRefusal (options : CompileOptions) (given : Handed) (limits : Limits)
    (why : WithinError) : Type 0 where
  pub too_deep : IsTooDeepFor given.events limits.depth why
  pub too_much : IsTooMuchFor options given limits.work why
  pub too_long : OfTooLong (IsLonger options given limits.text) why
  pub long_grammatical : OfTooLong (IsChecked given) why
  pub refused : OfWithin (IsRefusal given) why

-- the line that an error prints
abbrev pub within_line : WithinError → List ℕ
within_line TooLong = codes "text too long"
within_line TooMuch = codes "too much work"
within_line TooDeep = codes "nested too deep"
within_line (Compile cause) = message_of cause
