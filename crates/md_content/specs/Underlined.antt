-- The positions of headings' underlines, which follow their texts. Only proofs use it: each
-- document of the grammar fulfils it.
use Rattle.std.specs.Prelude.{◌≡◌, Bool, true, false, if◌then◌else◌, []}
use Rattle.md_base.specs.declared.event.Name.{Name}
use Rattle.md_base.specs.declared.event.Name.TheVariants.{LineEnding, HeadingSetextText}
use Rattle.md_base.specs.declared.event.Name.TheVariants.{HeadingSetextUnderlineSequence}
use Rattle.md_base.specs.Tree.{Forest, Empty, Node}
use Rattle.md_base.specs.NameTests.{is_transparent}
use Rattle.md_base.specs.Children.{spine_names}

-- an underline
abbrev pub is_underline : Name → Bool
is_underline name = elim name [ HeadingSetextUnderlineSequence ↦ true | _ ↦ false ]

-- a heading waits for its underline after a name that isn't transparent
abbrev pub waits_past : Bool → Name → Bool
waits_past waits name = elim name [ HeadingSetextText ↦ true | LineEnding ↦ waits | _ ↦ false ]

-- the same after some nodes
abbrev pub waits_after : Bool → Forest → Bool
waits_after waits Empty = waits
waits_after waits (Node name start end children rest) =
    waits_after (if is_transparent name then waits_after waits children else waits_past waits name)
    rest

-- an underline occurs only where a heading waits for it, and contains only transparent nodes
abbrev pub IsUnderlined : Bool → Forest → Type 0
IsUnderlined waits Empty = Unit {0}
IsUnderlined waits (Node name start end children rest) =
    (is_underline name ≡ true → (waits ≡ true) × (spine_names children ≡ []))
    × IsUnderlined (if is_transparent name then waits else false) children
    × IsUnderlined (if is_transparent name then waits_after waits children
    else waits_past waits name) rest
