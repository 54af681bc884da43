-- Why there is no safe text of a document in which no link contains a link.
use Rattle.std.specs.Prelude.{◌≡◌, ℕ, true, false, List, codes}
use Rattle.md_base.specs.declared.event.Event.{Event}
use Rattle.md_base.specs.Tree.{Forest, flatten}
use Rattle.md_safe.specs.Links.{has_nested_link}
use Rattle.md_html.specs.Safe.{line_of}
use Rattle.md_html.specs.declared.safe_html.SafeError.{SafeError}
use Rattle.md_html.specs.declared.unnested.UnnestedError.{UnnestedError}
use Rattle.md_html.specs.declared.unnested.UnnestedError.TheVariants.{Nested, Safe}

-- a link contains a link in a document that the events flatten
abbrev pub AreNested : List Event → Type 0
AreNested events =
    (document : Forest) → flatten document ≡ events → has_nested_link false document ≡ true

-- in none of these documents does a link contain a link
abbrev pub AreUnnested : List Event → Type 0
AreUnnested events =
    (document : Forest) → flatten document ≡ events → has_nested_link false document ≡ false

-- a claim about why there is no safe text, if that is the error
abbrev pub OfSafe : (SafeError → Type 0) → UnnestedError → Type 0
OfSafe claim Nested = Unit {0}
OfSafe claim (Safe cause) = claim cause

-- a claim if a link contains a link
abbrev pub OfNested : Type 0 → UnnestedError → Type 0
OfNested claim Nested = claim
OfNested claim (Safe cause) = Unit {0}

-- the line that an error prints
abbrev pub unnested_line : UnnestedError → List ℕ
unnested_line Nested = codes "a link in a link"
unnested_line (Safe cause) = line_of cause
