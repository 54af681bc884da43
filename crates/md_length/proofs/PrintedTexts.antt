-- How long the texts and the tags are that nodes print, by what they read.
use Rattle.std.proofs.Common.{ℕ, ◌+◌, ◌*◌, ◌≤◌, Bool, List, [], ◌∷◌, ◌++◌, length, arith, codes}
use Rattle.std.proofs.Common.{lit≤, Option, Some, None}
use Rattle.std.specs.Option.{option_map_or}
use Rattle.std.specs.List.{flat_map}
use Rattle.std.specs.Fmt.{decimal}
use Rattle.std.proofs.lemmas.Fmt.{length-decimal-le}
use Rattle.std.proofs.lemmas.List.{length-drop, length-take}
use Rattle.md_base.specs.declared.event.AlignKind.{AlignKind}
use Rattle.md_base.specs.declared.event.Position.{Position}
use Rattle.md_text.specs.declared.options.CompileOptions.{CompileOptions}
use Rattle.md_meaning.specs.Meaning.At.{Target, Context, At, text_in}
use Rattle.md_meaning.specs.Meaning.Blocks.{without_zeros, underline_rank}
use Rattle.md_meaning.specs.Meaning.Media.{title_attribute, anchor, picture, autolink}
use Rattle.md_meaning.specs.Meaning.Spans.{escaped, reference, line_ending, html, code}
use Rattle.md_meaning.specs.Meaning.Spans.{without_escapes}
use Rattle.md_meaning.specs.Meaning.Tables.{cell_of}
use Rattle.md_length.specs.Longest.{longest}
use Rattle.md_length.specs.Costs.{span}
use Rattle.md_length.specs.Uses.{weight}
use Rattle.md_length.proofs.Pieces.{size, sizes}
use Rattle.md_length.proofs.Places.{text-short, decoded-short}
use Rattle.md_length.proofs.Texts.{encoded-short, filtered-short, sanitized-short}

-- ---- texts
pub escaped-short : (context : Context) (at : At) →
    size (escaped at (text_in context.bytes at.place))
    ≤ 6 + 6 * span at.place.start at.place.end
escaped-short context at = grind (arith, encoded-short, text-short)

pub line_ending-short : (context : Context) (at : At) →
    size (line_ending context at) ≤ 1 + span at.place.start at.place.end
line_ending-short context at = omega (sizes, text-short)

pub raw-short : (context : Context) (at : At) →
    size (escaped at (html context at)) ≤ 24 + 24 * span at.place.start at.place.end
raw-short context at = grind (arith, encoded-short, filtered-short, text-short)

pub reference-short : (context : Context) (at : At) →
    size (escaped at (reference context at)) ≤ 24 + 6 * longest context.names
reference-short context at = grind (arith, encoded-short, decoded-short)

-- ---- targets
title-short : (title : Option (List ℕ)) →
    size (title_attribute title) ≤ 9 + option_map_or (λ text. length text) title 0
title-short title = grind arith

pub anchor-short : (options : CompileOptions) (target : Target) (label : List ℕ) →
    size (anchor options target label) ≤ 32 + weight target + length label
anchor-short options target label =
    omega (sizes, sanitized-short target.destination, title-short target.title)

pub picture-short : (options : CompileOptions) (target : Target) (label : List ℕ) →
    size (picture options target label) ≤ 32 + weight target + length label
picture-short options target label =
    omega (sizes, sanitized-short target.destination, title-short target.title)

-- an autolink links to its text with a prefix of at most seven bytes
pub autolink-short : (context : Context) (at : At) (plain : Bool) (prefix : List ℕ) →
    length prefix ≤ 7 →
    size (autolink context at plain prefix) ≤ 86 + 12 * span at.place.start at.place.end
autolink-short context at plain prefix few =
    let text = text_in context.bytes at.place in
    let target : Target = record { destination = prefix ++ text; title = None } in
    omega (sizes, anchor-short context.options target, encoded-short, text-short)

-- ---- blocks
pub zeros-short : (digits : List ℕ) → length (without_zeros digits) ≤ length digits
zeros-short [] = omega arith
zeros-short (digit ∷ digits) = omega (sizes, zeros-short digits)

-- a list's number, or 1
pub number-short : (bytes : List ℕ) (found : Option Position) →
    length (without_zeros (option_map_or (text_in bytes) found (codes "1")))
    ≤ 1 + option_map_or (λ place. length (text_in bytes place)) found 0
number-short bytes found = grind (arith, zeros-short)

pub rank-one : (context : Context) (at : At) → length (decimal (underline_rank context at)) ≤ 1
rank-one context at = grind (arith, length-decimal-le)

-- ---- code
unescaped-short : (text : List ℕ) → length (without_escapes text) ≤ length text
unescaped-short [] = omega arith
unescaped-short (byte ∷ bytes) = omega (sizes, unescaped-short bytes)

pub code-short : (at : At) (tag text : List ℕ) →
    size (code at tag text) ≤ length tag + length text + 7
code-short at tag text = grind (sizes, length-take, length-drop, unescaped-short)

-- ---- cells
pub cell-short : (in_head : Bool) (text : List ℕ) (found : Option AlignKind) →
    size (option_map_or (λ kind. cell_of in_head text kind) found []) ≤ 32 + length text
cell-short in_head text found = grind arith

pub filled-short : (in_head : Bool) (columns : List AlignKind) →
    size (flat_map (cell_of in_head []) columns) ≤ 32 * length columns
filled-short in_head [] = lit≤ tt
filled-short in_head (kind ∷ columns) =
    omega (sizes, cell-short in_head [] (Some kind), filled-short in_head columns)
