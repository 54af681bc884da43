-- The nodes of strings print escaped texts.
use Rattle.std.proofs.Common.{arith, ◌≡◌, ℕ, Bool, true, false, not, ◌&&◌, cond, List, [], ◌∷◌}
use Rattle.std.proofs.Common.{refl}
use Rattle.std.proofs.lemmas.Bool.{cond_both, and_from}
use Rattle.md_base.specs.declared.event.Name.{Name}
use Rattle.md_base.specs.declared.event.Name.TheVariants as name_variants
use name_variants.{LineEnding, CharacterReferenceMarker, CharacterReferenceMarkerNumeric}
use name_variants.{CharacterReferenceMarkerHexadecimal, CharacterReferenceValue}
use Rattle.md_text.specs.Encode.{encoded}
use Rattle.md_text.specs.Laws.{is_line_ends}
use Rattle.md_meaning.specs.Meaning.At.{At, text_in}
use Rattle.md_meaning.specs.Meaning.Layout.{Piece, said}
use Rattle.md_meaning.specs.Meaning.Means.{prints}
use Rattle.md_meaning.specs.Meaning.Spans.{escaped, is_dropped, line_ending}
use Rattle.md_content.specs.Built.{Content, is_string}
use Rattle.md_safe.proofs.Spot.{NodeAdds, Setting, IsFitAt, Here, Prints, IsNarrow, encoded-escaped}
use Rattle.md_safe.proofs.Texts.{Escaped, line_ends-escaped}
use Rattle.md_safe.proofs.Laid.{adds-text, adds-nothing, adds-weaker}

-- marks print their content
abbrev is_mark : Name → Bool
is_mark name = elim name [
  | CharacterReferenceMarker ↦ true
  | CharacterReferenceMarkerNumeric ↦ true
  | CharacterReferenceMarkerHexadecimal ↦ true
  | _ ↦ false
]

-- any other string has a text of its own
abbrev pub is_text : Name → Bool
is_text name = is_string name && not (is_mark name)

-- mostly its bytes
abbrev is_data : Name → Bool
is_data name =
    is_text name && elim name [ LineEnding ↦ false | CharacterReferenceValue ↦ false | _ ↦ true ]

-- a text, encoded if that is required
data-node : (s : Setting) (t : At) (holds : List ℕ → Type 0) → IsNarrow t.around.is_escaping holds →
    (x : List ℕ) → Prints s holds (escaped t x)
data-node s t holds n x = adds-text (n (encoded t.around.is_escaping x) (encoded-escaped _ x))

-- a line ending
pub line_ending-escaped : (s : Setting) (t : At) → is_line_ends (text_in s.context.bytes t.place)
    ≡ true → Prints s Escaped (line_ending s.context t)
line_ending-escaped s t h =
    let x : List ℕ = text_in s.context.bytes t.place in
    cond_both t.around.in_code (said (32 ∷ [])) (cond (is_dropped t) [] (said x)) (Prints s Escaped)
    (λ _. adds-text refl) (λ _. cond_both (is_dropped t) [] (said x) (Prints s Escaped)
    (λ _. adds-nothing refl) (λ _. adds-text (line_ends-escaped x h)))

other-node : (s : Setting) (t : At) (holds : List ℕ → Type 0) (name : Name) →
    IsNarrow t.around.is_escaping holds → is_text name && not (is_data name) ≡ true →
    IsFitAt s t name → (inner : List Piece) → Prints s holds (prints s.context t name inner)
other-node s t holds LineEnding n is fit inner = adds-weaker (λ x h. n x (λ _. h))
    (line_ending-escaped s t fit)
other-node s t holds name n is fit inner = grind (arith, data-node)

pub text-node : (s : Setting) (t : At) (holds : List ℕ → Type 0) (name : Name) →
    IsNarrow t.around.is_escaping holds → is_text name ≡ true → IsFitAt s t name →
    (inner : List Piece) → Prints s holds (prints s.context t name inner)
text-node s t holds name n is fit inner = grind (arith, data-node, other-node, and_from)

pub string-node : (s : Setting) (t : At) (content : Content) (name : Name) →
    IsNarrow t.around.is_escaping (Here s t content) → is_string name ≡ true → IsFitAt s t name →
    NodeAdds s t content name
string-node s t content name n is fit inner a = grind (arith, text-node, and_from)
