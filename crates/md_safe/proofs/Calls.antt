-- Calls and the ways back to them have readings, as they are printed.
use Rattle.std.proofs.Common.{◌≡◌, ℕ, ◌==◌, zero, suc, Bool, true, not, ◌&&◌, cond, List, [], ◌∷◌}
use Rattle.std.proofs.Common.{◌++◌, refl, subst, append_assoc, codes, arith}
use Rattle.std.specs.Prelude.{Option, option_map, string_bytes}
use Rattle.std.specs.Fmt.{decimal}
use Rattle.std.proofs.lemmas.Bool.{cond_both}
use Rattle.md_text.specs.Html.{Attribute, HasReadingWith, is_tag, printed_elements}
use Rattle.md_text.proofs.EncodeLaws.{is_escaped-encoded}
use Rattle.md_text.proofs.EscapedLemmas.{escaped-append, sanitized-escaped}
use Rattle.md_text.proofs.HtmlJoin.{text, join}
use Rattle.md_text.specs.declared.options.CompileOptions.{CompileOptions}
use Rattle.md_meaning.specs.Meaning.Layout.{Piece, Text}
use Rattle.md_meaning.specs.Meaning.Footnotes.{option_or, id_of, call_id, backreference}
use Rattle.md_meaning.specs.Meaning.Footnotes.{backreferences}
use Rattle.md_safe.proofs.Texts.{Escaped, decimal-escaped}
use Rattle.md_safe.proofs.Laid.{Adds}
use Rattle.md_safe.proofs.Tags.{IsTest, attribute, Tagged, adds-flat}

pub label-escaped : (options : CompileOptions) →
    Escaped (option_or (option_map string_bytes options.gfm_footnote_label) (codes "Footnotes"))
label-escaped options = grind (arith, is_escaped-encoded)

-- the required prefix of ids, and their prefix
abbrev pub prefix_given : CompileOptions → Option (List ℕ)
prefix_given options = option_map string_bytes options.gfm_footnote_clobber_prefix

abbrev pub id_prefix : CompileOptions → List ℕ
id_prefix options = option_or (prefix_given options) (codes "user-content-")

pub id-escaped : (options : CompileOptions) (kind identifier : List ℕ) (number : ℕ) → Escaped kind →
    Escaped (id_of options kind identifier number)
id-escaped options kind identifier number h =
    grind (arith, decimal-escaped, sanitized-escaped, escaped-append, is_escaped-encoded)

pub call_id-escaped : (options : CompileOptions) (identifier : List ℕ) (number occurrence : ℕ) →
    Escaped (call_id options identifier number occurrence)
call_id-escaped options identifier number occurrence =
    let first : Bool = not options.gfm_footnote_number_ids && occurrence == 1 in
    escaped-append (id_of options (codes "fnref-") identifier number) (cond first [] (45 ∷ decimal
    occurrence)) (id-escaped options (codes "fnref-") identifier number refl)
    (grind (arith, cond_both, decimal-escaped))

pub a_call : (v w : List ℕ) → Escaped v → Escaped w →
    is_tag printed_elements (codes "a") (attribute (codes "href") (35 ∷ v)
    ∷ attribute (codes "id") w ∷ attribute (codes "data-footnote-ref") []
    ∷ attribute (codes "aria-describedby") (codes "footnote-label") ∷ []) ≡ true
a_call v w h g = rw (h, g) refl

abbrev pub call_text : List ℕ → List ℕ → List ℕ → List ℕ
call_text v w n =
    codes "<sup><a href=\"#" ++ (v ++ (codes "\" id=\"" ++ (w
    ++ (codes "\" data-footnote-ref=\"\" aria-describedby=\"footnote-label\">"
    ++ (n ++ codes "</a></sup>")))))

call-read : {test : Attribute → Bool} {Q R : List ℕ → Type 0} {options : CompileOptions} →
    IsTest test options → Tagged test Q R (codes "a") → Tagged test R R (codes "sup") →
    (v w n : List ℕ) → Escaped v → test (attribute (codes "id") w) ≡ true → Escaped w → Q n →
    R (call_text v w n)
call-read {test = test} {R = R} known a sup v w n h passes g r =
    let link = known.anchor v in
    let ref = known.other (codes "data-footnote-ref") [] refl in
    let described = known.other (codes "aria-describedby") (codes "footnote-label") refl in
    subst R (simp append_assoc) (sup.tag [] _ refl refl (a.tag (attribute (codes "href") (35 ∷ v) ∷
    attribute (codes "id") w ∷ attribute (codes "data-footnote-ref") [] ∷ attribute (codes
    "aria-describedby") (codes "footnote-label") ∷ []) n (a_call v w h g) (grind arith) r))

-- the tags of a call
abbrev pub call_tags : CompileOptions → List ℕ → ℕ → ℕ → List Piece
call_tags options identifier number occurrence =
    Text (codes "<sup><a href=\"#") ∷ Text (id_of options (codes "fn-") identifier number)
    ∷ Text (codes "\" id=\"") ∷ Text (call_id options identifier number occurrence)
    ∷ Text (codes "\" data-footnote-ref=\"\" aria-describedby=\"footnote-label\">")
    ∷ Text (decimal number) ∷ Text (codes "</a></sup>") ∷ []

-- a call
pub adds-call : {test : Attribute → Bool} {Q R : List ℕ → Type 0} {ending : List ℕ}
    {options : CompileOptions} → IsTest test options → Tagged test Q R (codes "a") →
    Tagged test R R (codes "sup") → ((x : List ℕ) → Escaped x → Q x) →
    (identifier : List ℕ) (number occurrence : ℕ) → test (attribute (codes "id")
    (call_id options identifier number occurrence)) ≡ true → Adds ending
    R (call_tags options identifier number occurrence)
adds-call {options = options} known a sup said identifier number occurrence passes = adds-flat refl
    (call-read known a sup (id_of options (codes "fn-") identifier number)
    (call_id options identifier number occurrence) (decimal number)
    (id-escaped options (codes "fn-") identifier number refl) passes
    (call_id-escaped options identifier number occurrence)
    (said (decimal number) (decimal-escaped number)))

-- which of its footnote's calls it is, from the second on
abbrev pub occurrence_mark : ℕ → List ℕ
occurrence_mark occurrence =
    cond (occurrence == 1) [] (codes "<sup>" ++ (decimal occurrence ++ codes "</sup>"))

abbrev pub arrow : List ℕ
arrow = 226 ∷ 134 ∷ 169 ∷ []

-- what escaped texts fulfil, and two in a row
pub record IsText (Q : List ℕ → Type 0) : Type 0 where
  pub text : (x : List ℕ) → Escaped x → Q x
  pub both : (x y : List ℕ) → Q x → Q y → Q (x ++ y)

-- a way back to a call
backreference-read : {test : Attribute → Bool} {Q R : List ℕ → Type 0} {options : CompileOptions} →
    IsTest test options → IsText Q → Tagged test Q R (codes "a") → Tagged test Q Q (codes "sup") →
    (identifier : List ℕ) (number occurrence : ℕ) →
    R (backreference options identifier number occurrence)
backreference-read {test = test} {Q = Q} {options = options} known inside a sup identifier number
    occurrence =
    let v : List ℕ = call_id options identifier number occurrence in
    let t : List ℕ = option_or (option_map string_bytes options.gfm_footnote_back_label)
    (codes "Back to content") in
    let mark : Q (occurrence_mark occurrence) = cond_both _ _ _ Q (λ _. inside.text [] refl) (λ _.
    sup.tag [] (decimal occurrence) refl refl (grind (arith, decimal-escaped))) in
    let id : Escaped v = call_id-escaped options identifier number occurrence in
    let label : Escaped t = grind (arith, is_escaped-encoded) in
    let link = known.anchor v in
    let back = known.other (codes "data-footnote-backref") [] refl in
    let named = known.other (codes "aria-label") t refl in
    let class = known.other (codes "class") (codes "data-footnote-backref") refl in
    a.tag (attribute (codes "href") (35 ∷ v) ∷ attribute (codes "data-footnote-backref") []
    ∷ attribute (codes "aria-label") t ∷ attribute (codes "class") (codes "data-footnote-backref")
    ∷ []) (arrow ++ occurrence_mark occurrence) (rw (id, label) refl) (grind arith)
    (inside.both arrow (occurrence_mark occurrence) (inside.text arrow refl) mark)

-- the ways back to calls
pub backreferences-read : {test : Attribute → Bool} {Q R : List ℕ → Type 0}
    {options : CompileOptions} → IsTest test options → IsText Q → IsText R →
    Tagged test Q R (codes "a") → Tagged test Q Q (codes "sup") →
    (identifier : List ℕ) (number count : ℕ) → R (backreferences options identifier number count)
backreferences-read known inside around a sup identifier number zero = around.text [] refl
backreferences-read known inside around a sup identifier number (suc count) =
    let earlier = backreferences-read known inside around a sup identifier number count in
    grind (arith, cond_both, backreference-read, earlier)

-- of what has a reading
pub reads-text : (test : Attribute → Bool) → IsText (HasReadingWith test)
reads-text test = record { text = text test; both = join test }
