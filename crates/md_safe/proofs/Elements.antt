-- The tags of blocks, of code, of tasks, of lists and of cells around what they hold: each keeps
-- the claim.
use Rattle.std.proofs.Common.{◌≡◌, ◌⊎◌, ℕ, ◌≤◌, ◌==◌, Bool, true, false, not, cond, List, [], ◌∷◌}
use Rattle.std.proofs.Common.{◌++◌, refl, inl, inr, arith, append_assoc, codes}
use Rattle.std.specs.Prelude.{Option, Some, None, bytes_eq}
use Rattle.std.specs.Option.{option_map_or}
use Rattle.std.specs.List.{list_all, flat_map}
use Rattle.std.specs.Fmt.{decimal}
use Rattle.std.proofs.lemmas.Bool.{agree_below}
use Rattle.md_base.specs.declared.event.Position.{Position}
use Rattle.md_text.specs.Html.{Attribute}
use Rattle.md_text.specs.declared.options.CompileOptions.{CompileOptions}
use Rattle.md_meaning.specs.Meaning.Layout.{Piece, Text, Needed, Forced, said, on_own_line, when}
use Rattle.md_meaning.specs.Meaning.At.{Context, At, text_in}
use Rattle.md_meaning.specs.Meaning.Finds.{number_in_list}
use Rattle.md_meaning.specs.Meaning.Blocks.{list_start, without_zeros}
use Rattle.md_content.specs.Built.{is_digit}
use Rattle.md_safe.proofs.Texts.{Escaped, zeros-escaped}
use Rattle.md_safe.proofs.Tags.{IsTest, attribute, IsFramed, Turns, TurnsTag, Single, Takes}
use Rattle.md_safe.proofs.Tags.{adds-turned, adds-flat, framed-text, framed-needed, framed-forced}
use Rattle.md_safe.proofs.Tags.{adds-framed_flat, Tagged}
use Rattle.md_safe.proofs.Laid.{Adds, adds-append, adds-needed, IsBeside, adds-all, adds-nothing}
use Rattle.md_base.specs.declared.event.AlignKind.{AlignKind}
use Rattle.md_base.specs.declared.event.AlignKind.TheVariants as align
use Rattle.md_meaning.specs.Meaning.Tables.{align_attribute, cell_of}

abbrev pub code_closing : List ℕ
code_closing = codes "</code></pre>"

-- a heading of a rank from 1 to 6
unfoldable pub heading_name : ℕ → List ℕ
heading_name rank = 104 ∷ decimal rank

-- a test of each of these ranks
pub ranked : (test : ℕ → Bool) → agree_below test (λ rank. not (rank == 0)) 7 ≡ true →
    (rank : ℕ) → (1 ≤ rank) × (rank ≤ 6) → test rank ≡ true
ranked test agree rank h = grind arith

-- the opening of a list, between pieces
record IsOpening (W Q R : List ℕ → Type 0) (ending close : List ℕ)
    (pieces : List Piece) : Type 0 where
  open_tag : List ℕ
  adds : Adds ending (IsFramed W open_tag) pieces
  turns : Turns Q R open_tag close

-- an ordered list around its items
pub adds-ordered : {W Q R : List ℕ → Type 0} {test : Attribute → Bool} → IsBeside W → Takes W Q →
    Takes W R → (context : Context) → W context.ending → IsTest test context.options →
    TurnsTag test Q R (codes "ol") → (at : At) {inner : List Piece} → option_map_or
    (λ place. list_all is_digit (text_in context.bytes place)) (number_in_list at.children) true
    ≡ true → Adds context.ending Q inner → Adds context.ending R (on_own_line (codes "<ol")
    ++ (list_start context at ++ (said (codes ">") ++ (inner ++ (Forced ∷ said (codes "</ol>"))))))
adds-ordered {W} {Q} {R} beside takes stays context h known turns at {inner} fits a =
    let first : List ℕ = option_map_or (text_in context.bytes) (number_in_list at.children)
    (codes "1") in
    let opening = by (without_zeros first) (zeros-escaped first
    (digits_of (number_in_list at.children) fits)) (bytes_eq (without_zeros first) (codes "1")) in
    let end : List Piece = inner ++ (Forced ∷ said (codes "</ol>")) in
    rw (← (append_assoc (list_start context at) (said (codes ">")) end)) (adds-turned
    {o = opening.open_tag} takes stays opening.turns opening.adds a (framed-forced beside h))
  where
    digits_of : (found : Option Position) → option_map_or
        (λ place. list_all is_digit (text_in context.bytes place)) found true ≡ true →
        list_all is_digit (option_map_or (text_in context.bytes) found (codes "1")) ≡ true
    digits_of None fits = refl
    digits_of (Some place) fits = fits

    by : (number : List ℕ) → Escaped number → (one : Bool) → IsOpening W Q R context.ending
        (codes "</ol>") (on_own_line (codes "<ol") ++ (when (not one) (Text (codes " start=\"")
        ∷ Text number ∷ Text (codes "\"") ∷ []) ++ said (codes ">")))
    by number e true = record {
      open_tag = codes "<ol>";
      adds = adds-framed_flat beside (Text (codes "<ol") ∷ Text (codes ">") ∷ []) refl
          (adds-needed beside h);
      turns = turns.tag [] refl refl;
    }
    by number e false = record {
      open_tag = codes "<ol start=\"" ++ (number ++ codes "\">");
      adds = adds-framed_flat beside (Text (codes "<ol") ∷ Text (codes " start=\"") ∷ Text number
          ∷ Text (codes "\"") ∷ Text (codes ">") ∷ []) refl (adds-needed beside h);
      turns = simp append_assoc at (turns.tag (attribute (codes "start") number ∷ []) (rw e refl)
          (cc (known.other (codes "start") number refl)));
    }

-- the end of an item, on a line of its own or not
pub item-end : {W : List ℕ → Type 0} {ending : List ℕ} → IsBeside W → W ending → (ends : Bool) →
    Adds ending (IsFramed W (codes "</li>")) ((cond ends [] (Needed ∷ [])) ++ said (codes "</li>"))
item-end beside h ends = grind (arith, framed-text, framed-needed)

pub class-passes : {test : Attribute → Bool} {options : CompileOptions} → IsTest test options →
    (value : List ℕ) → list_all test (attribute (codes "class") value ∷ []) ≡ true
class-passes known value = cc (known.other (codes "class") value refl)

-- what a task's mark adds to its tag
abbrev pub IsDone : Bool → List ℕ → Type 0
IsDone in_image x = (x ≡ []) ⊎ ((in_image ≡ false) × (x ≡ codes "checked=\"\" "))

-- a tag of a task
abbrev pub task_tag : Bool → List ℕ
task_tag checkable = codes "<input type=\"checkbox\" " ++ cond checkable [] (codes "disabled=\"\" ")

task-read : {test : Attribute → Bool} {R : List ℕ → Type 0} {options : CompileOptions} →
    IsTest test options → Single test R (codes "input") → (checkable : Bool) (x : List ℕ) →
    (x ≡ []) ⊎ (x ≡ codes "checked=\"\" ") → R (task_tag checkable ++ (x ++ codes "/>"))
task-read {test} {R} known single checkable x done = elim done [
  | inl e ↦ rw e (by checkable)
  | inr e ↦ rw e (on checkable)
]
  where
    box : Attribute
    box = attribute (codes "type") (codes "checkbox")

    kind : test box ≡ true
    kind = known.other (codes "type") (codes "checkbox") refl

    disabled : test (attribute (codes "disabled") []) ≡ true
    disabled = known.other (codes "disabled") [] refl

    checked : test (attribute (codes "checked") []) ≡ true
    checked = known.other (codes "checked") [] refl

    by : (checkable : Bool) → R (task_tag checkable ++ codes "/>")
    by true = single.tag (box ∷ []) refl (cc kind)
    by false = single.tag (box ∷ attribute (codes "disabled") [] ∷ []) refl (rw (kind, disabled)
        refl)

    on : (checkable : Bool) → R (task_tag checkable ++ (codes "checked=\"\" " ++ codes "/>"))
    on true = single.tag (box ∷ attribute (codes "checked") [] ∷ []) refl (rw (kind, checked) refl)
    on false = single.tag (box ∷ attribute (codes "disabled") [] ∷ attribute (codes "checked") [] ∷
        []) refl (rw (kind, disabled, checked) refl)

-- a task outside images
pub adds-task : {test : Attribute → Bool} {R : List ℕ → Type 0} {ending : List ℕ}
    {options : CompileOptions} → IsTest test options → Single test R (codes "input") →
    (checkable in_image : Bool) {inner : List Piece} → Adds ending (IsDone in_image) inner → Adds
    ending R ((Text (codes "<input type=\"checkbox\" ") ∷ when (not checkable)
    (said (codes "disabled=\"\" "))) ++ (inner ++ said (codes "/>")))
adds-task {R =
    R} {ending} known single checkable in_image a = adds-append {f = λ x. x ≡ task_tag checkable} {g
    = λ w. (x : List ℕ) × (w ≡ x ++ codes "/>") × ((x ≡ []) ⊎ (x ≡ codes "checked=\"\" "))} (λ x w f
    g. rw (f, g.1) (task-read known single checkable g.0 g.2)) (first checkable) (adds-append (grind
    arith) a (adds-flat {f = λ y. y ≡ codes "/>"} refl refl))
  where
    first : (checkable : Bool) → Adds ending (λ x. x ≡ task_tag checkable) (Text
        (codes "<input type=\"checkbox\" ") ∷ when (not checkable) (said (codes "disabled=\"\" ")))
    first true = adds-flat refl refl
    first false = adds-flat refl refl

-- a cell's texts
abbrev pub cell_texts : Bool → AlignKind → List ℕ → List Piece
cell_texts in_head kind x =
    Text (cond in_head (codes "<th") (codes "<td")) ∷ Text (align_attribute kind)
    ∷ Text (codes ">") ∷ Text x ∷ Text (cond in_head (codes "</th>") (codes "</td>")) ∷ []

-- the tags of both kinds of cells
abbrev pub CellTags : (Attribute → Bool) → (List ℕ → Type 0) → (List ℕ → Type 0) → Type 0
CellTags test Q R = Tagged test Q R (codes "th") × Tagged test Q R (codes "td")

cell-flat : {test : Attribute → Bool} {Q R : List ℕ → Type 0} {ending : List ℕ}
    {options : CompileOptions} → IsTest test options → CellTags test Q R →
    (in_head : Bool) (kind : AlignKind) (x : List ℕ) → Q x → Adds ending
    R (cell_texts in_head kind x)
cell-flat {test} {R = R} {ending} known tags in_head kind x r = by in_head kind
  where
    to : List ℕ → List Attribute
    to value = attribute (codes "align") value ∷ []

    aligned : (value : List ℕ) → list_all test (to value) ≡ true
    aligned value = rw (known.other (codes "align") value refl) refl

    by : (in_head : Bool) (kind : AlignKind) → Adds ending R (cell_texts in_head kind x)
    by true align.Left = adds-flat refl (tags.0.tag (to (codes "left")) x refl (aligned _) r)
    by true align.Right = adds-flat refl (tags.0.tag (to (codes "right")) x refl (aligned _) r)
    by true align.Center = adds-flat refl (tags.0.tag (to (codes "center")) x refl (aligned _) r)
    by true align.None = adds-flat refl (tags.0.tag [] x refl refl r)
    by false align.Left = adds-flat refl (tags.1.tag (to (codes "left")) x refl (aligned _) r)
    by false align.Right = adds-flat refl (tags.1.tag (to (codes "right")) x refl (aligned _) r)
    by false align.Center = adds-flat refl (tags.1.tag (to (codes "center")) x refl (aligned _) r)
    by false align.None = adds-flat refl (tags.1.tag [] x refl refl r)

-- a cell on a line of its own
adds-cell : {test : Attribute → Bool} {Q R : List ℕ → Type 0} {ending : List ℕ}
    {options : CompileOptions} → IsTest test options → CellTags test Q R →
    ((xs : List Piece) → Adds ending R xs → Adds ending R (Needed ∷ xs)) →
    (in_head : Bool) (kind : AlignKind) (x : List ℕ) → Q x → Adds ending R (cell_of in_head x kind)
adds-cell known tags lined in_head kind x r = lined (cell_texts in_head kind x)
    (cell-flat known tags in_head kind x r)

pub adds-cell_in : {test : Attribute → Bool} {Q R : List ℕ → Type 0} {ending : List ℕ}
    {options : CompileOptions} → IsTest test options → CellTags test Q R →
    ((xs : List Piece) → Adds ending R xs → Adds ending R (Needed ∷ xs)) → R [] →
    (in_head : Bool) (kind : Option AlignKind) (x : List ℕ) → Q x →
    Adds ending R (option_map_or (λ kind. cell_of in_head x kind) kind [])
adds-cell_in known tags lined none in_head None x r = adds-nothing none
adds-cell_in known tags lined none in_head (Some kind) x r = adds-cell known tags lined _ _ x r

pub adds-empty_cells : {test : Attribute → Bool} {Q R : List ℕ → Type 0} {ending : List ℕ}
    {options : CompileOptions} → IsTest test options → CellTags test Q R →
    ((xs : List Piece) → Adds ending R xs → Adds ending R (Needed ∷ xs)) → IsBeside R → Q [] →
    (in_head : Bool) (kinds : List AlignKind) → Adds ending R (flat_map (cell_of in_head []) kinds)
adds-empty_cells known tags lined beside none in_head kinds = adds-all beside
    (λ kind. adds-cell known tags lined in_head kind [] none) kinds
