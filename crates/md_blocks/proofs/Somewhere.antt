-- Where a line may have what ends a block of HTML.
use Rattle.std.proofs.Common.{ℕ, Bool, List, [], ◌∷◌, zero, suc, true, false, ◌≡◌, ◌+◌}
use Rattle.std.proofs.Common.{◌<◌, ◌≤◌, ◌-◌, ◌||◌, ◌∙◌, take, Some, None, nat_eq, length}
use Rattle.std.proofs.Common.{drop, get_or}
use Rattle.std.proofs.Common.{ap, refl, sym, inl, inr, arith, unwrap_or, is_none}
use Rattle.std.proofs.Common.{◌++◌, ◌%◌}
use Rattle.std.specs.Prelude.{replicate}
use Rattle.std.specs.Char.{to_ascii_lowercase}
use Rattle.std.proofs.lemmas.Bool.{cases_lt, ne_eqb, eq-eqb, eqb-false}
use Rattle.std.proofs.lemmas.List.{at_drop_more, drop_more, drop_all, take_rest}
use Rattle.std.proofs.lemmas.Str.Ascii.{lowercase_is}
use Rattle.md_blocks.specs.declared.html.HtmlKind.{HtmlKind}
use Rattle.md_blocks.specs.declared.html.HtmlKind.TheVariants.{Raw, Comment, Instruction}
use Rattle.md_blocks.specs.declared.html.HtmlKind.TheVariants.{Declaration, Data, Block, Tag}
use Rattle.md_blocks.specs.HtmlBlocks.{is_end, first_of_end, somewhere}
use Rattle.md_blocks.specs.HtmlBlocks.{is_html_end}
use Rattle.md_blocks.specs.Rests.{text_of}
use Rattle.memchr.specs.Find.{IsFirstByte, is_byte}

-- a byte that isn't an ASCII character before the small letters isn't it in lower case either
lower_other : (byte first : ℕ) → first < 97 → (byte ≡ first → ⊥)
    → nat_eq (to_ascii_lowercase byte) first ≡ false
lower_other byte first small other = ne_eqb _ first (λ same. other (elim (cases_lt byte 65) [
  | inl below ↦ sym ((lowercase_is byte).1 below) ∙ same
  | inr from ↦ elim (cases_lt 90 byte) [
    | inl above ↦ sym ((lowercase_is byte).2 above) ∙ same
    | inr up_to ↦ let moved = (lowercase_is byte).0 (from, up_to) in
        absurd (omega (arith, moved, same, small, from))
  ]
]))

first_is : (wanted first : ℕ) → Some wanted ≡ Some first → wanted ≡ first
first_is wanted first is = ap (λ byte. unwrap_or byte 0) is

-- it does only with the first byte of that
other_byte : (kind : HtmlKind) (first byte : ℕ) (rest : List ℕ)
    → first_of_end kind ≡ Some first → (byte ≡ first → ⊥) → is_end kind (byte ∷ rest) ≡ false
other_byte Raw first byte rest is other =
    rw (lower_other byte 60 (omega arith) (λ same. other (same ∙ first_is 60 first is))) refl
other_byte Comment first byte rest is other =
    rw (ne_eqb 45 byte (λ same. other (sym same ∙ first_is 45 first is))) refl
other_byte Instruction first byte rest is other =
    rw (ne_eqb 63 byte (λ same. other (sym same ∙ first_is 63 first is))) refl
other_byte Declaration first byte rest is other =
    rw (ne_eqb 62 byte (λ same. other (sym same ∙ first_is 62 first is))) refl
other_byte Data first byte rest is other =
    rw (ne_eqb 93 byte (λ same. other (sym same ∙ first_is 93 first is))) refl
other_byte Block first byte rest is other = refl
other_byte Tag first byte rest is other = refl

-- an empty text doesn't
empty : (kind : HtmlKind) → is_end kind [] ≡ false
empty Raw = refl
empty Comment = refl
empty Instruction = refl
empty Declaration = refl
empty Data = refl
empty Block = refl
empty Tag = refl

nowhere : (test : List ℕ → Bool) → ((text : List ℕ) → test text ≡ false)
    → (line : List ℕ) → somewhere test line ≡ false
nowhere test none [] = none []
nowhere test none (byte ∷ rest) =
    ap (λ is. is || somewhere test rest) (none (byte ∷ rest)) ∙ nowhere test none rest

-- nothing but a blank line ends the last two kinds
pub no_end : (kind : HtmlKind) (line : List ℕ) → first_of_end kind ≡ None
    → is_html_end kind line ≡ false
no_end Block line is = nowhere (is_end Block) (λ text. refl) line
no_end Tag line is = nowhere (is_end Tag) (λ text. refl) line
no_end Raw line is = absurd (eqb-false 0 0 (sym (ap is_none is)) refl)
no_end Comment line is = absurd (eqb-false 0 0 (sym (ap is_none is)) refl)
no_end Instruction line is = absurd (eqb-false 0 0 (sym (ap is_none is)) refl)
no_end Declaration line is = absurd (eqb-false 0 0 (sym (ap is_none is)) refl)
no_end Data line is = absurd (eqb-false 0 0 (sym (ap is_none is)) refl)

skipped : (kind : HtmlKind) (first : ℕ) → first_of_end kind ≡ Some first
    → (line : List ℕ) (n : ℕ) → n ≤ length line
    → ((k : ℕ) → k < n → get_or line k 0 ≡ first → ⊥)
    → is_html_end kind line ≡ is_html_end kind (drop n line)
skipped kind first is line zero within none = refl
skipped kind first is [] (suc n) within none = absurd (omega arith)
skipped kind first is (byte ∷ rest) (suc n) within none =
    ap (λ ends. ends || is_html_end kind rest)
    (other_byte kind first byte rest is (none 0 (omega arith)))
    ∙ skipped kind first is rest n (omega arith) (λ k l. none (suc k) (omega arith))

-- where its first byte is found, a line ends the block there or after it
found : (kind : HtmlKind) (first at : ℕ) (line : List ℕ) → first_of_end kind ≡ Some first
    → IsFirstByte (is_byte first) line (Some at)
    → is_html_end kind line
    ≡ (is_end kind (drop at line) || is_html_end kind (drop (at + 1) line))
found kind first at line is place =
    let within : at < length line = place.0.high in
    skipped kind first is line at (omega (arith, within))
    (λ k l same. place.0.before k (omega arith) l (eq-eqb _ first same))
    ∙ at_drop_more (is_html_end kind) line at 0 within
    ∙ ap (λ text. is_end kind text || is_html_end kind (drop (at + 1) line))
    (sym (drop_more line at 0 within))

-- it ends the block there
pub ends_there : (kind : HtmlKind) (first at : ℕ) (line rest : List ℕ)
    → Some first ≡ first_of_end kind → IsFirstByte (is_byte first) rest (Some at)
    → is_html_end kind line ≡ is_html_end kind rest
    → true ≡ is_end kind (take (length rest - at) (drop at rest)) → true ≡ is_html_end kind line
ends_there kind first at line rest is place so_far there =
    sym (so_far ∙ found kind first at rest (sym is) place
    ∙ ap (λ ends. ends || is_html_end kind (drop (at + 1) rest))
    (ap (is_end kind) (sym (take_rest rest at)) ∙ sym there))

-- or after it
pub goes_on : (kind : HtmlKind) (first at : ℕ) (line rest : List ℕ)
    → Some first ≡ first_of_end kind → IsFirstByte (is_byte first) rest (Some at)
    → is_html_end kind line ≡ is_html_end kind rest
    → false ≡ is_end kind (take (length rest - at) (drop at rest))
    → is_html_end kind line
    ≡ is_html_end kind (take (length rest - (at + 1)) (drop (at + 1) rest))
goes_on kind first at line rest is place so_far not_there =
    so_far ∙ found kind first at rest (sym is) place
    ∙ ap (λ ends. ends || is_html_end kind (drop (at + 1) rest))
    (ap (is_end kind) (sym (take_rest rest at)) ∙ sym not_there)
    ∙ ap (is_html_end kind) (sym (take_rest rest (at + 1)))

-- where it isn't found, the line doesn't end the block
pub missing : (kind : HtmlKind) (first : ℕ) (line : List ℕ) → first_of_end kind ≡ Some first
    → IsFirstByte (is_byte first) line None → is_html_end kind line ≡ false
missing kind first line is none =
    skipped kind first is line (length line) (omega arith)
    (λ k l same. none k (omega arith) l (eq-eqb _ first same))
    ∙ ap (is_html_end kind) (drop_all (length line) line (omega arith)) ∙ empty kind

blank_end : (kind : HtmlKind) (byte : ℕ) (rest : List ℕ) → byte < 33 →
    is_end kind (byte ∷ rest) ≡ false
blank_end Raw byte rest few = other_byte Raw 60 byte rest refl (λ same. omega (arith, same, few))
blank_end Comment byte rest few =
    other_byte Comment 45 byte rest refl (λ same. omega (arith, same, few))
blank_end Instruction byte rest few =
    other_byte Instruction 63 byte rest refl (λ same. omega (arith, same, few))
blank_end Declaration byte rest few =
    other_byte Declaration 62 byte rest refl (λ same. omega (arith, same, few))
blank_end Data byte rest few = other_byte Data 93 byte rest refl (λ same. omega (arith, same, few))
blank_end Block byte rest few = refl
blank_end Tag byte rest few = refl

blank_skipped : (kind : HtmlKind) (byte : ℕ) (rest : List ℕ) → byte < 33 →
    is_html_end kind (byte ∷ rest) ≡ is_html_end kind rest
blank_skipped kind byte rest few = rw (blank_end kind byte rest few) refl

spaces_skipped : (kind : HtmlKind) (n : ℕ) (rest : List ℕ) →
    is_html_end kind (replicate n 32 ++ rest) ≡ is_html_end kind rest
spaces_skipped kind zero rest = refl
spaces_skipped kind (suc n) rest =
    blank_skipped kind 32 (replicate n 32 ++ rest) (omega arith) ∙ spaces_skipped kind n rest

-- neither a tab nor what is left of it ends HTML
pub ends_alike : (kind : HtmlKind) (line : List ℕ) (at column : ℕ) (tab : Bool) →
    (tab ≡ true → drop at line ≡ 9 ∷ drop (suc at) line) →
    is_html_end kind (drop at line) ≡ is_html_end kind (text_of line at column tab)
ends_alike kind line at column false tabbed = refl
ends_alike kind line at column true tabbed =
    ap (is_html_end kind) (tabbed refl) ∙ blank_skipped kind 9 (drop (suc at) line) (omega arith)
    ∙ sym (spaces_skipped kind (4 - column % 4) (drop (suc at) line))
