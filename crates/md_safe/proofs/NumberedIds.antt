-- Ids by number: which number each has is read back of it. The numbers of calls and their
-- occurrences determine them, and so do their ids.
use Rattle.std.proofs.Common.{◌≡◌, ℕ, ◌<◌, ◌^◌, zero, suc, true, false, List, [], ◌∷◌, ◌++◌, refl}
use Rattle.std.proofs.Common.{sym, ap, arith, append_assoc, codes, ◌+◌, ◌≤◌, Bool, ◌||◌, length}
use Rattle.std.proofs.Common.{append-nil, bytes_eq}
use Rattle.std.specs.Prelude.{filter}
use Rattle.std.specs.List.{list_all}
use Rattle.std.specs.Fmt.{decimal, digits, digits_onto}
use Rattle.std.proofs.lemmas.Bool.{and_parts, cond_both, or_right}
use Rattle.std.proofs.lemmas.Fmt.{decimal_injective}
use Rattle.std.proofs.lemmas.List.{append_cancel_left, length-append}
use Rattle.std.proofs.lemmas.List.Folds.{list_all-append}
use Rattle.md_base.proofs.Lies.{lie}
use Rattle.md_text.specs.References.{read_back}
use Rattle.md_text.proofs.EncodeLaws.{read_back-before, read_back-other}
use Rattle.md_text.proofs.HtmlSplit.{split}
use Rattle.md_text.specs.declared.options.CompileOptions.{CompileOptions}
use Rattle.md_meaning.specs.Meaning.Footnotes.{id_of, call_id, distinct, place_among, count_of}
use Rattle.md_content.specs.Built.{is_digit}
use Rattle.md_safe.proofs.Cases.{all-weaker}
use Rattle.md_safe.specs.Apart.{prefix_of}
use Rattle.md_safe.proofs.Calls.{id_prefix}
use Rattle.md_safe.proofs.Texts.{digit-plain, glyph-digit, decimal-digits}
use Rattle.md_text.proofs.ProtocolLemmas.{no_and}
use Rattle.md_meaning.proofs.Identifiers.{is_in, same, itself, is_in-distinct}

-- ---- what decimal writes

-- the last byte of a text, or 0
abbrev last_byte : List ℕ → ℕ
last_byte [] = 0
last_byte (b ∷ []) = b
last_byte (b ∷ c ∷ bytes) = last_byte (c ∷ bytes)

abbrev pub EndsInDigit : List ℕ → Type 0
EndsInDigit x = is_digit (last_byte x) ≡ true

onto-ends : (k n c : ℕ) (acc : List ℕ) → EndsInDigit (c ∷ acc) →
    EndsInDigit (digits_onto k 10 false n (c ∷ acc))
onto-ends zero n c acc h = h
onto-ends (suc k) n c acc h = grind (arith, cond_both, onto-ends k)

onto-first : (k n : ℕ) → EndsInDigit (digits_onto (suc k) 10 false n [])
onto-first k n = grind (arith, cond_both, glyph-digit, onto-ends)

decimal-ends : (n : ℕ) → EndsInDigit (decimal n)
unfolding digits
decimal-ends n = onto-first 63 n

last-append : (x y : List ℕ) → EndsInDigit y → EndsInDigit (x ++ y)
last-append [] y h = h
last-append (b ∷ []) [] h = lie h
last-append (b ∷ []) (c ∷ y) h = h
last-append (b ∷ c ∷ x) y h = last-append (c ∷ x) y h

-- ---- what is read back
digits-no_and : (x : List ℕ) → list_all is_digit x ≡ true → list_all no_and x ≡ true
digits-no_and = all-weaker is_digit no_and (λ b h. (and_parts _ _ (digit-plain b h)).1)

-- a text without `&` is read back as it is
plain-back : (x : List ℕ) → list_all no_and x ≡ true → read_back x ≡ x
plain-back [] h = refl
plain-back (b ∷ x) h = grind (arith, read_back-other b x, plain-back x)

-- the prefix, read back
abbrev pub back_prefix : CompileOptions → List ℕ
back_prefix options = prefix_of options

prefix-back : (options : CompileOptions) (x : List ℕ) →
    read_back (id_prefix options ++ x) ≡ back_prefix options ++ read_back x
prefix-back options x = grind (arith, read_back-before)

-- ---- ids by number

-- what follows the prefix in the id of a footnote, and in that of a call
abbrev pub note_tail : ℕ → List ℕ
note_tail number = codes "fn-" ++ decimal number

abbrev pub call_tail : ℕ → ℕ → List ℕ
call_tail number occurrence = codes "fnref-" ++ (decimal number ++ (45 ∷ decimal occurrence))

pub note-back : (options : CompileOptions) → options.gfm_footnote_number_ids ≡ true →
    (identifier : List ℕ) (number : ℕ) →
    read_back (id_of options (codes "fn-") identifier number)
    ≡ back_prefix options ++ note_tail number
note-back options on identifier number =
    grind (arith, prefix-back, plain-back, digits-no_and, decimal-digits)

pub call-back : (options : CompileOptions) → options.gfm_footnote_number_ids ≡ true →
    (identifier : List ℕ)
    (number occurrence : ℕ) → read_back (call_id options identifier number occurrence)
    ≡ back_prefix options ++ call_tail number occurrence
call-back options on identifier number occurrence =
    let whole = prefix-back options (call_tail number occurrence) in
    grind (arith, append_assoc, whole, plain-back, list_all-append, digits-no_and, decimal-digits)

pub same-call : (options : CompileOptions) (n m k l : ℕ) → n < 2 ^ 64 → m < 2 ^ 64 →
    k < 2 ^ 64 → l < 2 ^ 64 →
    back_prefix options ++ call_tail n k ≡ back_prefix options ++ call_tail m l → (n ≡ m) × (k ≡ l)
same-call options n m k l hn hm hk hl e =
    let tails : call_tail n k ≡ call_tail m l =
    append_cancel_left (back_prefix options) (call_tail n k) (call_tail m l) e in
    let numbers : decimal n ++ (45 ∷ decimal k) ≡ decimal m ++ (45 ∷ decimal l) = cc tails in
    let parts =
    split is_digit (decimal n) (decimal m) (45 ∷ decimal k) (45 ∷ decimal l) (decimal-digits n)
    (decimal-digits m) refl refl numbers in
    let last : decimal k ≡ decimal l = cc (parts.1) in
    (decimal_injective n m hn hm parts.0, decimal_injective k l hk hl last)

pub label-no_digit : (x : List ℕ) → codes "footnote-label" ≡ x → EndsInDigit x → ⊥
label-no_digit x e ends = lie (rw (sym e) at ends)

pub note-ends : (options : CompileOptions) (n : ℕ) →
    EndsInDigit (back_prefix options ++ note_tail n)
note-ends options n = last-append (back_prefix options) (note_tail n)
    (last-append (codes "fn-") (decimal n) (decimal-ends n))

pub call-ends : (options : CompileOptions) (n k : ℕ) →
    EndsInDigit (back_prefix options ++ call_tail n k)
call-ends options n k =
    last-append (back_prefix options) (call_tail n k)
    (last-append (codes "fnref-") (decimal n ++ (45 ∷ decimal k))
    (last-append (decimal n) (45 ∷ decimal k) (last-append (45 ∷ []) (decimal k) (decimal-ends k))))

place-first : (xs : List (List ℕ)) (x : List ℕ) → 1 ≤ place_among xs x
place-first [] x = omega arith
place-first (y ∷ ys) x = grind arith

-- positions determine identifiers
pub same-place : (xs : List (List ℕ)) (x y : List ℕ) → is_in x xs ≡ true →
    place_among xs x ≡ place_among xs y → x ≡ y
same-place [] x y h e = lie h
same-place (z ∷ zs) x y h e =
    grind (arith, same z x, same z y, place-first zs x, place-first zs y, same-place zs x y)

pub is_in-middle : (xs ys : List (List ℕ)) (x : List ℕ) → is_in x (xs ++ x ∷ ys) ≡ true
is_in-middle [] ys x = ap (λ b. b || is_in x ys) (itself x)
is_in-middle (z ∷ zs) ys x = or_right (bytes_eq z x) _ (is_in-middle zs ys x)

count-append : (xs ys : List (List ℕ)) (x : List ℕ) → count_of (xs ++ ys) x ≡ count_of xs x
    + count_of ys x
count-append [] ys x = omega arith
count-append (z ∷ zs) ys x = omega (count-append zs ys x, arith)

-- numbers and occurrences are no greater than the calls are many, and one
place-last : (xs : List (List ℕ)) (x : List ℕ) → place_among xs x ≤ suc (length xs)
place-last [] x = omega arith
place-last (y ∷ ys) x = grind (arith, place-last ys x)

count-last : (xs : List (List ℕ)) (x : List ℕ) → count_of xs x ≤ length xs
count-last [] x = omega arith
count-last (y ∷ ys) x = grind (arith, count-last ys x)

filter-fewer : (p : List ℕ → Bool) (xs : List (List ℕ)) → length (filter p xs) ≤ length xs
filter-fewer p [] = omega arith
filter-fewer p (x ∷ xs) = grind (arith, filter-fewer p xs)

pub distinct-fewer : (calls : List (List ℕ)) → length (distinct calls) ≤ length calls
distinct-fewer [] = omega arith
distinct-fewer (call ∷ calls) = grind (arith, filter-fewer, distinct-fewer calls)

pub number-bound : (all : List (List ℕ)) (x : List ℕ) →
    place_among (distinct all) x ≤ suc (length all)
number-bound all x = omega (place-last (distinct all) x, distinct-fewer all, arith)

-- the id of a call after others, its references read back; `all` are all calls
abbrev pub id_after : CompileOptions → List (List ℕ) → List (List ℕ) → List ℕ → List ℕ
id_after options all before identifier = read_back (call_id options identifier
    (place_among (distinct all) identifier) (suc (count_of before identifier)))

-- the ids of some calls after others
abbrev pub ids_after : CompileOptions → List (List ℕ) → List (List ℕ) →
    List (List ℕ) → List (List ℕ)
ids_after options all before [] = []
ids_after options all before (identifier ∷ calls) =
    id_after options all before identifier
    ∷ ids_after options all (before ++ (identifier ∷ [])) calls

pub ids-append : (options : CompileOptions) (all before xs ys : List (List ℕ)) →
    ids_after options all before (xs ++ ys)
    ≡ ids_after options all before xs ++ ids_after options all (before ++ xs) ys
ids-append options all before [] ys = ap (λ b. ids_after options all b ys) (sym (append-nil before))
ids-append options all before (x ∷ xs) ys =
    grind (arith, append_assoc, ids-append options all (before ++ (x ∷ [])) xs ys)

-- a later call has another id
pub ids-differ : (options : CompileOptions) → options.gfm_footnote_number_ids ≡ true →
    (all before mid : List (List ℕ)) (x y : List ℕ) → is_in x all ≡ true → length all + 1 < 2 ^ 64 →
    length (before ++ x ∷ mid) + 1 < 2 ^ 64 → id_after options all (before ++ x ∷ mid) y ≡ id_after
    options all before x → ⊥
ids-differ options on all before mid x y among few small e =
    grind (
      arith,
      length-append,
      call-back,
      same-call,
      number-bound,
      count-last,
      same-place,
      is_in-distinct,
      itself,
      count-append,
    )
