-- A value without a protocol has no scheme, and one with a permitted protocol has that scheme: no
-- byte that is removed or changed on the way belongs to a scheme.
use Rattle.std.proofs.Common.{◌≡◌, ℕ, ◌==◌, Bool, true, false, List, [], ◌∷◌, ◌++◌, refl, None}
use Rattle.std.proofs.Common.{arith, ◌||◌, not, ◌&&◌, sym, ap, ap₂, ◌∙◌, Option, Some, append-nil}
use Rattle.std.proofs.Common.{append_assoc, eqb-true}
use Rattle.std.specs.List.{list_all}
use Rattle.std.proofs.lemmas.Bool.{cond_both, and_parts, or_left}
use Rattle.md_text.specs.Bytes.{is_letter, lower, lowered, is_one_of}
use Rattle.md_text.specs.Url.{protocol_of, link_protocols, image_protocols}
use Rattle.md_text.proofs.ProtocolLemmas.{map_none, ends_protocol, none_some, map_some}
use Rattle.md_text.proofs.ProtocolLemmas.{protocol_of-goes_on, protocol_of-colon, protocol_of-end}
use Rattle.md_text.proofs.HtmlRead.{passes_not}
use Rattle.md_safe.specs.Input.{with_line_feeds, begins_with_line_feed}
use Rattle.md_safe.specs.Scheme.{is_control_or_space, without_leading, without_trailing}
use Rattle.md_safe.specs.Scheme.{without_newlines, is_scheme_byte, in_scheme, in_scheme_start}
use Rattle.md_safe.specs.Scheme.{scheme_of, has_permitted_scheme}
use Rattle.std.specs.Option.{option_map_or}
use Rattle.md_base.specs.Identifier.{is_nonempty}
use Rattle.md_text.specs.References.{is_escaped, read_back}
use Rattle.md_text.specs.Safe.{is_safe_value}
use Rattle.md_safe.proofs.Cases.{one_of-passes, all-weaker, cases}
use Rattle.md_safe.specs.Tokens.{seen}
use Rattle.md_safe.proofs.EscapedCases.{by_escaped}
use Rattle.md_safe.proofs.LineFeeds.{no_return, line_feeds-name}
use Rattle.md_text.specs.Kept.{goes_on}

abbrev pub HasNone : List ℕ → Type 0
HasNone x = protocol_of x ≡ None

-- after a byte that doesn't end a protocol the rest has none
none-drop : (t : ℕ → Bool) (b : ℕ) (rest : List ℕ) → (t 58 || (t 63 || (t 35 || t 47))) ≡ false →
    HasNone (b ∷ rest) → t b ≡ true → HasNone rest
none-drop t b rest other h e = grind arith

line_feeds-none : (x : List ℕ) → HasNone x → HasNone (with_line_feeds x)
line_feeds-none [] h = refl
line_feeds-none (b ∷ rest) h = grind (arith, none-drop, map_none, line_feeds-none rest)

leading-none : (x : List ℕ) → HasNone x → HasNone (without_leading x)
leading-none [] h = refl
leading-none (b ∷ rest) h =
    grind (arith, leading-none rest, none-drop is_control_or_space b rest refl h)

trailing-none : (x : List ℕ) → HasNone x → HasNone (without_trailing x)
trailing-none [] h = refl
trailing-none (b ∷ rest) h = grind (arith, cond_both, map_none, trailing-none rest)

newlines-none : (x : List ℕ) → HasNone x → HasNone (without_newlines x)
newlines-none [] h = refl
newlines-none (b ∷ rest) h = grind (arith, cond_both, none-drop, map_none, newlines-none rest)

in_scheme-none : (buffer x : List ℕ) → HasNone x → in_scheme buffer x ≡ None
in_scheme-none buffer [] h = refl
in_scheme-none buffer (b ∷ rest) h = cond_both _ _ _ (λ v. v ≡ None) (λ e. in_scheme-none (buffer ++
    (lower b ∷ [])) rest (none-drop is_scheme_byte b rest refl h e)) (λ _. grind (arith, h))

in_scheme_start-none : (x : List ℕ) → HasNone x → in_scheme_start x ≡ None
in_scheme_start-none x h = grind (arith, cond_both, in_scheme-none, none-drop)

pub scheme_of-none : (x : List ℕ) → HasNone x → scheme_of (with_line_feeds x) ≡ None
scheme_of-none x h =
    grind (arith, in_scheme_start-none, newlines-none, trailing-none, leading-none, line_feeds-none)

-- ---- line feeds and references

-- both orders give the same
abbrev ReadsAlike : List ℕ → Type 0
ReadsAlike x = (read_back (with_line_feeds x) ≡ with_line_feeds (read_back x))
    × (begins_with_line_feed (read_back x) ≡ begins_with_line_feed x)

pub seen-is : (x : List ℕ) → is_escaped x ≡ true → seen x ≡ with_line_feeds (read_back x)
seen-is x e = (by_escaped ReadsAlike (refl, refl) (λ b rest p h. grind arith) (grind arith)
    (grind arith) (grind arith) (grind arith) x e).0

-- ---- a protocol of letters
protocol-split : (x q : List ℕ) → protocol_of x ≡ Some q → (r : List ℕ) × (x ≡ q ++ (58 ∷ r))
protocol-split [] q e = absurd (none_some q e)
protocol-split (b ∷ rest) q e = cases (b == 58) (λ colon.
    let none : Some [] ≡ Some q = sym (protocol_of-colon b rest colon) ∙ e in
    (rest, cc (eqb-true b 58 colon, none))) (λ on. cases (ends_protocol b)
    (λ ends. absurd (none_some q (sym (protocol_of-end b rest on ends) ∙ e))) (λ goes.
    let g : goes_on b ≡ true = ap₂ (λ s t. not s && not t) on goes in
    let p = map_some b (protocol_of rest) q (sym (protocol_of-goes_on b rest g) ∙ e) in
    let later = protocol-split rest p.0 p.1 in
    (later.0, ap (λ y. b ∷ y) later.1 ∙ ap (λ q. q ++ (58 ∷ later.0)) (sym p.2))))

abbrev pub is_word : List ℕ → Bool
is_word name = is_nonempty name && list_all is_letter name

lowered-letters : (q : List ℕ) → list_all is_letter (lowered q) ≡ true → list_all is_letter q ≡ true
lowered-letters [] h = refl
lowered-letters (b ∷ q) h = grind (arith, lowered-letters q)

letters-no_return : (q : List ℕ) → list_all is_letter q ≡ true → list_all no_return q ≡ true
letters-no_return q h = all-weaker _ _ (λ b h. ap not (passes_not is_letter b 13 refl h)) q h

letter-scheme : (b : ℕ) → is_letter b ≡ true → is_scheme_byte b ≡ true
letter-scheme b h = or_left _ _ (or_left _ _ (or_left _ _ (or_left _ _ h)))

trailing-word : (q r : List ℕ) → list_all is_letter q ≡ true →
    without_trailing (q ++ (58 ∷ r)) ≡ q ++ (58 ∷ without_trailing r)
trailing-word [] r h = refl
trailing-word (b ∷ q) r h = grind (arith, trailing-word q r)

newlines-word : (q r : List ℕ) → list_all is_letter q ≡ true →
    without_newlines (q ++ (58 ∷ r)) ≡ q ++ (58 ∷ without_newlines r)
newlines-word [] r h = refl
newlines-word (b ∷ q) r h = grind (arith, newlines-word q r)

in_scheme-word : (buffer q r : List ℕ) → list_all is_letter q ≡ true →
    in_scheme buffer (q ++ (58 ∷ r)) ≡ Some (buffer ++ lowered q)
in_scheme-word buffer [] r h = ap (λ b. Some b) (sym (append-nil buffer))
in_scheme-word buffer (b ∷ q) r h =
    let p = and_parts _ _ h in
    grind (arith, letter-scheme, append_assoc, in_scheme-word (buffer ++ (lower b ∷ [])) q r p.1)

in_scheme_start-word : (q r : List ℕ) → is_word q ≡ true →
    in_scheme_start (q ++ (58 ∷ r)) ≡ Some (lowered q)
in_scheme_start-word q r h = grind (arith, and_parts, in_scheme-word)

scheme_of-word : (q r : List ℕ) → is_word q ≡ true → scheme_of (with_line_feeds (q ++ (58 ∷ r)))
    ≡ Some (lowered q)
scheme_of-word q r h =
    let start = in_scheme_start-word q (without_newlines (without_trailing (with_line_feeds r))) in
    grind (arith, line_feeds-name, letters-no_return, trailing-word, newlines-word)

lowered-word : (q : List ℕ) → is_word (lowered q) ≡ true → is_word q ≡ true
lowered-word q h = grind (arith, lowered-letters)

-- ---- both
permitted_by : (schemes : List (List ℕ)) (x : List ℕ) (o : Option (List ℕ)) →
    list_all is_word schemes ≡ true →
    protocol_of x ≡ o → option_map_or (λ q. is_one_of schemes (lowered q)) o true ≡ true →
    has_permitted_scheme schemes (with_line_feeds x) ≡ true
permitted_by schemes x None g e h = grind (arith, scheme_of-none)
permitted_by schemes x (Some q) g e h =
    let parts = protocol-split x q e in
    grind (arith, scheme_of-word, lowered-word, one_of-passes)

pub permitted-link : (value : List ℕ) → is_escaped value ≡ true →
    is_safe_value link_protocols value ≡ true →
    has_permitted_scheme link_protocols (seen value) ≡ true
permitted-link = grind (arith, seen-is, permitted_by)

pub permitted-image : (value : List ℕ) → is_escaped value ≡ true →
    is_safe_value image_protocols value ≡ true →
    has_permitted_scheme image_protocols (seen value) ≡ true
permitted-image = grind (arith, seen-is, permitted_by)
