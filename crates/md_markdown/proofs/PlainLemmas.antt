-- A document that is shown as it is written matches the grammar, whatever its text is.
use Rattle.std.proofs.Common.{◌+◌, ◌*◌, ◌≤◌, ◌<◌, arith}
use Rattle.std.proofs.Common.{◌≡◌, ◌∙◌, Bool, ℕ, zero, suc, ◌-◌, List, [], ◌∷◌, ◌++◌, true}
use Rattle.std.proofs.Common.{false, ◌&&◌, if◌then◌else◌, refl, ap, sym, subst, length, nat_le}
use Rattle.std.proofs.Common.{Some}
use Rattle.std.proofs.Common.{None, take, replicate, All, codes}
use Rattle.std.specs.Option.{unwrap_or}
use Rattle.std.specs.Str.{IsUtf8}
use Rattle.std.specs.Borrow.{Bor}
use Rattle.std.proofs.lemmas.Str.{is_utf8-from_IsUtf8}
use Rattle.std.proofs.lemmas.Bool.{le-leb, true≢false}
use Rattle.std.proofs.lemmas.Option.{none-some}
use Rattle.std.proofs.lemmas.List.Elements.{All-cons, All-nil}
use Rattle.std.proofs.Math.Nat.{le_refl, sub-zero}
use Rattle.std.proofs.Math.Dec.{leb-zero}
use Rattle.md_base.specs.declared.event.Event.{Event}
use Rattle.md_base.specs.Reference.{name_table}
use Rattle.md_base.specs.Place.{text_between, text_when, fits}
use Rattle.md_base.specs.Tree.{Forest, flatten}
use Rattle.md_pattern.specs.Spine.{Matches}
use Rattle.md_pattern.specs.declared.kinds.Symbol.TheVariants as symbol
use Rattle.md_pattern.specs.declared.kinds.Role.TheVariants as role
use Rattle.md_text.specs.Encode.{encoded}
use Rattle.md_text.specs.declared.options.CompileOptions.{CompileOptions}
use Rattle.md_tree.specs.Grammar.{Handed, IsChecked, IsReadAs, IsGrammatical, handed}
use Rattle.md_tree.specs.Mentions.{IsResolved, mentions_of}
use Rattle.md_tree.specs.Refusal.{IsRefusal}
use Rattle.md_tree.specs.Rules.{broken_by}
use Rattle.md_tree.specs.declared.mention.Mention.{Mention}
use Rattle.md_tree.specs.declared.mention.Mention.TheVariants.{Nothing}
use Rattle.md_tree.specs.declared.rule.CompileError.TheVariants as refusal
use Rattle.md_tree.proofs.ClosedNodes.{not_childless}
use Rattle.md_meaning.specs.Meaning.{meaning}
use Rattle.md_safe.specs.Links.{has_nested_link}
use Rattle.md_safe.specs.Options.{KeepsImages}
use Rattle.md_depth.specs.Depth.{depth, height}
use Rattle.md_depth.specs.Levels.{NestsWithin}
use Rattle.md_depth.proofs.Nodes.{events-nest}
use Rattle.md_depth.proofs.WholeMoves.{elements-nest}
use Rattle.md_html.specs.Safe.{IsRefusedFor, OfCompile}
use Rattle.md_html.specs.Within as limited
use limited.{OfWithin}
use Rattle.md_html.specs.declared.safe_html.SafeError.{SafeError}
use Rattle.md_html.specs.declared.safe_html.SafeError.TheVariants as safe
use Rattle.md_html.specs.declared.within.WithinError.{WithinError}
use Rattle.md_html.specs.declared.within.WithinError.TheVariants as within
use Rattle.md_blocks.specs.declared.options.MarkdownOptions.{MarkdownOptions}
use Rattle.md_markdown.specs.Chosen.{AreChosenFor}
use Rattle.md_markdown.specs.Made.{IsMadeOver}
use Rattle.md_markdown.specs.Depth.{most_depth}
use Rattle.md_markdown.specs.Parsed.{IsShown, is_memory, of_limits}
use Rattle.md_markdown.specs.Plain.{plain, plain_text, at}

pub takes-all : (bytes : List ℕ) → take (length bytes) bytes ≡ bytes
takes-all [] = refl
takes-all (byte ∷ bytes) = ap (λ rest. byte ∷ rest) (takes-all bytes)

pub fits-all : (bytes : List ℕ) → fits bytes (at 0) (at (length bytes)) ≡ true
fits-all bytes =
    ap (λ reached. nat_le 0 (length bytes) && reached)
    (le-leb (length bytes) (length bytes) (le_refl (length bytes)))
    ∙ ap (λ begun. begun && true) (leb-zero (length bytes))

-- all of a document's bytes are read
pub reads-all : (bytes : List ℕ) → IsUtf8 bytes →
    text_between bytes (at 0) (at (length bytes)) ≡ Some bytes
reads-all bytes utf8 =
    ap (λ fitting. text_when fitting (take (length bytes - 0) bytes)) (fits-all bytes)
    ∙ ap (λ size. text_when true (take size bytes)) (sub-zero (length bytes))
    ∙ ap (λ text. text_when true text) (takes-all bytes)
    ∙ ap (λ readable. if readable then Some bytes else None) (is_utf8-from_IsUtf8 bytes utf8)

-- nothing that is mentioned has to be resolved
nothing : (bytes : List ℕ) (mentions : List Mention) (count : ℕ) →
    All (IsResolved bytes mentions) (replicate count Nothing)
nothing bytes mentions zero = All-nil (IsResolved bytes mentions)
nothing bytes mentions (suc count) =
    All-cons (IsResolved bytes mentions) Nothing (replicate count Nothing) tt
    (nothing bytes mentions count)

text_alone : Matches role.Phrasing (symbol.Text ∷ [])
text_alone = (
  symbol.Text ∷ [],
  ([], [], refl, refl, refl),
  (symbol.Text ∷ [], [], refl, refl, tt, refl),
)

block_alone : Matches role.Flow (symbol.Block ∷ [])
block_alone = (
  symbol.Block ∷ [],
  ([], [], refl, refl, refl),
  (symbol.Block ∷ [], [], refl, refl, tt, refl),
)

pub grammatical : (bytes : List ℕ) (names : List (List ℕ × List ℕ)) → IsUtf8 bytes →
    IsGrammatical bytes names (plain (length bytes))
grammatical bytes names utf8 = record {
  shape = (
    (
      (not_childless role.Flow refl, text_alone),
      ((not_childless role.Phrasing refl, ([], refl, refl)), tt, tt),
      tt,
    ),
    block_alone,
  );
  rules = (
    refl,
    (ap (λ read. broken_by read (λ text. None)) (reads-all bytes utf8), tt, tt),
    tt,
  );
  resolved = nothing bytes (mentions_of (plain (length bytes))) 4;
}

-- its text is that of the document, escaped, in one paragraph
pub means : (options : CompileOptions) (bytes : List ℕ) → IsUtf8 bytes →
    meaning options [] bytes (plain (length bytes)) ≡ plain_text bytes
means options bytes utf8 =
    ap (λ read. codes "<p>" ++ encoded true (unwrap_or read []) ++ codes "</p>")
    (reads-all bytes utf8)

-- what nests within a bound nests within a greater one
pub wider : (least most : ℕ) (text : List ℕ) → least ≤ most → NestsWithin least text →
    NestsWithin most text
wider least most text fits nests tree read =
    let few = nests tree read in
    omega (arith, fits, few)

-- the nodes of a document that events flatten nest as deep as these
pub as_nodes : (given : Handed) (document : Forest) → IsReadAs given document →
    depth given.events ≡ height document
as_nodes given document read = ap depth (sym read.flattened) ∙ events-nest document

-- events that nest deeper are of no document that is shown
pub too_deep : (given : Handed) (most : ℕ) (document : Forest) → most < depth given.events →
    IsShown given most document → ⊥
too_deep given most document deep shown =
    let same = as_nodes given document shown.read in
    let few = shown.nested in
    omega (arith, deep, same, few)

-- a document is shown that is checked, has no link in a link, and nests no deeper
pub is_shown : (given : Handed) (most : ℕ) (checked : IsChecked given) →
    has_nested_link false checked.0 ≡ false → depth given.events ≤ most →
    IsShown given most checked.0
is_shown given most checked unnested few = record {
  read = checked.1;
  unnested = unnested;
  nested = let same = as_nodes given checked.0 checked.1 in omega (arith, few, same);
}

-- the compiler has a text of a document that is shown, within limits or not
pub never_shown : (given : Handed) (most : ℕ) (why : WithinError) (document : Forest) →
    limited.IsTooDeepFor given.events most why → OfWithin (IsRefusal given) why →
    of_limits why ≡ None → IsShown given most document → ⊥
never_shown given most within.TooLong document deep refused other shown = none-some _ (sym other)
never_shown given most within.TooDeep document deep refused other shown =
    too_deep given most document deep shown
never_shown given most within.TooMuch document deep refused other shown = none-some _ (sym other)
never_shown given most (within.Compile refusal.Memory) document deep refused other shown =
    none-some _ (sym other)
never_shown given most (within.Compile (refusal.Event index rule)) document deep refused other
    shown = refused.outside (document, shown.read)

-- nor is a document shown in which a link contains a link
pub never_nested : (given : Handed) (most : ℕ) (document : Forest) (nested : Bool) →
    nested ≡ has_nested_link false document → nested ≡ true → IsShown given most document → ⊥
never_nested given most document nested is found shown =
    true≢false (sym found ∙ is ∙ shown.unnested)

-- the elements of what a document means
pub meant_nests : (given : Handed) (options : CompileOptions) (html : List ℕ) →
    KeepsImages options → depth given.events ≤ most_depth → IsChecked given →
    ((document : Forest) → flatten document ≡ given.events →
    html ≡ meaning options given.names given.bytes document) →
    NestsWithin (2 * most_depth + 5) html
meant_nests given options html safe few checked meant =
    subst (NestsWithin (2 * most_depth + 5)) (sym (meant checked.0 checked.1.flattened))
    (wider (2 * height checked.0 + 5) (2 * most_depth + 5)
    (meaning options given.names given.bytes checked.0)
    (let same = as_nodes given checked.0 checked.1 in omega (arith, few, same))
    (elements-nest given.bytes given.names options checked.0 checked.1.grammatical
    safe.links.grammar))

-- its events, over bytes that are a text's
module _ (events : List Event) (bytes text : List ℕ)
    (same : events ≡ flatten (plain (length text))) (value : bytes ≡ text)
    (utf8 : IsUtf8 text) where
  checked : (names : List (Bor (List ℕ) × Bor (List ℕ))) → IsChecked (handed events bytes names)
  checked names = (
    plain (length text),
    record {
      flattened = sym same;
      grammatical = subst (λ b. IsGrammatical b (name_table names) (plain (length text)))
          (sym value)
          (grammatical text (name_table names) utf8);
    },
  )

  -- what they mean
  pub shown : (options : CompileOptions) (html : List ℕ) →
      ((document : Forest) → flatten document ≡ events →
      html ≡ meaning options [] bytes document) → html ≡ plain_text text
  shown options html meant =
      meant (plain (length text)) (sym same)
      ∙ ap (λ b. meaning options [] b (plain (length text))) value ∙ means options text utf8

  pub made : (options : CompileOptions) (html : List ℕ) →
      ((document : Forest) → flatten document ≡ events →
      html ≡ meaning options [] bytes document) → (markdown : MarkdownOptions) →
      AreChosenFor markdown options → IsMadeOver markdown text html
  made options html meant markdown chosen = record {
    document = plain (length text);
    names = [];
    options = options;
    chosen = chosen;
    html = refl;
    grammatical = grammatical text [] utf8;
    means = meant (plain (length text)) (sym same)
        ∙ ap (λ b. meaning options [] b (plain (length text))) value;
  }

  -- they have a text, so that nothing but memory can be missing
  pub never : (options : CompileOptions) (why : SafeError) → KeepsImages options →
      IsRefusedFor options why → OfCompile (IsRefusal (handed events bytes [])) why →
      is_memory why ≡ false → ⊥
  never options safe.Options kept unsafe refused other = unsafe kept
  never options (safe.Compile refusal.Memory) kept unsafe refused other = true≢false other
  never options (safe.Compile (refusal.Event index rule)) kept unsafe refused other =
      refused.outside (checked [])

  pub never_within : (given : Handed) (why : WithinError) → given ≡ handed events bytes [] →
      limited.IsTooDeepFor given.events most_depth why → OfWithin (IsRefusal given) why →
      of_limits why ≡ None → ⊥
  never_within given within.TooLong is deep refused other = none-some _ (sym other)
  never_within given within.TooDeep is deep refused other =
      let two : depth given.events ≡ 2 =
      ap (λ (g : Handed). depth g.events) is ∙ ap depth same ∙ events-nest (plain (length text)) in
      omega (arith, deep, two)
  never_within given within.TooMuch is deep refused other = none-some _ (sym other)
  never_within given (within.Compile refusal.Memory) is deep refused other =
      none-some _ (sym other)
  never_within given (within.Compile (refusal.Event index rule)) is deep refused other =
      refused.outside (subst IsChecked (sym is) (checked []))

  -- its elements nest no deeper than they may
  pub nested : (options : CompileOptions) (html : List ℕ) → KeepsImages options →
      ((document : Forest) → flatten document ≡ events →
      html ≡ meaning options [] bytes document) → NestsWithin (2 * most_depth + 5) html
  nested options html safe meant =
      subst (NestsWithin (2 * most_depth + 5)) (sym (meant (plain (length text)) (sym same)))
      (wider 9 (2 * most_depth + 5) (meaning options [] bytes (plain (length text))) (omega arith)
      (elements-nest bytes [] options (plain (length text))
      (subst (λ b. IsGrammatical b [] (plain (length text))) (sym value)
      (grammatical text [] utf8)) safe.links.grammar))
