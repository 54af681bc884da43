-- What the code is supplied with is what the steps are given, before the definitions are known and
-- after; then what is printed is the meaning of the document.
use Rattle.std.proofs.Common.{◌≡◌, ◌<◌, ℕ, Bool, true, false, Option, Some, None, List, arith}
use Rattle.std.proofs.Common.{[], length, refl, sym, ap, ◌∙◌, subst}
use Rattle.std.specs.Prelude.{slice_get, map, option_and_then, if◌then◌else◌}
use Rattle.std.specs.Option.{option_map_or}
use Rattle.std.proofs.lemmas.Option.{slice_get-map}
use Rattle.md_base.specs.Tree.{Forest, flatten}
use Rattle.md_text.specs.declared.options.CompileOptions.{CompileOptions}
use Rattle.md_meaning.specs.Meaning.{meaning, ending_at}
use Rattle.md_meaning.specs.Meaning.At.{Defined, Context}
use Rattle.md_meaning.specs.Meaning.Finds.{first_ending}
use Rattle.md_tree.specs.Grammar.{IsChecked, IsGrammatical, IsReadAs}
use Rattle.md_steps.specs.Run.{defined, context_alone, printed}
use Rattle.md_steps.specs.Steps.{nowhere}
use Rattle.md_facts.proofs.FoundLemmas.{grammatical-there}
use Rattle.md_printer.specs.Supplies.{Supplies, target_at}
use Rattle.md_printer.specs.declared.context.Context.{Context as Supplied}
use Rattle.md_html.specs.Printed.{IsMeant, IsPrinted, IsPrintedOver, text_of}
use Rattle.md_html.specs.Within.{IsLonger}

none-led : (place : Option ℕ) → target_at [] place ≡ nowhere
none-led place = grind arith

mapped-led : (found : List Defined) (place : Option ℕ) →
    target_at (map (λ (d : Defined). d.target) found) place
    ≡ option_map_or (λ (d : Defined). d.target)
    (option_and_then (λ there. slice_get found there) place) nowhere
mapped-led found None = refl
mapped-led found (Some place) = grind (arith, slice_get-map)

module _ (code : Supplied) where
  -- before the definitions are known
  abbrev pub alone : Context
  alone =
      context_alone code.options.now code.checked.now.names code.checked.now.bytes code.ending.now

  pub alone-supplied : code.definitions.now ≡ [] → Supplies code alone
  alone-supplied none = record {
    bytes = refl;
    names = refl;
    options = refl;
    ending = refl;
    finds = λ index one place there led. ap (λ ts. target_at ts place) none ∙ none-led place
        ∙ either-way one.facts.resource;
  }
    where
      either-way : (b : Bool) → nowhere ≡ (if b then nowhere else nowhere)
      either-way true = refl
      either-way false = refl

  -- when they are
  abbrev whole : Forest → Context
  whole document = record alone { definitions = defined alone document }

  module _ (known : (document : Forest) → flatten document ≡ code.checked.now.events →
      code.definitions.now ≡ map (λ (d : Defined). d.target) (defined alone document)) where
    all-supplied : (document : Forest) → flatten document ≡ code.checked.now.events →
        Supplies code (whole document)
    all-supplied document flat = record {
      bytes = refl;
      names = refl;
      options = refl;
      ending = refl;
      finds = λ index one place there led. ap (λ ts. target_at ts place) (known document flat)
          ∙ mapped-led (defined alone document) place
          ∙ sym (led one (whole document) there (document, alone, flat, refl, refl));
    }

    pub supplied : IsChecked code.checked.now → (at : Context) × Supplies code at
    supplied checked =
        (whole checked.0, all-supplied checked.0 (IsReadAs.flattened checked.1))

    module _ (checked : IsChecked code.checked.now)
        (ending : (document : Forest) → flatten document ≡ code.checked.now.events →
        code.ending.now
        ≡ ending_at code.options.now code.checked.now.bytes (first_ending document))
        (law : (options : CompileOptions) (names : List (List ℕ × List ℕ)) (bytes : List ℕ)
        (document : Forest) → IsGrammatical bytes names document →
        printed options names bytes document ≡ meaning options names bytes document) where
      means : (document : Forest) → flatten document ≡ code.checked.now.events →
          text_of (whole document) document
          ≡ meaning code.options.now code.checked.now.names code.checked.now.bytes document
      means document flat =
          let first : List ℕ → Context = λ ending. context_alone code.options.now
          code.checked.now.names code.checked.now.bytes ending in
          ap (λ ending. text_of (record (first ending) {
            definitions = defined (first ending) document;
          }) document) (ending document flat)
          ∙ law code.options.now code.checked.now.names code.checked.now.bytes document
          (grammatical-there code.checked.now document checked flat)

      pub printed-meant : (text : List ℕ) → IsPrinted code text →
          IsMeant code.options.now code.checked.now text
      printed-meant text printed = λ document flat.
          printed.is (whole document) document (all-supplied document flat) flat
          ∙ means document flat

      pub over-longer : (limit : ℕ) → IsPrintedOver code limit →
          IsLonger code.options.now code.checked.now limit
      over-longer limit over = λ document flat.
          subst (λ text. limit < length text) (means document flat)
          (over.is (whole document) document (all-supplied document flat) flat)
