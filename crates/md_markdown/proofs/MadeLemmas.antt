-- A text of the compiler is that of a document over these bytes.
use Rattle.std.proofs.Common.{◌≡◌, ◌++◌, ℕ, Bool, List, [], refl, IsTrue, option_map}
use Rattle.std.proofs.Common.{inl, inr, subst, sym, string_bytes}
use Rattle.std.proofs.lemmas.List.{append-nil}
use Rattle.std.proofs.lemmas.List.Elements.{All-nil}
use Rattle.std.specs.Borrow.{Bor}
use Rattle.md_base.specs.Reference.{name_table}
use Rattle.md_base.specs.Tree.{Forest, flatten}
use Rattle.md_base.specs.declared.event.Event.{Event}
use Rattle.md_text.specs.declared.options.CompileOptions.{CompileOptions}
use Rattle.md_tree.specs.Grammar.{IsChecked, handed}
use Rattle.md_meaning.specs.Meaning.{meaning}
use Rattle.md_references.specs.Names.{are_html}
use Rattle.md_writer.specs.Added.{AreAdded, IsPiece}
use Rattle.md_blocks.specs.declared.options.MarkdownOptions.{MarkdownOptions}
use Rattle.md_markdown.specs.Chosen.{AreChosenFor}
use Rattle.md_markdown.specs.Made.{IsEnding, IsMadeOf, IsMadeOver, MayBeAdded}
use Rattle.md_markdown.specs.Parsed.{IsMadeOfEither}

-- the meaning of a checked list of events is that of the document that it flattens
pub made : (events : List Event) (bytes text : List ℕ)
    (names : List (Bor (List ℕ) × Bor (List ℕ))) (options : CompileOptions) →
    IsTrue (are_html (name_table names)) → IsChecked (handed events bytes names) →
    ((document : Forest) → flatten document ≡ events →
    text ≡ meaning options (name_table names) bytes document) →
    (markdown : MarkdownOptions) → AreChosenFor markdown options → IsMadeOver markdown bytes text
made events bytes text names options html checked means markdown chosen = record {
  document = checked.0;
  names = name_table names;
  options = options;
  chosen = chosen;
  html = html;
  grammatical = checked.1.grammatical;
  means = means checked.0 checked.1.flattened;
}

-- nothing may be appended for any base
pub none : (base : _) → AreAdded base []
none base = record { pieces = []; each = All-nil (IsPiece base); joined = refl }

module _ (markdown : MarkdownOptions) (document bytes text : List ℕ) where
  -- a text over the document's bytes alone
  pub of_own : IsMadeOver markdown document text → IsMadeOf markdown document text
  of_own over = record {
    added = [];
    may = record {
      urls = [];
      ending = [];
      resolved = none (option_map string_bytes markdown.base);
      ends = inl refl;
      joined = refl;
    };
    over = subst (λ b. IsMadeOver markdown b text) (sym (append-nil document)) over;
  }

  -- a text over the parsed bytes, which are the document's with those appended to it, or over the
  -- document's own alone
  pub of_either : (urls ending : List ℕ) →
      AreAdded (option_map string_bytes markdown.base) urls → IsEnding ending →
      bytes ≡ document ++ (urls ++ ending) → IsMadeOfEither markdown bytes document text →
      IsMadeOf markdown document text
  of_either urls ending resolved ends same (inl over) = record {
    added = urls ++ ending;
    may = record {
      urls = urls;
      ending = ending;
      resolved = resolved;
      ends = ends;
      joined = refl;
    };
    over = subst (λ b. IsMadeOver markdown b text) same over;
  }
  of_either urls ending resolved ends same (inr over) = of_own over
