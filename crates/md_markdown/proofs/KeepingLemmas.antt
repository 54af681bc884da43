-- A text of the compiler is that of a document with pieces of authors.
use Rattle.std.proofs.Common.{◌≡◌, ◌++◌, ℕ, List, refl, IsTrue, option_map, string_bytes}
use Rattle.std.proofs.Common.{sym, ap, ◌∙◌, length, drop}
use Rattle.std.specs.List.{concat}
use Rattle.std.proofs.Math.Seq.{drop-append_seam}
use Rattle.std.specs.Borrow.{Bor}
use Rattle.md_base.specs.Reference.{name_table}
use Rattle.md_base.specs.Tree.{Forest, flatten}
use Rattle.md_base.specs.declared.event.Event.{Event}
use Rattle.md_text.specs.declared.options.CompileOptions.{CompileOptions}
use Rattle.md_tree.specs.Grammar.{IsChecked, handed}
use Rattle.md_meaning.specs.Meaning.{meaning}
use Rattle.md_references.specs.Names.{are_html}
use Rattle.md_writer.specs.Added.{AreAdded}
use Rattle.md_kept.specs.Pieces.{ArePieces, html_texts}
use Rattle.md_blocks.specs.declared.options.MarkdownOptions.{MarkdownOptions}
use Rattle.md_markdown.specs.Keeping.{IsKeptOf, HavePieces, ArePiecesAllowed}
use Rattle.md_markdown.specs.Made.{IsEnding}

module _ (markdown : MarkdownOptions) (document urls ending own pieces whole : List ℕ)
    (events : List Event) where
  -- the appended pieces are those of the events
  joined : own ≡ document ++ (urls ++ ending) → whole ≡ own ++ pieces →
      ArePieces whole (length own) events →
      whole ≡ (document ++ (urls ++ ending)) ++ concat (html_texts whole (length own) events)
  joined before after are =
      let last : pieces ≡ concat (html_texts whole (length own) events) =
      sym (drop-append_seam own pieces) ∙ ap (λ x. drop (length own) x) (sym after)
      ∙ are.joined in
      after ∙ ap (λ x. own ++ x) last
      ∙ ap (λ x. x ++ concat (html_texts whole (length own) events)) before

  pub have_pieces : AreAdded (option_map string_bytes markdown.base) urls → IsEnding ending →
      own ≡ document ++ (urls ++ ending) → whole ≡ own ++ pieces →
      ArePieces whole (length own) events → HavePieces markdown document whole events
  have_pieces resolved ends before after are = record {
    added = urls ++ ending;
    may = record {
      urls = urls;
      ending = ending;
      resolved = resolved;
      ends = ends;
      joined = refl;
    };
    pieces = html_texts whole (length own) events;
    each = are.each;
    joined = joined before after are;
    shown = ap (λ x. html_texts whole (length x) events) (sym before);
  }

-- the meaning of a checked list of events is that of the document that it flattens
pub kept : (markdown : MarkdownOptions) (document whole text : List ℕ) (events : List Event)
    (names : List (Bor (List ℕ) × Bor (List ℕ))) (options : CompileOptions) →
    IsTrue (are_html (name_table names)) → ArePiecesAllowed markdown options →
    HavePieces markdown document whole events → IsChecked (handed events whole names) →
    ((tree : Forest) → flatten tree ≡ events →
    text ≡ meaning options (name_table names) whole tree) →
    IsKeptOf markdown document text
kept markdown document whole text events names options html allowed have checked means = record {
  added = have.added;
  may = have.may;
  pieces = have.pieces;
  each = have.each;
  bytes = whole;
  joined = have.joined;
  tree = checked.0;
  names = name_table names;
  options = allowed.own;
  chosen = allowed.chosen;
  html = html;
  grammatical = checked.1.grammatical;
  shown = ap (λ x. html_texts whole (length (document ++ have.added)) x) checked.1.flattened
      ∙ have.shown;
  means = means checked.0 checked.1.flattened
      ∙ ap (λ o. meaning o (name_table names) whole checked.0) allowed.allowed;
}
