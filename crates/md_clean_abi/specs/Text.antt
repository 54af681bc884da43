-- The promises about a clean text in terms of C's options.
use Rattle.std.specs.Prelude.{◌≡◌, ℕ, ◌≤◌, List, Some, length}
use Rattle.md_text.specs.Url.{link_protocols, image_protocols}
use Rattle.md_safe.specs.Built.{IsBuiltAsRead}
use Rattle.md_safe.specs.Tokenized.{IsSafelyTokenized}
use Rattle.md_depth.specs.Levels.{NestsWithin}
use Rattle.md_reader.specs.Authors.{IsOfAuthors}
use Rattle.md_reader.specs.Chosen.{HasChosenOnly}
use Rattle.md_reader.specs.Safe.{IsSafeHtml, max_depth}
use Rattle.md_clean_abi.specs.Options.{names_of}
use Rattle.md_clean_abi.specs.declared.options.CCleanOptions.{CCleanOptions}

-- a text is safe HTML that authors may write; its elements are among the set names, or one of those
-- needs them; its URLs have one of the set protocols or none; it is tokenized and built as it is
-- read, and neither its nesting nor its length exceeds the limit
pub record IsCleanText (options : CCleanOptions) (text : List ℕ) : Type 0 where
  pub safe : IsSafeHtml link_protocols image_protocols text
  pub authors : IsOfAuthors text
  pub chosen : (names : List (List ℕ)) → names_of options.tags ≡ Some (Some names) →
      HasChosenOnly names text
  pub permitted : (names : List (List ℕ)) → names_of options.protocols ≡ Some (Some names) →
      IsSafeHtml names names text
  pub tokens : IsSafelyTokenized text
  pub tree : IsBuiltAsRead text
  pub nesting : NestsWithin max_depth text
  pub fits : length text ≤ options.max_output
