-- The facts that a content gives about the names that it allows: computed once for each content,
-- for all names.
use Rattle.std.proofs.Common.{arith, ◌≡◌, Bool, true, false, not, ◌&&◌}
use Rattle.std.specs.Prelude.{if◌then◌else◌}
use Rattle.md_base.specs.declared.event.Name.{Name}
use Rattle.md_base.proofs.Lies.{lie}
use Rattle.md_base.specs.NameTests.{is_transparent, is_fence, is_chunk, is_call, is_cell, is_label}
use Rattle.md_base.specs.NameTests.{is_footnote_definition}
use Rattle.md_steps.specs.Content.{Content, Strings, Lines, Sources, Cells, Nothing, Childless}
use Rattle.md_steps.specs.Content.{is_source, is_allowed, content_of, content_inside}
use Rattle.md_steps.specs.State.{captures}
use Rattle.md_steps.specs.Steps.{is_row, is_raw, begins_target, is_labelled}
use Rattle.md_steps.specs.Claim.{is_laid, keeps_cells, keeps_lines}

-- the target of a resource or a definition is kept, and the resource after a label
abbrev pub keeps_target : Content → Bool
keeps_target content =
    elim content [ Strings ↦ true | Nothing ↦ true | Childless ↦ true | _ ↦ false ]

-- no call and no footnote stands there, at any depth
abbrev pub is_callless : Content → Bool
is_callless content =
    elim content [ Strings ↦ true | Sources ↦ true | Nothing ↦ true | Childless ↦ true | _ ↦ false ]

abbrev pub is_lines : Content → Bool
is_lines content = elim content [ Lines ↦ true | _ ↦ false ]

abbrev pub is_cells : Content → Bool
is_cells content = elim content [ Cells ↦ true | _ ↦ false ]

abbrev pub is_sources : Content → Bool
is_sources content = elim content [ Sources ↦ true | _ ↦ false ]

abbrev pub is_nothing : Content → Bool
is_nothing content = elim content [ Nothing ↦ true | Childless ↦ true | _ ↦ false ]

-- what these print is set aside where they end, and thrown away by what they stand in
abbrev pub is_set_aside : Name → Bool
is_set_aside name = is_source name && captures name

-- nothing is printed in these
abbrev pub is_quiet : Name → Bool
is_quiet name = is_nothing (content_of name) && not (is_transparent name)

abbrev pub implies : Bool → Bool → Bool
implies test holds = if test then holds else true

pub follows : (test holds : Bool) → implies test holds ≡ true → test ≡ true → holds ≡ true
follows test holds h t = grind arith

-- a fact computed for all names that pass a test, for one of them
pub picked : {A : Type 0} (b : Bool) (x y : A) → (if b then x else y) ≡ y → b ≡ true → x ≡ y
picked true x y h e = h
picked false x y h e = lie e

abbrev facts : Content → Name → Bool
facts c n =
    implies (is_laid c) (not (is_set_aside n))
    && (implies (is_laid c && not (captures n)) (is_laid (content_inside c n))
    && (implies (keeps_cells c)
    (keeps_cells (content_inside c n) && (not (is_row n) && not (is_cell n)))
    && (implies (keeps_lines c) (keeps_lines (content_inside c n)
    && (not (is_raw n) && (not (is_fence n) && not (is_chunk n))))
    && (implies (keeps_target c) (keeps_target (content_inside c n) && (not (begins_target n)
    && (not (is_set_aside n) && (not (is_labelled n) && not (is_label n)))))
    && (implies (is_callless c) (is_callless (content_inside c n)
    && (not (is_call n) && not (is_footnote_definition n)))
    && (implies (is_fence n) (is_lines c) && (implies (is_lines c && not (is_transparent n))
    (keeps_lines (content_inside c n) && not (is_raw n))
    && (implies (is_cells c && not (is_transparent n))
    (keeps_cells (content_inside c n) && (not (is_row n) && is_cell n))
    && (implies (is_sources c && not (is_transparent n)) (keeps_target (content_inside c n)
    && not (begins_target n)) && implies (is_nothing c) (is_transparent n))))))))))

-- what is known of a name that is allowed somewhere
pub record Facts (c : Content) (n : Name) : Type 0 where
  pub aside : is_laid c ≡ true → is_set_aside n ≡ false
  pub laid : is_laid c && not (captures n) ≡ true → is_laid (content_inside c n) ≡ true
  pub cells : keeps_cells c ≡ true →
      (keeps_cells (content_inside c n) ≡ true) × (is_row n ≡ false) × (is_cell n ≡ false)
  pub lines : keeps_lines c ≡ true → (keeps_lines (content_inside c n) ≡ true) × (is_raw n ≡ false)
      × (is_fence n ≡ false) × (is_chunk n ≡ false)
  pub target : keeps_target c ≡ true →
      (keeps_target (content_inside c n) ≡ true) × (begins_target n ≡ false)
      × (is_set_aside n ≡ false) × (is_labelled n ≡ false) × (is_label n ≡ false)
  pub callless : is_callless c ≡ true →
      (is_callless (content_inside c n) ≡ true) × (is_call n ≡ false)
      × (is_footnote_definition n ≡ false)
  pub fence : is_fence n ≡ true → is_lines c ≡ true
  pub in_lines : is_lines c && not (is_transparent n) ≡ true →
      (keeps_lines (content_inside c n) ≡ true) × (is_raw n ≡ false)
  pub in_cells : is_cells c && not (is_transparent n) ≡ true →
      (keeps_cells (content_inside c n) ≡ true) × (is_row n ≡ false) × (is_cell n ≡ true)
  pub in_sources : is_sources c && not (is_transparent n) ≡ true →
      (keeps_target (content_inside c n) ≡ true) × (begins_target n ≡ false)
  pub nothing : is_nothing c ≡ true → is_transparent n ≡ true

pub allowed-facts : (c : Content) (n : Name) → is_allowed c n ≡ true → Facts c n
allowed-facts c n h = grind (arith, follows)
