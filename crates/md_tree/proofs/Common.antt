-- The names that most proofs here cite, passed on from one place. Declares nothing.
pub use Rattle.std.specs.Prelude.{map, slice_get, unwrap_or, option_map, is_some, if◌then◌else◌, Ok}
pub use Rattle.std.specs.Prelude.{Err, reverse}
pub use Rattle.std.specs.List.{All, list_all, Contains}
pub use Rattle.std.proofs.Math.Seq.{take-suc}
pub use Rattle.std.proofs.lemmas.Option.{slice_get_within, get_or_from_slice_get, none-some}
pub use Rattle.std.proofs.lemmas.Option.{slice_get-get_or, slice_get-map}
pub use Rattle.std.proofs.lemmas.List.Elements.{All-cons, All-append, All-nil, All-head, All-tail}
pub use Rattle.std.proofs.lemmas.List.{get_or-map, map-append, length-map, take-append-drop}
pub use Rattle.std.proofs.lemmas.List.{reverse-append}
pub use Rattle.std.proofs.lemmas.List.Folds.{list_all-append}
pub use Rattle.std.specs.Str.{IsUtf8}
pub use Rattle.std.proofs.lemmas.Result.{err_from_is_err_and}
pub use Rattle.md_base.specs.declared.event.Point.{Point}
pub use Rattle.md_base.specs.declared.event.Name.{Name}
pub use Rattle.md_base.specs.declared.event.Kind.TheVariants.{Exit, Enter}
pub use Rattle.md_base.specs.Place.{text_between, label_between}
pub use Rattle.md_base.specs.declared.event.Position.{Position}
pub use Rattle.md_base.specs.declared.event.Name.TheVariants.{Data, GfmTable, GfmTableHead}
pub use Rattle.md_base.specs.declared.event.Name.TheVariants.{GfmTableDelimiterCellValue, ListItem}
pub use Rattle.md_base.specs.declared.event.Event.{Event}
pub use Rattle.md_base.specs.Tree.{Forest, flatten, Empty, Node, exiting, entering}
pub use Rattle.md_base.specs.Children.{or_else, first_on_spine}
pub use Rattle.md_base.specs.declared.event.AlignKind.{AlignKind}
pub use Rattle.md_base.specs.NameTests.{is_table, is_transparent, is_heading_mark, is_item_value}
pub use Rattle.md_base.specs.NameTests.{is_label_text, is_reference, is_definition_label}
pub use Rattle.md_base.specs.NameTests.{is_footnote_label, is_table_head, is_delimiter_row}
pub use Rattle.md_base.proofs.Lies.{lie}
pub use Rattle.md_base.specs.declared.event.Kind.{Kind}
pub use Rattle.md_pattern.specs.declared.kinds.Symbol.{Symbol}
pub use Rattle.md_pattern.specs.declared.kinds.Role.{Role}
pub use Rattle.md_pattern.specs.declared.kinds.Reading.{Reading}
pub use Rattle.md_pattern.specs.Steps.{is_complete, may_hold, start_of, is_whole, is_optional}
pub use Rattle.md_pattern.specs.Steps.{items_of, advance, begun_by, next_stage}
pub use Rattle.md_pattern.specs.Facts.{facts_at, contributing_over, partner_alone, tables_with}
pub use Rattle.md_pattern.specs.Facts.{tables_after, fact_at, facts_of, tables_at, PassState}
pub use Rattle.md_pattern.specs.Facts.{pass_beginning, passed, passed_over, sought_over}
pub use Rattle.md_pattern.specs.declared.kinds.Role.TheVariants.{Childless, Flow}
pub use Rattle.md_pattern.specs.declared.kinds.Reading.TheVariants.{Free}
pub use Rattle.md_pattern.specs.declared.kinds.Standing.{Standing}
pub use Rattle.md_pattern.specs.declared.kinds.Standing.TheVariants.{Through, Space, Solid, Mdx}
pub use Rattle.md_pattern.specs.declared.state.State.{State}
pub use Rattle.md_pattern.specs.Spine.{spine, shown, Matches, IsTail, IsGrouped}
pub use Rattle.md_pattern.specs.Shape.{EachNode, IsStanding, role_for, AreShaped, IsShaped}
pub use Rattle.md_pattern.specs.Shape.{inner_role, inner_before, IsShapedNode, last_symbol, Claim}
pub use Rattle.md_pattern.specs.declared.state.Stage.TheVariants.{Whole, Marker, Numeric}
pub use Rattle.md_pattern.specs.declared.state.Stage.TheVariants.{Hexadecimal, Setext}
pub use Rattle.md_pattern.specs.Partners.{index_after}
pub use Rattle.md_pattern.proofs.CountedFacts.{length_one}
pub use Rattle.md_pattern.specs.Standing.{standing_of}
pub use Rattle.md_pattern.specs.Pattern.{pattern_of, class_of, takes, Fits, IsCount, members}
pub use Rattle.md_pattern.specs.declared.facts.Fact.{Fact}
pub use Rattle.md_pattern.specs.Alignments.{alignments, alignment_of}
pub use Rattle.md_pattern.proofs.Passing.{facts-flatten, passed_more}
pub use Rattle.md_pattern.specs.declared.seeking.Wanted.{Wanted}
pub use Rattle.md_pattern.specs.Seeking.{wanted_by, search_of}
pub use Rattle.md_pattern.specs.declared.kinds.Item.{Item}
pub use Rattle.md_pattern.specs.declared.kinds.Item.TheVariants.{Once, Maybe, Many}
pub use Rattle.md_pattern.specs.declared.state.Stage.{Stage}
pub use Rattle.md_pattern.specs.Ending.{first_index, ending_after}
pub use Rattle.md_pattern.proofs.FirstIndex.{first_index-more}
pub use Rattle.md_pattern.specs.contracts.kinds.Symbol.{the_type}
pub use Rattle.md_pattern.specs.declared.seeking.Sought.{Sought}
pub use Rattle.md_pattern.specs.declared.kinds.Class.{Class}
pub use Rattle.md_pattern.specs.Places.{state_of}
pub use Rattle.md_tree.specs.declared.mention.Referral.{Referral}
pub use Rattle.md_tree.specs.declared.mention.Referral.TheVariants.{Missing, Resource, Label}
pub use Rattle.md_tree.specs.declared.rule.Rule.{Rule}
pub use Rattle.md_tree.specs.declared.rule.CompileError.{CompileError}
pub use Rattle.md_tree.specs.Machine.{Open, Outer, Course, Exits, ExitsWhere, Reads, Runs, Steps}
pub use Rattle.md_tree.specs.Machine.{beginning, Entry, entered_on, after_exit, after_through}
pub use Rattle.md_tree.specs.Machine.{StepsBy, Enters, entered, after_entry}
pub use Rattle.md_tree.specs.Rules.{place, broken_by, broken_rule, target_at, target_after}
pub use Rattle.md_tree.specs.Rules.{target_of, reading_of, MeetRules}
pub use Rattle.md_tree.specs.Walk.{Anything, BreaksWhere, BreaksAtExit, StopsAtExit, IsStop}
pub use Rattle.md_tree.specs.Walk.{IsStopInside, Unbroken, point_at, Passes, IsStopAtLeaf}
pub use Rattle.md_tree.specs.Walk.{course_of, StopsBy, opens_at, opens_seen, place_at, outer_of}
pub use Rattle.md_tree.specs.declared.mention.Mention.{Mention}
pub use Rattle.md_tree.specs.declared.mention.Mentioned.{Mentioned}
pub use Rattle.md_tree.specs.Mentions.{mentions_of, mentions_among, IsResolved, mention_of}
pub use Rattle.md_tree.specs.Mentions.{identifier_at, defined, footnoted, mentions_with, defined_by}
pub use Rattle.md_tree.specs.Mentions.{footnoted_by}
pub use Rattle.md_tree.specs.Grammar.{Handed, IsGrammatical, IsReadAs, IsChecked, handed}
pub use Rattle.md_tree.specs.Grammar.{input_of}
pub use Rattle.md_tree.specs.Refusal.{IsRefusal, opening, Level, role_in, symbol_after, EndsInGroup}
pub use Rattle.md_tree.specs.Refusal.{EndsBroken, before_in, BeginNoTree}
pub use Rattle.md_tree.specs.Resolve.{IsUnresolvedBy, IsUnresolved}
pub use Rattle.md_tree.specs.Numbers.{numbered, number_for, facts_with, with_number}
pub use Rattle.md_tree.specs.Numbers.{is_of_definitions, definition_for, place_of, is_same, which}
pub use Rattle.md_tree.specs.Numbers.{number_of, put_number, NumbersFrom, IdentifiersBefore}
pub use Rattle.md_tree.specs.Found.{index_if, position_from, partner_event, position_ended}
pub use Rattle.md_tree.specs.Found.{EntersSome, position_there, position_at}
pub use Rattle.md_tree.specs.Texts.{EntersAt, positions_of, ExitsAt, has_reading, is_text}
pub use Rattle.md_tree.specs.Texts.{is_identifier}
pub use Rattle.md_tree.specs.Entered.{children_of, IsEnteredAt, EntersNode}
pub use Rattle.md_tree.specs.Tables.{IsTable, in_each}
pub use Rattle.md_tree.specs.Reads.{first_place, reads, is_reader}
pub use Rattle.md_tree.specs.declared.checked.Checked.TheInside.{Inside}
pub use Rattle.md_tree.specs.Checked.{handed_of, IsKept}
pub use Rattle.md_tree.specs.Indices.{AreDefinitions}
pub use Rattle.md_tree.specs.declared.mention.Mention.TheVariants.{Nothing, Reference, Call}
pub use Rattle.md_tree.specs.declared.mention.Mention.TheVariants.{Definition, FootnoteDefinition}
pub use Rattle.md_tree.specs.Reader.{HasRead}
pub use Rattle.md_tree.specs.declared.open_nodes.Aim.{Aim}
