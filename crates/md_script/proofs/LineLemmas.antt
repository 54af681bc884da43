-- Lines that say nothing, and lines cut from an input.
use Rattle.std.proofs.Common.{◌≡◌, ℕ, true, false, List, [], ◌∷◌, length, Option, Some, None, refl}
use Rattle.std.proofs.Common.{sym, ap, ◌∙◌}
use Rattle.std.specs.List.{before_first, after_first, list_any, onto_first, position_or_len}
use Rattle.std.proofs.lemmas.Bool.{ltb-true, or_parts}
use Rattle.std.proofs.lemmas.List.Splits.{slice_split_first, slice_split-cons_no}
use Rattle.md_base.specs.declared.event.Kind.{Kind}
use Rattle.md_base.specs.declared.event.Name.{Name}
use Rattle.md_base.specs.declared.event.Event.{Event}
use Rattle.md_base.specs.declared.event.Point.{Point}
use Rattle.md_script.specs.Line.{◌>>=◌, is_space, is_line_feed, lines_of, kind_of, name_of}
use Rattle.md_script.specs.Line.{point_of, event_of}
use Rattle.md_script.proofs.SplitLemmas.{any_by_place}

-- an event from the parts that a line says
abbrev pub built : Option Kind → Option Name → Option Point → Option Event
built kind name point = do
  k ← kind
  n ← name
  p ← point
  Some (record { kind = k; name = n; point = p })

unplaced : (kind : Option Kind) (name : Option Name) (point : Option Point) → point ≡ None →
    None ≡ built kind name point
unplaced None name point e = refl
unplaced (Some k) None point e = refl
unplaced (Some k) (Some n) None e = refl
unplaced (Some k) (Some n) (Some p) e = cc

-- a sign and a name with no space after it
pub without_place : (line : List ℕ) (sign : ℕ) (rest : List ℕ) → line ≡ sign ∷ rest →
    after_first is_space rest ≡ [] →
    None ≡ event_of line
without_place line sign rest e nothing =
    unplaced (kind_of sign) (name_of (before_first is_space rest))
    (point_of (after_first is_space rest)) (ap point_of nothing) ∙ ap event_of (sym e)

-- the parts of a line make up its event
pub event_built : (line : List ℕ) (sign : ℕ) (rest before after : List ℕ) (kind : Option Kind)
    (name : Option Name)
    (point : Option Point) → line ≡ sign ∷ rest → before ≡ before_first is_space rest →
    after ≡ after_first is_space rest → kind ≡ kind_of sign → name ≡ name_of before →
    point ≡ point_of after →
    built kind name point ≡ event_of line
event_built line sign rest before after kind name point whole front back kinds names points =
    rw (whole, kinds, names, front, points, back) refl

-- ---- the first line

pub lines_at : (input : List ℕ) → true ≡ list_any is_line_feed input →
    lines_of input ≡ before_first is_line_feed input ∷ lines_of (after_first is_line_feed input)
lines_at input some =
    slice_split_first is_line_feed input 0 (ltb-true (position_or_len is_line_feed input)
    (length input) (sym (any_by_place is_line_feed input) ∙ sym some))

pub lines_cut : (input line following : List ℕ) → true ≡ list_any is_line_feed input →
    line ≡ before_first is_line_feed input → following ≡ after_first is_line_feed input →
    lines_of input ≡ line ∷ lines_of following
lines_cut input line following some front back =
    rw (front, back) (lines_at input some)

pub lines_alone : (input : List ℕ) → list_any is_line_feed input ≡ false →
    lines_of input ≡ input ∷ []
lines_alone [] e = refl
lines_alone (b ∷ input) e =
    let parts = or_parts (is_line_feed b) (list_any is_line_feed input) e in
    slice_split-cons_no is_line_feed b input parts.0 ∙ ap (onto_first b) (lines_alone input parts.1)
