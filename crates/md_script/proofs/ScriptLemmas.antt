-- A script read line by line: each valid line is one step of progress, and the other lines end the
-- reading. `read_script` has its invariant and its clauses from here, since it promises something
-- about all lines together.
use Rattle.std.proofs.Common.{◌≡◌, ℕ, ◌+◌, ◌*◌, ◌<◌, ◌≤◌, Bool, true, false, ◌&&◌, ◌||◌, cond, List}
use Rattle.std.proofs.Common.{[], ◌∷◌, ◌++◌, length, Option, Some, None, refl, sym, ap, ◌∙◌, arith}
use Rattle.std.proofs.Common.{is_some, bytes_eq}
use Rattle.std.specs.Prelude.{filter_map, filter, option_to_list, MatchOption, unwrap_or}
use Rattle.std.specs.Borrow.{Bor}
use Rattle.std.specs.List.{join_with_byte, cons_option}
use Rattle.std.proofs.lemmas.List.Elements.{filter_map-append, filter-append}
use Rattle.std.proofs.lemmas.Bool.{true≢false, and_parts}
use Rattle.std.proofs.lemmas.List.{append_assoc, append-nil, length-append, length_push}
use Rattle.std.proofs.lemmas.List.Splits.{join_with_byte-slice_split}
use Rattle.std.proofs.lemmas.Slice.Eq.{bytes_eq-Decides}
use Rattle.md_base.specs.declared.event.Event.{Event}
use Rattle.md_script.specs.Line.{lines_of, event_of}
use Rattle.md_script.specs.Script.{end_line, is_readable_after, ReadsAfter, StandsFor, StopsAfter}
use Rattle.md_script.specs.Script.{IsFirstUnreadable, Explains}
use Rattle.md_script.specs.PlainLine.{BeginsWithEvent}
use Rattle.md_script.specs.declared.error.RunError.TheVariants.{Line}
use Rattle.md_text.specs.declared.options.CompileOptions.{CompileOptions}
use Rattle.md_script.specs.Setting.{is_setting, option_name, is_new, HasOptions}
use Rattle.md_script.proofs.SettingLemmas.{is_marked, setting_is_marked, event_is_unmarked}
use Rattle.md_script.proofs.SettingLemmas.{new_by_marked, options_by_marked}

-- what is known while lines are read: those seen, and what the reader holds
pub record Progress (input : List ℕ) (events : List Event) (settings : List (List ℕ))
    (rest : List ℕ) : Type 0 where
  pub seen : List (List ℕ)
  pub whole : lines_of input ≡ seen ++ lines_of rest
  pub reads : ReadsAfter [] seen
  pub says : events ≡ filter_map event_of seen
  pub sets : settings ≡ filter is_marked seen
  pub counted : length events + length settings ≡ length seen
  pub short : 2 * (length events + length settings) + length rest ≤ length input

reads_push : (earlier seen : List (List ℕ)) (line : List ℕ) → ReadsAfter earlier seen →
    is_readable_after (earlier ++ seen) line ≡ true → ReadsAfter earlier (seen ++ line ∷ [])
reads_push earlier [] line reads readable = (rw append-nil at readable, tt)
reads_push earlier (first ∷ seen) line reads readable =
    grind (arith, append_assoc, readable, reads_push (earlier ++ first ∷ []) seen line)

cons_alone : (said : Option Event) → option_to_list said ≡ cons_option said []
cons_alone None = refl
cons_alone (Some event) = refl

says_push : (seen : List (List ℕ)) (line : List ℕ) →
    filter_map event_of seen ++ option_to_list (event_of line)
    ≡ filter_map event_of (seen ++ line ∷ [])
says_push seen line =
    rw (cons_alone (event_of line), filter_map-append event_of seen (line ∷ [])) refl

-- ---- one line more

-- what is answered of a line by the settings that are kept
abbrev pub takes : List (List ℕ) → List ℕ → Bool
takes settings line =
    is_some (event_of line) || is_setting line && is_new settings (option_name line)

-- a line that is read is kept unless it is an event
kept_line : (settings : List (List ℕ)) (line : List ℕ) (said : Option Event) →
    said ≡ event_of line →
    takes settings line ≡ true → cond (is_some said) [] (line ∷ []) ≡ filter is_marked (line ∷ [])
kept_line settings line (Some event) e taken = rw (event_is_unmarked line event e) refl
kept_line settings line None e taken =
    rw (setting_is_marked line (and_parts (is_setting line) _ (rw (← e) at taken)).0) refl

read_line_has_bytes : (settings : List (List ℕ)) (line : List ℕ) →
    takes settings line ≡ true → 0 < length line
read_line_has_bytes settings [] taken = cc
read_line_has_bytes settings (b ∷ line) taken = omega arith

-- each line more is an event or a setting more
counted_more :
    (events : List Event) (settings : List (List ℕ)) (line : List ℕ) (said : Option Event) →
    length events + length settings + 1 ≡ length (events ++ option_to_list said)
    + length (settings ++ cond (is_some said) [] (line ∷ []))
counted_more events settings line (Some event) =
    omega (arith, length-append events (event ∷ []), length-append settings [])
counted_more events settings line None =
    omega (arith, length-append events [], length-append settings (line ∷ []))

-- ---- a line that can't be read, and no line

-- what stops the reading and what ends a script don't go together
clash : (before earlier others body document : List (List ℕ)) →
    earlier ++ others ≡ body ++ end_line ∷ document →
    ReadsAfter before earlier → ReadsAfter before body → StopsAfter (before ++ earlier) others → ⊥
clash before [] [] [] document e reads script stops = cc
clash before [] (line ∷ others) [] document e reads script stops =
    let same : line ≡ end_line = cc in
    true≢false (ap (λ l. bytes_eq l end_line) (sym same) ∙ stops.0)
clash before [] [] (first ∷ body) document e reads script stops = cc
clash before [] (line ∷ others) (first ∷ body) document e reads script stops =
    let same : first ≡ line = cc in
    true≢false (sym (rw same at script.0) ∙ rw append-nil at stops.1)
clash before (line ∷ earlier) others [] document e reads script stops =
    let same : line ≡ end_line = cc in
    true≢false (sym (rw same at reads.0))
clash before (line ∷ earlier) others (first ∷ body) document e reads script stops =
    grind (arith, append_assoc, clash (before ++ line ∷ []) earlier others body document)

explained : {input : List ℕ} {number : ℕ} → IsFirstUnreadable input number →
    Explains input (Line number)
explained why = grind (arith, clash)

-- ---- a line more, the end, or a line that can't be read

-- the lines after one
abbrev lines_after : Option (Bor (List ℕ)) → List (List ℕ)
lines_after None = []
lines_after (Some f) = lines_of f.now

-- an input begins with a line, and this follows
abbrev Begins : List ℕ → List ℕ → Option (Bor (List ℕ)) → Type 0
Begins input line following = MatchOption following (lines_of input ≡ line ∷ [])
    (λ f. lines_of input ≡ line ∷ lines_of f.now)

module _ {input rest : List ℕ} {events : List Event} {settings : List (List ℕ)}
    (known : Progress input events settings rest) where
  -- a line is taken exactly if it can be read after those that were seen
  readable : (line : List ℕ) → is_readable_after known.seen line ≡ takes settings line
  readable line = rw (known.sets, new_by_marked known.seen (option_name line)) refl

  pub line_more : (line following : List ℕ) →
      lines_of rest ≡ line ∷ lines_of following → length line + length following + 1 ≡ length rest →
      takes settings line ≡ true →
      Progress input (events ++ option_to_list (event_of line))
      (settings ++ cond (is_some (event_of line)) [] (line ∷ [])) following
  line_more line following cut size taken =
      let more = counted_more events settings line (event_of line) in
      record {
        seen = known.seen ++ line ∷ [];
        whole = rw (known.whole, cut) (sym (append_assoc known.seen (line ∷ []) _));
        reads = reads_push [] known.seen line known.reads (readable line ∙ taken);
        says = rw known.says (says_push known.seen line);
        sets = rw (kept_line settings line (event_of line) refl taken, known.sets)
            (sym (filter-append is_marked known.seen (line ∷ [])));
        counted = omega (arith, known.counted, length_push known.seen line, more);
        short = omega (arith, known.short, size, read_line_has_bytes settings line taken, more);
      }

  -- a plain line more
  pub plain_more : (event : Event) (following : List ℕ) →
      BeginsWithEvent rest event following →
      Progress input (events ++ event ∷ []) settings following
  plain_more event following read =
      let line = read.line in
      let taken : takes settings line ≡ true = rw read.says refl in
      rw (read.says, append-nil) at (line_more line following read.cut read.size taken)

  script_ends : (line bytes : List ℕ) (document : List (List ℕ))
      (options : CompileOptions) → lines_of rest ≡ line ∷ document → bytes_eq line end_line ≡ true →
      bytes ≡ join_with_byte 10 document → HasOptions settings options →
      StandsFor input events bytes options
  script_ends line bytes document options cut ends joined has = record {
    body = known.seen;
    document = document;
    script = grind (arith, bytes_eq-Decides);
    says = known.says;
    sets = options_by_marked known.seen options (rw known.sets at has);
    rest = joined;
  }

  -- the document after the line, or none
  pub script_ends_at : (line : List ℕ) (following : Option (Bor (List ℕ)))
      (document empty : Bor (List ℕ)) (options : CompileOptions) →
      Begins rest line following →
      bytes_eq line end_line ≡ true → document ≡ unwrap_or following empty → empty.now ≡ [] →
      HasOptions settings options → StandsFor input events document.now options
  script_ends_at line None document empty options cut ends is nothing has =
      script_ends line document.now [] options cut ends (ap (λ d. d.now) is ∙ nothing) has
  script_ends_at line (Some f) document empty options cut ends is nothing has =
      script_ends line document.now (lines_of f.now) options cut ends
      (rw is (sym (join_with_byte-slice_split 10 f.now))) has

  pub line_stops : (line : List ℕ) (following : Option (Bor (List ℕ))) →
      Begins rest line following →
      bytes_eq line end_line ≡ false → takes settings line ≡ false →
      Explains input (Line (length events + length settings + 1))
  line_stops line following cut other nothing = explained (record {
    earlier = known.seen;
    others = line ∷ lines_after following;
    whole = known.whole ∙ ap (λ lines. known.seen ++ lines) (cut_after following cut);
    reads = known.reads;
    stops = (other, readable line ∙ nothing);
    counted = ap (λ n. n + 1) known.counted;
  })
    where
      cut_after : (following : Option (Bor (List ℕ))) → Begins rest line following →
          lines_of rest ≡ line ∷ lines_after following
      cut_after None cut = cut
      cut_after (Some f) cut = cut

  pub input_stops : (line : List ℕ) → lines_of rest ≡ line ∷ [] →
      takes settings line ≡ true → Explains input (Line (length events + length settings + 1 + 1))
  input_stops line cut taken = explained (record {
    earlier = known.seen ++ line ∷ [];
    others = [];
    whole = rw (known.whole, cut) (sym (append-nil (known.seen ++ line ∷ [])));
    reads = reads_push [] known.seen line known.reads (readable line ∙ taken);
    stops = tt;
    counted = omega (arith, known.counted, length_push known.seen line);
  })
