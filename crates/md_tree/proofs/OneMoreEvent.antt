-- One more event is read: the walk, the pass and the first line ending match all events so far, or
-- the event stops the walk and is refused.
use Rattle.std.proofs.Common.{◌≡◌, ℕ, suc, add-one, List, Some, sym, ap, ◌∙◌, subst, take}
use Rattle.md_tree.proofs.Common.{slice_get, slice_get_within, get_or_from_slice_get, Event}
use Rattle.md_tree.proofs.Common.{first_index, ending_after, passed, passed_over, pass_beginning}
use Rattle.md_tree.proofs.Common.{first_index-more, passed_more, CompileError, Handed, Course, Runs}
use Rattle.md_tree.proofs.Common.{Steps, beginning, HasRead, IsRefusal, course_of, Unbroken, IsStop}
use Rattle.md_tree.specs.declared.reader.Reader.{Reader}
use Rattle.md_tree.proofs.Checking.{Runs-more}
use Rattle.md_tree.proofs.Stopped.{IsRefusal-stopped}

module _ (bytes : List ℕ) (names : List (List ℕ × List ℕ)) where
  pub read-more : (events : List Event) (index : ℕ) (event : Event) (before after : Reader) →
      slice_get events index ≡ Some event → HasRead bytes names events index before → Steps
      (Unbroken bytes names) event (course_of events index before.walk)
      (course_of events (suc index) after.walk) →
      after.pass ≡ passed (Event.kind event) (Event.name event) before.pass →
      after.first_ending ≡ ending_after before.first_ending index event →
      HasRead bytes names events (suc index) after
  read-more events index event before after here read step pass ending =
      let inside = slice_get_within events index event here in
      let event_is = sym (get_or_from_slice_get events index event event here) in
      record {
        walked = Runs-more (Unbroken bytes names) events index event
            (course_of events index before.walk) _ inside read.walked
            (subst (λ e. Steps (Unbroken bytes names) e (course_of events index before.walk)
            (course_of events (suc index) after.walk)) event_is step);
        passed = passed_more events index event before.pass pass_beginning after.pass inside
            read.passed
            (subst (λ e. after.pass ≡ passed (Event.kind e) (Event.name e) before.pass) event_is
            pass) ∙ ap (λ n. passed_over (take n events) pass_beginning) (add-one index);
        first_ending = ending ∙ ap (ending_after before.first_ending index) event_is
            ∙ first_index-more events index event before.first_ending inside read.first_ending
            ∙ ap (λ n. first_index (take n events)) (add-one index);
      }

pub stopped-refused : (given : Handed) (index : ℕ) (event : Event) (course : Course)
    (stopped : CompileError) → slice_get given.events index ≡ Some event →
    Runs (Unbroken given.bytes given.names) (take index given.events) beginning course → IsStop
    given.bytes given.names index (Event.kind event) (Event.name event) (Event.point event) course
    stopped → IsRefusal given stopped
stopped-refused given index event course stopped here runs stop =
    IsRefusal-stopped given index event course (slice_get_within given.events index event here)
    runs stopped (subst (λ e. IsStop given.bytes given.names index (Event.kind e)
    (Event.name e) (Event.point e) course stopped)
    (sym (get_or_from_slice_get given.events index event event here)) stop)
