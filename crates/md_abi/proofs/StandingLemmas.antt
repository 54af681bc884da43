-- A list of C's input that is converted in order: the converted items, followed by those that the
-- rest encodes.
use Rattle.std.proofs.Common.{◌≡◌, ℕ, ◌+◌, ◌<◌, ◌≤◌, List, [], ◌∷◌, ◌++◌, length, map, get_or, drop}
use Rattle.std.proofs.Common.{Option, Some, None, sym, ap, ◌∙◌}
use Rattle.std.proofs.lemmas.List.{append_assoc, append-nil, map-append, at_drop_more, at_drop_all}
use Rattle.md_abi.specs.Standing.{StandFor, IsFirstWithout}

module _ {A B : Type 0} (meaning : A → Option B) (given : List A) (index : ℕ) (read : List B)
    (whole : map Some read ++ map meaning (drop index given) ≡ map meaning given) where
  -- the next item encodes a value
  pub one_more : (next : A) (value : B) (more : List B) → index < length given →
      Some value ≡ meaning (get_or given index next) → more ≡ read ++ value ∷ [] →
      map Some more ++ map meaning (drop (index + 1) given) ≡ map meaning given
  one_more next value more within stands pushed =
      rw (pushed, map-append Some read (value ∷ []), append_assoc, stands)
      (sym (at_drop_more (λ left. map Some read ++ map meaning left) given index next within)
      ∙ whole)

  -- the next one is invalid
  pub first_without : (next : A) (count : ℕ) → index < length given →
      None ≡ meaning (get_or given index next) →
      count ≡ length read → IsFirstWithout meaning given count
  first_without next count within none counted = record {
    before = read;
    others = map meaning (drop (index + 1) given);
    found =
        sym whole ∙ at_drop_more (λ left. map Some read ++ map meaning left) given index next within
        ∙ ap (λ first. map Some read ++ first ∷ map meaning (drop (index + 1) given)) (sym none);
    counted = counted;
  }

  -- nothing is left
  pub all_read : length given ≤ index → StandFor meaning given read
  all_read ended =
      sym whole ∙ at_drop_all (λ left. map Some read ++ map meaning left) given index ended
      ∙ append-nil (map Some read)
