-- The mentions that a walk keeps are all except the empty ones, each with the index of its event.
-- So what is resolved among those kept is resolved among all, as the grammar requires.
use Rattle.std.proofs.Common.{◌≡◌, ℕ, suc, ◌+◌, Some, List, [], ◌∷◌, ◌++◌, refl, sym, ap, ◌∙◌}
use Rattle.std.proofs.Common.{append_assoc, append-nil, arith, ◌≤◌, length}
use Rattle.md_tree.proofs.Common.{slice_get, All, All-cons, All-nil, All-head, All-tail, Mention}
use Rattle.md_tree.proofs.Common.{Nothing, Mentioned, Forest, Empty, Node, index_after, mentions_of}
use Rattle.md_tree.proofs.Common.{mentions_with, mentions_among, defined, footnoted, IsResolved}
use Rattle.md_tree.proofs.Common.{length_one, map, Fact, Reference, identifier_at, which, number_of}
use Rattle.md_tree.proofs.Common.{with_number, put_number, numbered, number_for, facts_with}
use Rattle.md_tree.proofs.NodesRead.{mentions_over}
use Rattle.md_tree.proofs.MentionsResolved.{put-none, put-past}

-- those of these mentions that are of something, where the first is of the event at an index
abbrev pub listed : ℕ → List Mention → List Mentioned
listed index [] = []
listed index (Nothing ∷ mentions) = listed (suc index) mentions
listed index (mention ∷ mentions) =
    record { index = index; mention = mention } ∷ listed (suc index) mentions

with_listed : (mention : Mention) (index : ℕ) (before : List Mentioned) (later : List Mention) →
    mentions_with index mention before ++ listed (suc index) later
    ≡ before ++ listed index (mention ∷ later)
with_listed mention index before later = grind (arith, append_assoc)

over_listed : (forest : Forest) (index : ℕ) (before : List Mentioned) (later : List Mention) →
    mentions_over index forest before ++ listed (index_after index forest) later ≡ before
    ++ listed index (mentions_of forest ++ later)
over_listed Empty index before later = refl
over_listed (Node name start end children rest) index before later =
    grind (arith, over_listed rest, over_listed children, with_listed, append_assoc)

-- a document's mentions
pub mentions_over-listed : (forest : Forest) →
    mentions_over 0 forest [] ≡ listed 0 (mentions_of forest)
mentions_over-listed forest =
    sym (append-nil (mentions_over 0 forest [])) ∙ over_listed forest 0 [] []
    ∙ ap (listed 0) (append-nil (mentions_of forest))

-- what is defined stands in the list
pub defined_listed : (bytes : List ℕ) (mentions : List Mention) (index : ℕ) →
    defined bytes (mentions_among (listed index mentions)) ≡ defined bytes mentions
defined_listed bytes [] index = refl
defined_listed bytes (_ ∷ mentions) index = grind (arith, defined_listed bytes mentions)

pub footnoted_listed : (bytes : List ℕ) (mentions : List Mention) (index : ℕ) →
    footnoted bytes (mentions_among (listed index mentions)) ≡ footnoted bytes mentions
footnoted_listed bytes [] index = refl
footnoted_listed bytes (_ ∷ mentions) index = grind (arith, footnoted_listed bytes mentions)

resolved_same : (bytes : List ℕ) (some others : List Mention) (mention : Mention) →
    defined bytes some ≡ defined bytes others → footnoted bytes some ≡ footnoted bytes others →
    IsResolved bytes some mention → IsResolved bytes others mention
resolved_same bytes some others mention d f is = grind arith

pub resolved-listed : (bytes : List ℕ) (mentions : List Mention) (mention : Mention) →
    IsResolved bytes mentions mention →
    IsResolved bytes (mentions_among (listed 0 mentions)) mention
resolved-listed bytes mentions mention =
    grind (arith, resolved_same, defined_listed, footnoted_listed)

-- what holds of nothing and of each in the list holds of each
all_listed : (P : Mention → Type 0) → P Nothing → (mentions : List Mention) (index : ℕ) →
    All P (mentions_among (listed index mentions)) → All P mentions
all_listed P none [] index all = All-nil P
all_listed P none (Nothing ∷ mentions) index all = All-cons P Nothing mentions none
    (all_listed P none mentions (suc index) all)
all_listed P none (mention ∷ mentions) index all =
    let later = mentions_among (listed (suc index) mentions) in
    All-cons P mention mentions (All-head P mention later all)
    (all_listed P none mentions (suc index) (All-tail P mention later all))

pub all-resolved : (bytes : List ℕ) (mentions : List Mention) →
    All (IsResolved bytes (mentions_among (listed 0 mentions)))
    (mentions_among (listed 0 mentions)) → All (IsResolved bytes mentions) mentions
all-resolved bytes mentions all =
    let some = mentions_among (listed 0 mentions) in
    λ index d inside. resolved_same bytes some mentions _ (defined_listed bytes mentions 0)
    (footnoted_listed bytes mentions 0)
    (all_listed (IsResolved bytes some) tt mentions 0 all index d inside)

-- an entry of the list is the mention of the event at its index
record GotListed (mentions : List Mention) (index : ℕ) (one : Mentioned) : Type 0 where
  at : ℕ
  index_is : one.index ≡ index + at
  got : slice_get mentions at ≡ Some one.mention

got_later : (mention : Mention) (mentions : List Mention) (index : ℕ) (one : Mentioned) →
    GotListed mentions (suc index) one → GotListed (mention ∷ mentions) index one
got_later mention mentions index one got =
    let at = got.at in
    let next : suc index + at ≡ index + suc at = omega arith in
    record { at = suc at; index_is = got.index_is ∙ next; got = got.got }

got_listed : (mentions : List Mention) (index at : ℕ) (one : Mentioned) →
    slice_get (listed index mentions) at ≡ Some one → GotListed mentions index one
got_listed [] index at one e = cc
got_listed (Nothing ∷ mentions) index at one e = grind (arith, got_listed mentions, got_later)
got_listed (mention ∷ mentions) index at one e = grind (arith, got_later, got_listed mentions)

pub got-listed : (mentions : List Mention) (at : ℕ) (one : Mentioned) →
    slice_get (listed 0 mentions) at ≡ Some one → slice_get mentions one.index ≡ Some one.mention
got-listed mentions at one e =
    let got = got_listed mentions 0 at one e in
    let place = got.at in
    let none : 0 + place ≡ place = omega arith in
    ap (λ i. slice_get mentions i) (got.index_is ∙ none) ∙ got.got

-- Numbers written one by one are those of the list.

-- a mention of nothing writes no number
module _ (number : Mention → ℕ) (none : number Nothing ≡ 0) where
  one_listed : (mention : Mention) (mentions : List Mention) (index : ℕ) (facts : List Fact) →
      numbered number (listed index (mention ∷ mentions)) facts
      ≡ numbered number (listed (suc index) mentions) (put_number index (number mention) facts)
  one_listed mention mentions index facts = grind (arith, put-none)

  past_listed : (mentions : List Mention) (index : ℕ) (facts : List Fact) → length facts ≤ index →
      numbered number (listed index mentions) facts ≡ facts
  past_listed [] index facts past = refl
  past_listed (mention ∷ mentions) index facts past =
      grind (arith, past_listed mentions, one_listed, put-past)

  put_after : (before facts : List Fact) (n index : ℕ) → length before ≡ index →
      put_number index n (before ++ facts) ≡ before ++ put_number 0 n facts
  put_after [] facts n index e = ap (λ i. put_number i n facts) (sym e)
  put_after (fact ∷ before) facts n index e = grind (arith, put_after before facts n _ refl)

  numbered_listed : (mentions : List Mention) (index : ℕ) (before facts : List Fact) →
      length before ≡ index → numbered number (listed index mentions) (before ++ facts)
      ≡ before ++ facts_with (map number mentions) facts
  numbered_listed [] index before facts e = refl
  numbered_listed (mention ∷ mentions) index before [] e =
      let within : length before ≡ index → length before ≤ index = λ same. omega (arith, same) in
      ap (λ fs. numbered number (listed index (mention ∷ mentions)) fs) (append-nil before)
      ∙ past_listed (mention ∷ mentions) index before (within e) ∙ sym (append-nil before)
  numbered_listed (mention ∷ mentions) index before (fact ∷ facts) e =
      let here = length_one before (with_number (number mention) fact) ∙ ap suc e in
      let later = numbered_listed mentions _ _ facts here in
      grind (arith, later, one_listed, put_after, append_assoc)

-- two ways to number that are alike
module _ (one other : Mention → ℕ) (alike : (mention : Mention) → one mention ≡ other mention) where
  alike_all : (mentions : List Mention) → map one mentions ≡ map other mentions
  alike_all [] = refl
  alike_all (mention ∷ mentions) = grind (arith, alike_all mentions)

pub numbered-listed : (bytes : List ℕ) (mentions : List Mention) (facts : List Fact) →
    numbered (number_for bytes (mentions_among (listed 0 mentions))) (listed 0 mentions) facts
    ≡ facts_with (map (number_for bytes mentions) mentions) facts
numbered-listed bytes mentions facts =
    let some = mentions_among (listed 0 mentions) in
    numbered_listed (number_for bytes some) refl mentions 0 [] facts refl
    ∙ ap (λ numbers. facts_with numbers facts) (alike_all _ _ alike mentions)
  where
    alike : (mention : Mention) → number_for bytes (mentions_among (listed 0 mentions)) mention
        ≡ number_for bytes mentions mention
    alike (Reference label) =
        ap (λ ds. number_of (which ds (identifier_at bytes label)))
        (defined_listed bytes mentions 0)
    alike _ = refl
