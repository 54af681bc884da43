-- What is left to pair gives the same; where nothing is left, what is left is the closer's.
use Rattle.std.proofs.Common.{arith, ◌≡◌, ◌<◌, ◌≤◌, sym, subst, length, reverse, get_or, ℕ}
use Rattle.std.proofs.Common.{true, false, set}
use Rattle.std.specs.Prelude.{Some, None}
use Rattle.md_marks.specs.Emphasis.{available, may_pair}
use Rattle.md_marks.specs.Openers.{AreBottoms, AreOpen, found_at, kind_of, no_run}
use Rattle.md_marks.specs.Pairs.{nearest}
use Rattle.md_marks.proofs.PairLemmas.{ends-none, known-bottoms, leads-end, pair-leads}
use Rattle.md_marks.proofs.PairLemmas.{kept-open, kept-bottoms}
use Rattle.md_marks.proofs.delimiters.pair_closer.Goals as goal

pub returns-then-kind-lt-KINDS-2-clause-left : goal.returns-then-kind-lt-KINDS-2-clause-left
returns-then-kind-lt-KINDS-2-clause-left c =
    (leads-end c.pairs.openers.items c.pairs.closer c.pairs.tokens.items _ _ _ c.pairs.invariant.same
    (λ n. ends-none n _ c.pairs.closer (subst (λ l. nearest c.pairs.closer (reverse l) ≡ None)
    c.deref.ensures.value c.in_default.ensures.found))).0

pub returns-then-kind-lt-KINDS-2-clause-openers :
    goal.returns-then-kind-lt-KINDS-2-clause-openers
returns-then-kind-lt-KINDS-2-clause-openers c =
    (leads-end c.pairs.openers.items c.pairs.closer c.pairs.tokens.items _ _ _ c.pairs.invariant.same
    (λ n. ends-none n _ c.pairs.closer (subst (λ l. nearest c.pairs.closer (reverse l) ≡ None)
    c.deref.ensures.value c.in_default.ensures.found))).1

pub returns-then-kind-lt-KINDS-2-clause-tokens :
    goal.returns-then-kind-lt-KINDS-2-clause-tokens
returns-then-kind-lt-KINDS-2-clause-tokens c =
    (leads-end c.pairs.openers.items c.pairs.closer c.pairs.tokens.items _ _ _ c.pairs.invariant.same
    (λ n. ends-none n _ c.pairs.closer (subst (λ l. nearest c.pairs.closer (reverse l) ≡ None)
    c.deref.ensures.value c.in_default.ensures.found))).2

pub returns-then-kind-lt-KINDS-2-clause-bottoms :
    goal.returns-then-kind-lt-KINDS-2-clause-bottoms
returns-then-kind-lt-KINDS-2-clause-bottoms c =
    let closer = c.pairs.closer in
    let known = known-bottoms c.pairs.bottoms c.pairs.openers.items closer
    (omega (arith, c.kind-kind.ensures, c.if-kind-lt-KINDS-2.true))
    (subst (λ l. (i : ℕ) → i < length l → may_pair (get_or l i no_run) closer ≡ false)
    c.deref.ensures.value c.in_default.ensures.none)
    c.pairs.invariant.bottoms in
    let all : length c.pairs.openers.items ≡ c.len.result =
    omega (arith, c.len.ensures, c.pairs.openers.ok) in
    subst (λ k. AreBottoms (set c.pairs.bottoms k c.len.result) c.pairs.openers.items)
    (sym c.kind-kind.ensures)
    (subst (λ n. AreBottoms (set c.pairs.bottoms (kind_of closer) n) c.pairs.openers.items) all known)

pub returns-else-kind-lt-KINDS-2-clause-left : goal.returns-else-kind-lt-KINDS-2-clause-left
returns-else-kind-lt-KINDS-2-clause-left c =
    (leads-end c.pairs.openers.items c.pairs.closer c.pairs.tokens.items _ _ _ c.pairs.invariant.same
    (λ n. ends-none n _ c.pairs.closer (subst (λ l. nearest c.pairs.closer (reverse l) ≡ None)
    c.deref.ensures.value c.in_default.ensures.found))).0

pub returns-else-kind-lt-KINDS-2-clause-openers :
    goal.returns-else-kind-lt-KINDS-2-clause-openers
returns-else-kind-lt-KINDS-2-clause-openers c =
    (leads-end c.pairs.openers.items c.pairs.closer c.pairs.tokens.items _ _ _ c.pairs.invariant.same
    (λ n. ends-none n _ c.pairs.closer (subst (λ l. nearest c.pairs.closer (reverse l) ≡ None)
    c.deref.ensures.value c.in_default.ensures.found))).1

pub returns-else-kind-lt-KINDS-2-clause-tokens :
    goal.returns-else-kind-lt-KINDS-2-clause-tokens
returns-else-kind-lt-KINDS-2-clause-tokens c =
    (leads-end c.pairs.openers.items c.pairs.closer c.pairs.tokens.items _ _ _ c.pairs.invariant.same
    (λ n. ends-none n _ c.pairs.closer (subst (λ l. nearest c.pairs.closer (reverse l) ≡ None)
    c.deref.ensures.value c.in_default.ensures.found))).2

pub pairs-preserved : goal.pairs-preserved
pairs-preserved c =
    let xs = c.pairs.openers.items in
    let closer = c.pairs.closer in
    let h = c.in-Some.height in
    let some : 0 < available closer = omega (arith, c.available.ensures, c.pairs-test.true) in
    let before = c.pairs.invariant in
    let is = c.deref.ensures.value in
    let within : h < length xs = subst (λ l. h < length l) is c.in-Some.ensures.within in
    let fits : may_pair (get_or xs h no_run) closer ≡ true =
    subst (λ l. may_pair (get_or l h no_run) closer ≡ true) is c.in-Some.ensures.fits in
    let found : nearest closer (reverse xs) ≡ Some (found_at xs h) =
    subst (λ l. nearest closer (reverse l) ≡ Some (found_at l h)) is c.in-Some.ensures.found in
    let ys = c.pair-closer.ensures.openers in
    let most : (k : ℕ) →
    get_or c.lowered.result k 0 ≤ length c.pair-closer.new.openers.items = λ k. omega (
      arith,
      c.lowered.ensures.within k,
      c.len-in-pairs.ensures,
      c.pair-closer.new.openers.ok,
    ) in
    record {
      same = pair-leads xs closer h within c.pair-closer.new.openers.items
          c.pair-closer.result c.pairs.tokens.items c.pair-closer.new.tokens.items _ _ _ some
          found before.opens ys c.pair-closer.ensures.left
          c.pair-closer.ensures.tokens before.same;
      opens = subst AreOpen (sym ys) (kept-open h _ xs within before.opens);
      bottoms = subst (AreBottoms c.lowered.result) (sym ys)
          (kept-bottoms c.pairs.bottoms c.lowered.result h closer xs within
          fits before.bottoms c.lowered.ensures.count
          (λ k. subst (λ l. get_or c.lowered.result k 0 ≤ length l) ys (most k))
          c.lowered.ensures.less);
    }
