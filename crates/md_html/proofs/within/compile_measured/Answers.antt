-- The checked events are those of the arguments, so a text is the meaning of their document, and
-- facts about each meaning hold for it.
use Rattle.std.proofs.Common.{rules, ◌≡◌, ◌≤◌, ◌<◌, ◌^◌, length, string_bytes, arith, Result}
use Rattle.std.proofs.Common.{Ok, Err, sym, ◌∙◌, subst, ℕ, Bool, false, nat_lt}
use Rattle.std.proofs.lemmas.Bool.{ltb-false}
use Rattle.std.specs.Prelude.{IfErr}
use Rattle.std.specs.Result.{IsErrAnd}
use Rattle.md_base.specs.Tree.{Forest, flatten}
use Rattle.md_tree.specs.Grammar.{Handed, IsChecked}
use Rattle.md_depth.specs.Depth.{depth}
use Rattle.md_measure.specs.Counting.{capped}
use Rattle.md_html.specs.Work.{work}
use Rattle.md_html.specs.Reuse.{reuse}
use Rattle.md_html.specs.MeasuredEvents.{handed_by}
use Rattle.md_tree.specs.declared.rule.CompileError.TheVariants as refusal
use Rattle.md_html.specs.declared.within.WithinError.TheVariants as within
use Rattle.md_html.specs.Printed.{IsMeant}
use Rattle.md_html.specs.Within.{IsLonger, IsReuseWithin}
use Rattle.md_html.proofs.Promises.{promises, bounded, nested}
use Rattle.md_html.proofs.within.compile_measured.Goals as goal

err-and : {A E : Type 0} (P Q : E → Type 0) (result : Result A E) →
    ((why : E) → P why → Q why) → IsErrAnd result P → IfErr result Q
err-and P Q (Ok a) says held = tt
err-and P Q (Err why) says held = says why held

at_most : (limit given counted : ℕ) (over : Bool) →
    ((n : ℕ) → counted ≡ capped n → over ≡ nat_lt limit n) → counted ≡ capped given →
    over ≡ false → given ≤ limit
at_most limit given counted over says is none = ltb-false limit given (sym (says given is) ∙ none)

pub returns-in-Some-clause-text : goal.returns-in-Some-clause-text
returns-in-Some-clause-text c =
    let given : Handed = handed_by c.args.given.now in
    let text = string_bytes c.in-Some.text in
    let meant : IsMeant c.args.options.now given text =
    rw c.in_ok-checked.ensures.ok at (rw c.in-Some.is at c.in_ok-text.ensures.text) in
    let few : length given.events < 2 ^ 63 = omega arith in
    let read : IsChecked given = c.in_ok-checked.ensures.grammatical in
    let worked : work given.events ≤ c.args.limits.work =
    grind (arith, c.exceeds.ensures, c.work.ensures, c.if-exceeds.false) in
    let shallow : depth given.events ≤ c.args.limits.depth = search rules in
    let reused : IsReuseWithin c.args.options.now given c.args.limits.work =
    subst (λ (given : Handed). IsReuseWithin c.args.options.now given c.args.limits.work)
    c.in_ok-checked.ensures.ok (λ document flat. ltb-false _ _
    (sym (c.in_ok-is_reuse_over.ensures document flat) ∙ c.if-branch.false)) in
    record {
      within = rw c.in-Some.is at c.in_ok-text.ensures.within;
      work = worked;
      depth = shallow;
      nesting = nested c.args.options.now given text c.args.limits.depth read meant shallow;
      reuse = reused;
      bounded =
          bounded c.args.options.now given text c.args.limits.work read few meant worked reused;
      promises = promises c.args.options.now given text read few meant;
    }

pub returns-then-branch-clause-refused : goal.returns-then-branch-clause-refused
returns-then-branch-clause-refused c =
    let more : Handed → Type 0 = λ given.
    (document : Forest) → flatten document ≡ given.events →
    c.args.limits.work < reuse c.args.options.now given.bytes document in
    record {
      too_deep = search rules;
      too_much =
          grind (
            arith,
            c.in_ok-checked.ensures.grammatical,
            c.in_ok-is_reuse_over.ensures,
            c.if-branch.true,
          );
      too_long = search rules;
      long_grammatical = search rules;
      refused = search rules;
    }

pub returns-in_err-text-clause-refused : goal.returns-in_err-text-clause-refused
returns-in_err-text-clause-refused c =
    err-and (λ why. why ≡ within.Compile refusal.Memory) _ c.from_residual-in_err-text.result
    (λ why is. rw is (record {
      too_deep = search rules;
      too_much = grind arith;
      too_long = tt;
      long_grammatical = tt;
      refused = search rules;
    })) c.from_residual-in_err-text.ensures.1

pub returns-clause-refused : goal.returns-clause-refused
returns-clause-refused c = record {
  too_deep = search rules;
  too_much = (
    at_most _ _ _ _ c.exceeds.ensures (c.work.ensures _ c.args.given.now.measured)
        c.if-exceeds.false,
    subst (λ (given : Handed). IsReuseWithin c.args.options.now given c.args.limits.work)
        c.in_ok-checked.ensures.ok (λ document flat. ltb-false _ _
        (sym (c.in_ok-is_reuse_over.ensures document flat) ∙ c.if-branch.false)),
  );
  too_long = subst (λ (given : Handed). IsLonger c.args.options.now given c.args.limits.text)
      c.in_ok-checked.ensures.ok (c.in_ok-text.ensures.too_long c.in-None.is);
  long_grammatical = search rules;
  refused = search rules;
}

pub returns-in_err-is_reuse_over-clause-refused :
    goal.returns-in_err-is_reuse_over-clause-refused
returns-in_err-is_reuse_over-clause-refused c =
    err-and (λ why. why ≡ within.Compile refusal.Memory) _
    c.from_residual-in_err-is_reuse_over.result
    (λ why is. rw is (record {
      too_deep = search rules;
      too_much = search rules;
      too_long = search rules;
      long_grammatical = search rules;
      refused = search rules;
    })) c.from_residual-in_err-is_reuse_over.ensures.1
