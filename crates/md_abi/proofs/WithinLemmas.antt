-- From the compiler's promises within limits to those about C's result and its answer.
use Rattle.std.proofs.Common.{◌≡◌, ℕ, ◌<◌, ◌≤◌, List, [], ◌∷◌, map, Some}
use Rattle.std.proofs.Common.{Result, Ok, Err}
use Rattle.std.proofs.Common.{IfOk, IfErr, OnOk, refl, sym, ap, ◌∙◌, arith}
use Rattle.std.specs.Borrow.{Bor}
use Rattle.md_base.specs.declared.event.Event.{Event}
use Rattle.md_base.specs.Tree.{Forest}
use Rattle.md_tree.specs.Grammar.{Handed, handed}
use Rattle.md_text.specs.declared.options.CompileOptions.{CompileOptions}
use Rattle.md_depth.specs.Depth.{depth, height}
use Rattle.md_depth.proofs.Nodes.{events-nest}
use Rattle.md_html.specs.Work.{work}
use Rattle.md_html.specs.Reuse.{reuse}
use Rattle.md_html.specs.Within.{IsOver, WithinPromises, WithinRefusal}
use Rattle.md_html.specs.declared.within.Limits.{Limits}
use Rattle.md_html.specs.declared.within.WithinError.{WithinError}
use Rattle.md_abi.specs.Within.{IsRenderedWithin, IsTooLong, IsTooMuch, IsBounded, IsShallow}
use Rattle.md_abi.specs.Within.{NestsTooDeep, depth_limit}
use Rattle.md_abi.specs.WithinFailures.{within_failure_of, IsTooLongOf, IsFailureWithin}
use Rattle.md_abi.specs.WithinFailures.{OfRefused, ExplainsWithin}
use Rattle.md_abi.specs.declared.event.CEvent.{CEvent}
use Rattle.md_abi.specs.declared.reference.CReference.{CReference}
use Rattle.md_abi.specs.declared.option.COptions.{COptions}
use Rattle.md_abi.specs.declared.failure.Failure.{Failure}
use Rattle.md_abi.specs.declared.failure.Failure.TheVariants as failure
use Rattle.md_abi.specs.declared.within.CLimits.{CLimits}
use Rattle.md_abi.specs.declared.within.WithinFailure.{WithinFailure}
use Rattle.md_abi.specs.declared.within.WithinFailure.TheVariants.{TooLong, TooMuch, TooDeep}
use Rattle.md_abi.specs.declared.within.WithinFailure.TheVariants.{Failed}
use Rattle.md_abi.proofs.GivenLemmas.{IsRead, rendered, explained}

-- ---- the failure for a compiler's error

pub failure_within : (given : Handed) (options : CompileOptions) (limits : Limits)
    (why : WithinError) → WithinRefusal options given limits why →
    IsFailureWithin given options limits (within_failure_of why)
failure_within given options limits why says = grind arith

-- ---- a list encodes only one list

pub some_once : {B : Type 0} (xs ys : List B) → map Some xs ≡ map Some ys → xs ≡ ys
some_once [] [] same = refl
some_once [] (y ∷ ys) same = cc
some_once (x ∷ xs) [] same = cc
some_once (x ∷ xs) (y ∷ ys) same = grind (arith, some_once xs ys)

-- ---- the converted input, passed as slices

module _ (events : List CEvent) (bytes : List ℕ) (options : COptions) (names : List CReference)
    (slice : List Event) (given : CompileOptions) (pairs : List (Bor (List ℕ) × Bor (List ℕ)))
    (limits : CLimits) (own : Limits) (read : IsRead events options names slice given pairs) where
  much_given : own.work ≡ limits.work → IsOver given (handed slice bytes pairs) own.work →
      IsTooMuch events bytes options names limits
  much_given same h = grind arith

  bounded_given : own.work ≡ limits.work → work slice ≤ own.work → IsBounded events limits
  bounded_given same little much =
      let once : slice ≡ much.read =
      some_once slice much.read (sym read.events_stand ∙ much.events_stand) in
      omega (arith, little, same, much.more, ap work once)

  deep_given : own.depth ≡ depth_limit limits.depth → own.depth < depth slice →
      NestsTooDeep events limits
  deep_given same deeper = grind arith

  shallow_given : own.depth ≡ depth_limit limits.depth → depth slice ≤ own.depth →
      IsShallow events limits
  shallow_given same little deep =
      let once : slice ≡ deep.read =
      some_once slice deep.read (sym read.events_stand ∙ deep.events_stand) in
      omega (arith, little, same, deep.deeper, ap depth once)

  long_given : own.text ≡ limits.text → own.work ≡ limits.work →
      IsTooLongOf (handed slice bytes pairs) given own →
      IsTooLong events bytes options names limits
  long_given same same_work long = grind arith

  explained_within : own.text ≡ limits.text → own.work ≡ limits.work →
      own.depth ≡ depth_limit limits.depth → (why : WithinFailure) →
      IsFailureWithin (handed slice bytes pairs) given own why →
      ExplainsWithin events bytes options names limits why
  explained_within same same_work same_depth TooLong h =
      grind (arith, long_given, bounded_given, shallow_given)
  explained_within same same_work same_depth TooMuch h =
      (much_given same_work h.1, shallow_given same_depth h.0)
  explained_within same same_work same_depth TooDeep h = deep_given same_depth h
  explained_within same same_work same_depth (Failed cause) h =
      (explained events bytes options names slice given pairs read cause h.2, of cause)
    where
      of : (cause : Failure) → OfRefused (IsBounded events limits × IsShallow events limits) cause
      of (failure.Refused index rule) =
          (bounded_given same_work h.1, shallow_given same_depth h.0)
      of _ = tt

  pub text_within : {S : Type 0} (bytes_of : S → List ℕ) (r : Result S WithinFailure) →
      own.text ≡ limits.text → own.work ≡ limits.work → own.depth ≡ depth_limit limits.depth →
      IfOk r (λ text. WithinPromises given (handed slice bytes pairs) own (bytes_of text)) →
      IfOk r (λ text. IsRenderedWithin events bytes options names limits (bytes_of text))
  unfolding rendered
  text_within bytes_of (Ok text) same same_work same_depth h =
      let document : Forest = h.promises.grammatical.0 in
      let reused = h.reuse document h.promises.grammatical.1.flattened in
      let within : reuse given bytes document ≤ limits.work = omega (arith, reused, same_work) in
      let nests : depth slice ≡ height document =
      sym (ap depth h.promises.grammatical.1.flattened) ∙ events-nest document in
      record {
        rendered =
            rendered events bytes options names slice given pairs read (bytes_of text) h.promises;
        fits = omega (arith, h.within, same);
        reused = within;
        shallow = omega (arith, nests, h.depth, same_depth);
      }
  text_within bytes_of (Err why) same same_work same_depth h = tt

  pub bounded_within : {S : Type 0} (bytes_of : S → List ℕ) (r : Result S WithinFailure) →
      own.work ≡ limits.work →
      IfOk r (λ text. WithinPromises given (handed slice bytes pairs) own (bytes_of text)) →
      OnOk r (IsBounded events limits)
  bounded_within bytes_of (Ok text) same h = bounded_given same h.work
  bounded_within bytes_of (Err why) same h = tt

  pub shallow_within : {S : Type 0} (bytes_of : S → List ℕ) (r : Result S WithinFailure) →
      own.depth ≡ depth_limit limits.depth →
      IfOk r (λ text. WithinPromises given (handed slice bytes pairs) own (bytes_of text)) →
      OnOk r (IsShallow events limits)
  shallow_within bytes_of (Ok text) same h = shallow_given same h.depth
  shallow_within bytes_of (Err why) same h = tt

  pub failure_given : {S : Type 0} (r : Result S WithinFailure) → own.text ≡ limits.text →
      own.work ≡ limits.work → own.depth ≡ depth_limit limits.depth →
      IfErr r (IsFailureWithin (handed slice bytes pairs) given own) →
      IfErr r (ExplainsWithin events bytes options names limits)
  failure_given (Ok text) same same_work same_depth h = tt
  failure_given (Err why) same same_work same_depth h =
      explained_within same same_work same_depth why h
