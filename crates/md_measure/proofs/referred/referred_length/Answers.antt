-- One event further, and one mention; at the end nothing is still to come.
use Rattle.std.proofs.Common.{◌+◌, rules, ap, sym, ◌∙◌, arith}
use Rattle.std.proofs.Common.{add-one}
use Rattle.std.specs.Prelude.{drop}
use Rattle.md_tree.specs.Mentions.{mentions_of}
use Rattle.md_tree.specs.Numbers.{definition_for}
use Rattle.md_length.specs.Reuse.{definition_lengths, resolved_lengths, length_at, referred}
use Rattle.md_measure.specs.Counting.{capped}
use Rattle.md_measure.proofs.Referring.{split-there, mention-at, led-step, capped-more}
use Rattle.md_measure.proofs.Referring.{led-all}
use Rattle.md_measure.proofs.referred.referred_length.Goals as goal

pub referred_at-requires-clause-there : goal.referred_at-requires-clause-there
referred_at-requires-clause-there c = grind (arith, split-there)

pub loop-event-preserved : goal.loop-event-preserved
loop-event-preserved c =
    let at = c.loop-event in
    let given = c.args.checked.now in
    let event = c.in-Some.event.now in
    let (there, others) = split-there given.events at.index event c.in-Some.following.now
    (at.invariant.left ∙ c.in-Some.ensures.cases.0) in
    let next = add-one at.index in
    record {
      left = ap (λ n. drop n given.events) next
          ∙ sym others;
      referred = λ document flat.
          let mentions = mentions_of document in
          let lengths = definition_lengths document in
          let leads = definition_for given.bytes mentions in
          let (mention, here) = mention-at document given.events at.index event flat there in
          let more = length_at lengths (leads mention) in
          let later = resolved_lengths lengths leads (drop (at.index + 1) mentions) in
          ap (λ n. capped (n + later)) (c.saturating_add-referred.ensures
          ∙ ap (λ n. capped (at.referred + n)) (c.referred_at.ensures document mention flat here))
          ∙ capped-more at.referred more later
          ∙ ap (λ n. capped (at.referred + (more + resolved_lengths lengths leads
          (drop n mentions))))
          next
          ∙ ap (λ n. capped (at.referred + n))
          (sym (led-step lengths leads mentions at.index mention here))
          ∙ at.invariant.referred document flat;
      referred_fits = search rules;
      gone = search rules;
    }

pub returns : goal.returns
returns c = grind (arith, led-all)
