-- Each claim by its step.
use Rattle.std.proofs.Common.{ap, ◌∙◌, ◌∷◌, ◌≤◌, ◌^◌, ◌-◌, rules, subst, sym, arith}
use Rattle.md_measure.specs.Counting.{moved}
use Rattle.md_measure.proofs.Measuring.{read-step, cells-step, calls-step, depth-step, nested-step}
use Rattle.md_measure.proofs.Measuring.{few-open, few-levels, few-calls, few-columns, few-images}
use Rattle.md_measure.proofs.Measuring.{capped-fits}
use Rattle.md_measure.proofs.measure.Measure.note.Goals as goal

pub returns : goal.returns
returns c = λ events held.
    let self = c.args.self.now in
    let event = c.args.event.now in
    let opens = c.note.ensures in
    let levels = c.note-2.ensures in
    let parts = c.note-3.ensures in
    let links = c.note-4.ensures in
    let moves = opens.depth ∙ ap (λ b. moved self.progress.depth event.kind b) c.is_read.ensures in
    record {
      read = λ rest. read-step self.progress.length self.progress.index self.progress.depth
          c.note.new.self.length c.note.new.self.index c.note.new.self.depth event
          events rest opens.index moves opens.length (held.read (event ∷ rest));
      cells = λ rest. cells-step self.parts.cells self.parts.columns c.note-3.new.self.cells
          c.note-3.new.self.columns event events rest parts.columns parts.cells
          (held.cells (event ∷ rest));
      calls = λ rest. calls-step self.parts.calls c.note-3.new.self.calls event events rest
          parts.calls (held.calls (event ∷ rest));
      depth = grind (arith, depth-step);
      nested = grind (arith, nested-step);
      few_open = grind (arith, few-open);
      few_levels = few-levels event events self.levels.opened held.few_levels
          c.note-2.new.self.opened levels.opened;
      few_columns = few-columns event events self.parts.columns held.few_columns
          c.note-3.new.self.columns parts.columns;
      few_calls = few-calls event events self.parts.calls held.few_calls
          c.note-3.new.self.calls _ parts.calls;
      few_images = few-images event events self.links.images held.few_images
          c.note-4.new.self.images links.images;
      read_fits = subst (λ n. n ≤ 2 ^ 128 - 1) (sym opens.length) (capped-fits _);
      cells_fit = subst (λ n. n ≤ 2 ^ 128 - 1) (sym parts.cells) (capped-fits _);
      opened = search rules;
    }
