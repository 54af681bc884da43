-- A byte that can't be in a break is in the text.
use Rattle.std.proofs.Common.{ℕ, Bool, List, [], ◌∷◌, zero, suc, true, false, ◌≡◌, ◌+◌, ◌-◌}
use Rattle.std.proofs.Common.{◌<◌, ◌≤◌, ◌&&◌, ◌==◌, nat_lt, ◌∙◌, length, get_or, drop, ap, refl}
use Rattle.std.proofs.Common.{sym, arith}
use Rattle.std.specs.List.{list_all, count_by}
use Rattle.std.proofs.lemmas.List.{get_or-drop, length-drop}
use Rattle.md_blocks.specs.Leaves.{may_be_in_break}
use Rattle.md_blocks.proofs.breaks.Breaks.begins_at.Goals as goal

rest_decides : (first rest : Bool) → rest ≡ false → (first && rest) ≡ false
rest_decides true rest fails = fails
rest_decides false rest fails = refl

one_fails : (p : ℕ → Bool) (text : List ℕ) (n : ℕ) → n < length text
    → p (get_or text n 0) ≡ false → list_all p text ≡ false
one_fails p [] n within fails = absurd (omega arith)
one_fails p (x ∷ text) zero within fails = ap (λ b. b && list_all p text) fails
one_fails p (x ∷ text) (suc n) within fails =
    rest_decides (p x) (list_all p text) (one_fails p text n (omega arith) fails)

rest_fails : (p : ℕ → Bool) (line : List ℕ) (from last : ℕ) → from ≤ last → last < length line
    → p (get_or line last 0) ≡ false → list_all p (drop from line) ≡ false
rest_fails p line from last before within fails =
    let at : from + (last - from) ≡ last = omega arith in
    one_fails p (drop from line) (last - from) (omega (arith, length-drop from line))
    (ap p (get_or-drop from line (last - from) 0 ∙ ap (λ n. get_or line n 0) at) ∙ fails)

pub returns-then-not-may_be_in_break : goal.returns-then-not-may_be_in_break
returns-then-not-may_be_in_break c =
    let marks = count_by (λ byte. byte == c.args.mark) (drop c.args.from c.args.line.now) in
    sym (ap (λ b. b && nat_lt 2 marks)
    (rest_fails (may_be_in_break c.args.mark) c.args.line.now c.args.from
    c.args.self.now.failed_at c.if-from-last.true c.if-last-line.true
    (sym c.if-not-may_be_in_break.ensures)))
