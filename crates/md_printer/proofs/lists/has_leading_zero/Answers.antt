-- After an ASCII digit a text may be cut.
use Rattle.std.proofs.Common.{◌≡◌, ℕ, ◌<◌, Bool, true, false, nat_eq, List, length, get_or, arith}
use Rattle.std.proofs.Common.{refl}
use Rattle.std.proofs.lemmas.Bool.{eqb-true}
use Rattle.std.specs.Bool.{OnTrue}
use Rattle.std.specs.Str.{IsCharBoundary, IsUtf8}
use Rattle.std.proofs.lemmas.Str.{IsCharBoundary-after_ascii}
use Rattle.md_printer.proofs.lists.has_leading_zero.Goals as goal

zero_cut : (text : List ℕ) → IsUtf8 text → 1 < length text → (b : Bool) →
    nat_eq (get_or text 0 0) 48 ≡ b →
    OnTrue b (IsCharBoundary text 1)
zero_cut text utf8 long true e =
    let zero : get_or text 0 0 ≡ 48 = eqb-true (get_or text 0 0) 48 e in
    IsCharBoundary-after_ascii text 0 utf8 (omega arith) (omega arith)
zero_cut text utf8 long false e = tt

pub returns-then-digits-gt1-clause-cut : goal.returns-then-digits-gt1-clause-cut
returns-then-digits-gt1-clause-cut c =
    let text = c.args.digits.now in
    rw c.as_bytes.ensures.value
    (zero_cut text c.utf8.digits (omega arith) (nat_eq (get_or text 0 0) 48) refl)
