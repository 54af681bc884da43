-- One event was read, or two, and no more than exist: the last of them exists. The search doesn't
-- find that both sums are the same index, nor that an index with an event is within the list.
use Rattle.std.proofs.Common.{◌≡◌, suc, ◌+◌, ◌<◌, arith, subst, length, ℕ}
use Rattle.md_tree.proofs.Common.{slice_get_within, HasRead}
use Rattle.md_tree.proofs.reader.Reader.advance.Goals as goal

two_more : (n : ℕ) → suc (suc n) ≡ n + 2
two_more n = omega arith

one_more : (n : ℕ) → suc n ≡ n + 1
one_more n = omega arith

pub returns-in_ok-read_leaf-in-Some-clause-read : goal.returns-in_ok-read_leaf-in-Some-clause-read
returns-in_ok-read_leaf-in-Some-clause-read c =
    subst (λ n. HasRead c.args.input.bytes.now c.args.input.names.now
    c.args.input.events.now n
    c.read_leaf.new.self) (two_more c.args.index) c.in_ok-read_leaf-in-Some.ensures.read

pub returns-in_ok-read_leaf-in-Some-clause-counted :
    goal.returns-in_ok-read_leaf-in-Some-clause-counted
returns-in_ok-read_leaf-in-Some-clause-counted c =
    let inside : suc c.args.index < length c.args.input.events.now
    = slice_get_within c.args.input.events.now (suc c.args.index) _ c.in-Some.ensures.after in
    (omega arith, omega (arith, inside))

pub returns-in_ok-read-in-None-clause-read : goal.returns-in_ok-read-in-None-clause-read
returns-in_ok-read-in-None-clause-read c =
    subst (λ n. HasRead c.args.input.bytes.now c.args.input.names.now
    c.args.input.events.now n
    c.read.new.self) (one_more c.args.index) c.in_ok-read-in-None.ensures.read

pub returns-in_ok-read-in-None-clause-counted : goal.returns-in_ok-read-in-None-clause-counted
returns-in_ok-read-in-None-clause-counted c =
    let inside : c.args.index < length c.args.input.events.now
    = slice_get_within c.args.input.events.now c.args.index c.args.event c.requires.here in
    (omega arith, omega (arith, inside))
