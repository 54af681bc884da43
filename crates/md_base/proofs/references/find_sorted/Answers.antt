-- The place is the first whose name isn't before the wanted one.
use Rattle.std.proofs.Common.{rules, arith, []}
use Rattle.std.proofs.lemmas.Grind.{common_steps}
use Rattle.std.proofs.lemmas.List.Sorted.{IsPartitionPoint-from_clause}
use Rattle.std.specs.Ordering.{is_lt, nat_cmp}
use Rattle.std.specs.Cmp.Lexicographic.{slice_cmp}
use Rattle.md_base.proofs.Sorting.{is-parted, found-here, found-nowhere}
use Rattle.md_base.proofs.references.find_sorted.Goals as goal

pub returns-in_err-found : goal.returns-in_err-found
returns-in_err-found c =
    let entries = c.args.sorted.now in
    let name = c.args.name.now in
    let parted = IsPartitionPoint-from_clause (λ entry. is_lt (slice_cmp nat_cmp entry.0.now name))
    entries c.partition_point-place.result c.partition_point-place.ensures.partitioned
    (is-parted entries c.requires name) (λ a r g called. search rules) in
    let nowhere = found-nowhere entries c.requires name c.partition_point-place.result parted
    (record { ref_ptr = (0, 0); now = [] }, record { ref_ptr = (0, 0); now = [] }) in
    grind (arith, common_steps, nowhere, c.in_err-found.ensures.lookup)

pub returns-then-eq : goal.returns-then-eq
returns-then-eq c =
    let entries = c.args.sorted.now in
    let name = c.args.name.now in
    let parted = IsPartitionPoint-from_clause (λ entry. is_lt (slice_cmp nat_cmp entry.0.now name))
    entries c.partition_point-place.result c.partition_point-place.ensures.partitioned
    (is-parted entries c.requires name) (λ a r g called. search rules) in
    let here = found-here entries c.requires name c.partition_point-place.result parted
    c.in_ok-found.field-0.now in
    grind (arith, common_steps, here, c.in_ok-found.ensures.lookup, c.if-eq.ensures)

pub returns-else-eq : goal.returns-else-eq
returns-else-eq c =
    let entries = c.args.sorted.now in
    let name = c.args.name.now in
    let parted = IsPartitionPoint-from_clause (λ entry. is_lt (slice_cmp nat_cmp entry.0.now name))
    entries c.partition_point-place.result c.partition_point-place.ensures.partitioned
    (is-parted entries c.requires name) (λ a r g called. search rules) in
    let nowhere = found-nowhere entries c.requires name c.partition_point-place.result parted
    c.in_ok-found.field-0.now in
    grind (arith, common_steps, nowhere, c.in_ok-found.ensures.lookup, c.if-eq.ensures)
