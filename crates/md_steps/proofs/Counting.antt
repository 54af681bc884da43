-- What is counted where a node is left, and the mark of a reference: cells, fences and chunks.
use Rattle.std.proofs.Common.{◌≡◌, ℕ, ◌+◌, Bool, true, false, ◌||◌, cond, List, [], ◌∷◌, ◌++◌, ap}
use Rattle.std.proofs.Common.{sym, ◌∙◌, arith}
use Rattle.std.specs.Prelude.{if◌then◌else◌, count_by}
use Rattle.std.specs.Option.{option_map_or}
use Rattle.std.specs.List.{list_any}
use Rattle.std.proofs.lemmas.List.Sums.{sum_by-append}
use Rattle.std.proofs.lemmas.List.Folds.{list_any-append}
use Rattle.md_base.specs.declared.event.Name.{Name}
use Rattle.md_base.specs.declared.event.Name.TheVariants as name_variants
use name_variants.{GfmTableCell}
use Rattle.std.proofs.lemmas.Bool.{cond-false}
use Rattle.md_base.specs.Is.{is}
use Rattle.md_base.specs.Children.{spine_names}
use Rattle.md_base.specs.Tree.{Forest}
use Rattle.md_base.specs.NameTests.{is_transparent, is_fence, is_chunk, is_cell}
use Rattle.md_meaning.specs.Meaning.Spans.{marker}
use Rattle.md_content.proofs.LastNames.{last-got, last-push}
use Rattle.md_steps.specs.Content.{Content, content_inside, content_after, content_after_node}
use Rattle.md_steps.specs.Steps.{cells_after, is_row, is_raw}
use Rattle.md_steps.specs.Claim.{KnowsCells, KnowsLines, has_marks, mark_after, keeps_cells}
use Rattle.md_steps.specs.Claim.{keeps_lines}
use Rattle.md_steps.proofs.Standing.{Facts}

-- ---- the mark of a reference

pub mark-push : (spine : List Name) (name : Name) → mark_after (spine ++ name ∷ []) ≡ marker name
mark-push spine name =
    ap (λ o. option_map_or marker o 38) (sym (last-got (spine ++ name ∷ [])) ∙ last-push spine name)

pub marker-after : (c : Content) (name : Name) (spine : List Name) (children : Forest) (inner : ℕ) →
    (has_marks (content_after (content_inside c name) children) ≡ true →
    inner ≡ mark_after ((if is_transparent name then spine else []) ++ spine_names children)) →
    has_marks (content_after_node c name children) ≡ true →
    (if is_transparent name then inner else marker name)
    ≡ mark_after (spine ++ (if is_transparent name then spine_names children else name ∷ []))
marker-after c name spine children inner k h = grind (arith, mark-push)

-- ---- cells
count-push : (p : Name → Bool) (xs : List Name) (x : Name) →
    count_by p (xs ++ x ∷ []) ≡ count_by p xs + cond (p x) 1 0
count-push p xs x = omega (arith, sum_by-append (λ y. cond (p y) 1 0) xs (x ∷ []))

in_row : (name : Name) (spine : List Name) (start inner : ℕ) → is_cell name ≡ true →
    start ≡ count_by (is GfmTableCell) spine → inner ≡ start →
    cells_after name inner ≡ count_by (is GfmTableCell) (spine ++ name ∷ [])
in_row name spine start inner h k keep = grind (arith, count-push)

pub cells-known :
    (c : Content) (name : Name) (spine : List Name) (children : Forest) (start inner : ℕ) →
    Facts c name → KnowsCells c spine start →
    KnowsCells (content_after (content_inside c name) children)
    ((if is_transparent name then spine else []) ++ spine_names children) inner →
    (keeps_cells (content_inside c name) ≡ true → inner ≡ (if is_row name then 0 else start)) →
    KnowsCells (content_after_node c name children)
    (spine ++ (if is_transparent name then spine_names children else name ∷ []))
    (cells_after name inner)
cells-known c name spine children start inner facts k known keep = grind (arith, in_row, cond-false)

pub cells-kept : (c : Content) (name : Name) (start inner : ℕ) → Facts c name →
    (keeps_cells (content_inside c name) ≡ true → inner ≡ (if is_row name then 0 else start)) →
    keeps_cells c ≡ true → cells_after name inner ≡ start
cells-kept c name start inner facts keep h = grind (arith, cond-false)

-- ---- fences and chunks
abbrev fences_after : Name → ℕ → ℕ
fences_after name fences = if is_fence name then fences + 1 else fences

plus_if : (b : Bool) (n : ℕ) → (if b then n + 1 else n) ≡ n + cond b 1 0
plus_if b n = grind arith

chunk-push : (p : Name → Bool) (xs : List Name) (x : Name) →
    list_any p (xs ++ x ∷ []) ≡ p x || list_any p xs
chunk-push p xs x = grind (arith, list_any-append p xs (x ∷ []))

pub lines-known : (c : Content) (name : Name) (spine : List Name) (children : Forest)
    (fences inner : ℕ) (chunk within : Bool) → Facts c name → KnowsLines c spine fences chunk →
    KnowsLines (content_after (content_inside c name) children)
    ((if is_transparent name then spine else []) ++ spine_names children) inner within →
    (keeps_lines (content_inside c name) ≡ true → inner ≡ (if is_raw name then 0 else fences)) →
    (keeps_lines (content_inside c name) ≡ true → within ≡ (if is_raw name then false else chunk)) →
    KnowsLines (content_after_node c name children)
    (spine ++ (if is_transparent name then spine_names children else name ∷ []))
    (fences_after name inner) (is_chunk name || within)
lines-known c name spine children fences inner chunk within facts k known keep keeps =
    grind (arith, cond-false, plus_if, count-push, chunk-push)

pub fences-kept : (c : Content) (name : Name) (fences inner : ℕ) → Facts c name →
    (keeps_lines (content_inside c name) ≡ true → inner ≡ (if is_raw name then 0 else fences)) →
    keeps_lines c ≡ true → fences_after name inner ≡ fences
fences-kept c name fences inner facts keep h = grind arith

pub chunk-kept : (c : Content) (name : Name) (chunk within : Bool) → Facts c name →
    (keeps_lines (content_inside c name) ≡ true → within ≡ (if is_raw name then false else chunk)) →
    keeps_lines c ≡ true → is_chunk name || within ≡ chunk
chunk-kept c name chunk within facts keeps h = grind arith
