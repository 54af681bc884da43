-- The innermost container, and containers that are closed.
use Rattle.std.proofs.Common.{ℕ, Bool, List, [], ◌∷◌, zero, suc, true, false, ◌≡◌, ◌+◌, ◌-◌, ◌++◌}
use Rattle.std.proofs.Common.{◌≤◌, ◌<◌, ◌∙◌, ◌||◌, ◌==◌, length, take, drop, arith, refl, sym, ap}
use Rattle.std.proofs.Common.{Some, None, slice_get, sub-one, get_or, pred, is_some}
use Rattle.std.proofs.Common.{if◌then◌else◌, take-append-drop}
use Rattle.std.specs.Option.{option_map_or}
use Rattle.std.proofs.Math.ListN.{set}
use Rattle.std.proofs.lemmas.Bool.{false≢true}
use Rattle.std.proofs.lemmas.List.{append-nil, append_assoc, length-take-le}
use Rattle.std.proofs.lemmas.List.{take_more}
use Rattle.md_blocks.specs.declared.block.Block.{Block}
use Rattle.md_blocks.specs.declared.nesting.Open.{Open}
use Rattle.md_blocks.specs.Stack.{end_of, ends_of, innermost, is_footnote, is_quote}
use Rattle.md_blocks.specs.Stack.{quotes_depth, with_child}

innermost_by : (test : Open → Bool) (xs : List Open) (x : Open) →
    slice_get xs (pred (length xs)) ≡ Some x → innermost test xs ≡ test x
innermost_by test [] x is = absurd (false≢true (ap is_some is))
innermost_by test (a ∷ []) x is = ap (λ o. option_map_or test o false) is
innermost_by test (a ∷ b ∷ rest) x is = innermost_by test (b ∷ rest) x is

-- the last container is the innermost
pub innermost_is : (test : Open → Bool) (xs : List Open) (x : Open) →
    slice_get xs (length xs - 1) ≡ Some x → innermost test xs ≡ test x
innermost_is test xs x is = innermost_by test xs x (rw sub-one at is)

none_by : (test : Open → Bool) (xs : List Open) → slice_get xs (pred (length xs)) ≡ None →
    innermost test xs ≡ false
none_by test [] is = refl
none_by test (a ∷ []) is = absurd (false≢true (ap is_some (sym is)))
none_by test (a ∷ b ∷ rest) is = none_by test (b ∷ rest) is

pub innermost_none : (test : Open → Bool) (xs : List Open) → slice_get xs (length xs - 1) ≡ None →
    innermost test xs ≡ false
innermost_none test xs is = none_by test xs (rw sub-one at is)

abbrev noted : Open → List Open
noted x = record x { has_child = true } ∷ []

with_child_by : (xs : List Open) (x d : Open) → x ≡ get_or xs (pred (length xs)) d →
    set xs (pred (length xs)) (record x { has_child = true }) ≡ with_child xs
with_child_by [] x d is = refl
with_child_by (a ∷ []) x d is = ap noted is
with_child_by (a ∷ b ∷ rest) x d is = ap (λ others. a ∷ others) (with_child_by (b ∷ rest) x d is)

pub with_child_is : (xs : List Open) (x d : Open) (n : ℕ) → n ≡ length xs - 1 → x ≡ get_or xs n d →
    set xs n (record x { has_child = true }) ≡ with_child xs
with_child_is xs x d n last is =
    let at : n ≡ pred (length xs) = last ∙ sub-one (length xs) in
    ap (λ i. set xs i (record x { has_child = true })) at
    ∙ with_child_by xs x d (is ∙ ap (λ i. get_or xs i d) at)

pub take_take : (depth n : ℕ) (xs : List Open) → depth ≤ n → take depth (take n xs) ≡ take depth xs
take_take zero n xs h = refl
take_take (suc depth) zero xs h = absurd (omega arith)
take_take (suc depth) (suc n) [] h = refl
take_take (suc depth) (suc n) (x ∷ xs) h =
    ap (λ rest. x ∷ rest) (take_take depth n xs (omega arith))

-- what is closed, in two parts
drop_parts : (depth n : ℕ) (xs : List Open) → depth ≤ n →
    drop depth xs ≡ drop depth (take n xs) ++ drop n xs
drop_parts zero n xs h = sym (take-append-drop n xs)
drop_parts (suc depth) zero xs h = absurd (omega arith)
drop_parts (suc depth) (suc n) [] h = refl
drop_parts (suc depth) (suc n) (x ∷ xs) h = drop_parts depth n xs (omega arith)

ends-append : (at : ℕ) (outer inner : List Open) →
    ends_of at (outer ++ inner) ≡ ends_of at inner ++ ends_of at outer
ends-append at [] inner = sym (append-nil (ends_of at inner))
ends-append at (x ∷ outer) inner =
    ap (λ ends. ends ++ end_of at x ∷ []) (ends-append at outer inner)
    ∙ append_assoc (ends_of at inner) (ends_of at outer) (end_of at x ∷ [])

-- one more container is closed
pub one_end : (at depth n : ℕ) (xs : List Open) (tape : List Block) → depth ≤ n →
    (tape ++ ends_of at (drop n xs)) ++ ends_of at (drop depth (take n xs))
    ≡ tape ++ ends_of at (drop depth xs)
one_end at depth n xs tape h =
    append_assoc tape (ends_of at (drop n xs)) (ends_of at (drop depth (take n xs)))
    ∙ ap (λ ends. tape ++ ends) (sym (ap (ends_of at) (drop_parts depth n xs h)
    ∙ ends-append at (drop depth (take n xs)) (drop n xs)))

-- the innermost container decides if it is a quote or a footnote
pub quotes-push : (xs : List Open) (x : Open) →
    quotes_depth (xs ++ x ∷ []) ≡ (if is_quote x || is_footnote x then length xs + 1 else quotes_depth xs)
quotes-push [] x = refl
quotes-push (a ∷ xs) x = by (is_quote x || is_footnote x) (quotes-push xs x)
  where
    by : (is : Bool) → quotes_depth (xs ++ x ∷ []) ≡ (if is then length xs + 1 else quotes_depth xs) →
        (if quotes_depth (xs ++ x ∷ []) == 0 then (if is_quote a || is_footnote a then 1 else 0)
        else suc (quotes_depth (xs ++ x ∷ [])))
        ≡ (if is then length (a ∷ xs) + 1 else quotes_depth (a ∷ xs))
    by true more = rw more (grind arith)
    by false more = rw more refl

pub quotes-next : (xs : List Open) (i : ℕ) (d : Open) → i < length xs →
    quotes_depth (take (i + 1) xs)
    ≡ (if is_quote (get_or xs i d) || is_footnote (get_or xs i d) then i + 1
    else quotes_depth (take i xs))
quotes-next xs i d within =
    let x = get_or xs i d in
    let here : length (take i xs) ≡ i = length-take-le i xs (omega (arith, within)) in
    ap quotes_depth (take_more xs i d within) ∙ quotes-push (take i xs) x
    ∙ ap (λ n. if is_quote x || is_footnote x then n + 1 else quotes_depth (take i xs)) here
