-- The tokenizer's input for a text (HTML Standard, https://html.spec.whatwg.org/, 13.2.3.5).
use Rattle.std.specs.Prelude.{ℕ, ◌==◌, Bool, false, if◌then◌else◌, List, [], ◌∷◌}

-- a text begins with a line feed
abbrev pub begins_with_line_feed : List ℕ → Bool
begins_with_line_feed [] = false
begins_with_line_feed (b ∷ rest) = b == 10

-- 13.2.3.5, newlines are normalized: CR LF becomes LF, and each other CR too (a CR goes before
-- LF, and else is LF)
abbrev pub with_line_feeds : List ℕ → List ℕ
with_line_feeds [] = []
with_line_feeds (b ∷ rest) = if b == 13
    then (if begins_with_line_feed rest then with_line_feeds rest else 10 ∷ with_line_feeds rest)
    else b ∷ with_line_feeds rest
