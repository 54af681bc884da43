-- The numbers that C reads in an answer about Markdown, in addition to those of `md_abi`.
use Rattle.std.specs.Prelude.{ℕ}

-- the version of the options' layout and of these numbers
abbrev pub markdown_version : ℕ
markdown_version = 4

-- the document exceeds its limit in bytes
abbrev pub input_too_long : ℕ
input_too_long = 32

-- the text exceeds its limit in bytes
abbrev pub output_too_long : ℕ
output_too_long = 33

-- the document isn't UTF-8
abbrev pub not_utf8 : ℕ
not_utf8 = 34

-- the options have another version
abbrev pub no_version : ℕ
no_version = 35

-- the work exceeds its limit
abbrev pub too_much_work : ℕ
too_much_work = 37
