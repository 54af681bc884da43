-- Triples are ASCII.
use Rattle.std.proofs.Common.{arith, [], ◌∷◌}
use Rattle.std.proofs.lemmas.List.Elements.{All-from_recursion}
use Rattle.md_text.proofs.url.writing.push_four.Goals as goal
use Rattle.md_text.proofs.UrlLaws.{IsAsciiByte}

pub push_ascii-requires : goal.push_ascii-requires
push_ascii-requires c = All-from_recursion IsAsciiByte (37 ∷ c.hex_digit.result
    ∷ c.hex_digit-2.result ∷ 37 ∷ c.hex_digit-3.result ∷ c.hex_digit-4.result
    ∷ 37 ∷ c.hex_digit-5.result ∷ c.hex_digit-6.result ∷ 37 ∷ c.hex_digit-7.result
    ∷ c.hex_digit-8.result ∷ []) (omega arith)
