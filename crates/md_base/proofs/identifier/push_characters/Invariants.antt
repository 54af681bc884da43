-- What is written so far.
use Rattle.std.proofs.Common.{◌≡◌, ◌++◌, take, string_bytes, encode_utf8_all}
use Rattle.md_base.proofs.identifier.push_characters.Given as goal

abbrev pub invariant-loop-character : goal.invariant-loop-character
invariant-loop-character l = string_bytes l.text
    ≡ string_bytes l.initial.text ++ encode_utf8_all (take l.character-index l.characters)
