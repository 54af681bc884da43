-- Tree construction's dispatcher (HTML Standard, 13.2.6): the action for each token, and for tokens
-- in sequence.
use Rattle.std.specs.Prelude.{ℕ, false, ◌&&◌, ◌==◌, if◌then◌else◌, List, [], ◌∷◌, ◌++◌, Option}
use Rattle.std.specs.Prelude.{Some, None, option_and_then}
use Rattle.md_safe.specs.Token.{Token, Character, StartTag, EndTag, TokenAttribute}
use Rattle.md_safe.specs.Node.{Mode, Initial, BeforeHtml, BeforeHead, InHead, InText, AfterHead}
use Rattle.md_safe.specs.Node.{InBody, InTable, InTableBody, InRow, InCell, InTableText, AfterBody}
use Rattle.md_safe.specs.Node.{AfterAfterBody, Parser}
use Rattle.md_safe.specs.InBody.{start_in_body, end_in_body, character_in_body}
use Rattle.md_safe.specs.AroundBody.{start_before_html, start_before_head, start_in_head}
use Rattle.md_safe.specs.AroundBody.{start_after_head, start_after_body, end_before_html}
use Rattle.md_safe.specs.AroundBody.{end_before_head, end_in_head, end_in_text, end_after_head}
use Rattle.md_safe.specs.AroundBody.{end_after_body, end_after_after_body, character_in_initial}
use Rattle.md_safe.specs.AroundBody.{character_before_html, character_before_head}
use Rattle.md_safe.specs.AroundBody.{character_in_head, character_in_text, character_after_head}
use Rattle.md_safe.specs.AroundBody.{character_after_body}
use Rattle.md_safe.specs.InTable.{start_in_table, end_in_table, start_in_table_body}
use Rattle.md_safe.specs.InTable.{end_in_table_body, start_in_row, end_in_row, start_in_cell}
use Rattle.md_safe.specs.InTable.{end_in_cell, character_in_table, end_table_text}

abbrev pub start : Mode → List ℕ → List TokenAttribute → Parser → Option Parser
start Initial name attributes parser = start_before_html name attributes parser
start BeforeHtml name attributes parser = start_before_html name attributes parser
start BeforeHead name attributes parser = start_before_head name attributes parser
start InHead name attributes parser = start_in_head name attributes parser
start (InText mode) name attributes parser = None
start AfterHead name attributes parser = start_after_head name attributes parser
start InBody name attributes parser = start_in_body name attributes parser
start InTable name attributes parser = start_in_table name attributes parser
start InTableBody name attributes parser = start_in_table_body name attributes parser
start InRow name attributes parser = start_in_row name attributes parser
start InCell name attributes parser = start_in_cell name attributes parser
start (InTableText mode) name attributes parser = None
start AfterBody name attributes parser = start_after_body name attributes parser
start AfterAfterBody name attributes parser = start_after_body name attributes parser

abbrev pub end : Mode → List ℕ → Parser → Option Parser
end Initial name parser = end_before_html name (record parser { mode = BeforeHtml })
end BeforeHtml name parser = end_before_html name parser
end BeforeHead name parser = end_before_head name parser
end InHead name parser = end_in_head name parser
end (InText mode) name parser = end_in_text mode parser
end AfterHead name parser = end_after_head name parser
end InBody name parser = end_in_body name parser
end InTable name parser = end_in_table name parser
end InTableBody name parser = end_in_table_body name parser
end InRow name parser = end_in_row name parser
end InCell name parser = end_in_cell name parser
end (InTableText mode) name parser = None
end AfterBody name parser = end_after_body name parser
end AfterAfterBody name parser = end_after_after_body name parser

abbrev pub character : Mode → ℕ → Parser → Option Parser
character Initial byte parser = character_in_initial byte parser
character BeforeHtml byte parser = character_before_html byte parser
character BeforeHead byte parser = character_before_head byte parser
character InHead byte parser = character_in_head byte parser
character (InText mode) byte parser = character_in_text byte parser
character AfterHead byte parser = character_after_head byte parser
character InBody byte parser = character_in_body byte parser
character InTable byte parser = character_in_table byte parser
character InTableBody byte parser = character_in_table byte parser
character InRow byte parser = character_in_table byte parser
character InCell byte parser = character_in_body byte parser
character (InTableText mode) byte parser =
    Some (record parser { pending = parser.pending ++ (byte ∷ []) })
character AfterBody byte parser = character_after_body byte parser
character AfterAfterBody byte parser = character_after_body byte parser

-- a tag, after the characters of a table that were pending
abbrev pub after_table_text : Parser → (Parser → Option Parser) → Option Parser
after_table_text parser tag = elim parser.mode [
  | InTableText mode ↦ option_and_then tag (end_table_text mode parser)
  | _ ↦ tag parser
]

-- none for a NUL; doctypes and the end of file are for documents alone (`Page`)
abbrev pub step : Parser → Token → Option Parser
step parser (Character byte) = if byte == 0 then None else (if parser.skips_line_feed && byte == 10
    then Some (record parser { skips_line_feed = false })
    else character parser.mode byte (record parser { skips_line_feed = false }))
step parser (StartTag name attributes flag) =
    after_table_text (record parser { skips_line_feed = false })
    (λ parser. start parser.mode name attributes parser)
step parser (EndTag name) = after_table_text (record parser { skips_line_feed = false })
    (λ parser. end parser.mode name parser)
step parser _ = None

-- tokens in sequence
abbrev pub run : Parser → List Token → Option Parser
run parser [] = Some parser
run parser (token ∷ tokens) = option_and_then (λ next. run next tokens) (step parser token)
