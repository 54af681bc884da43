-- The insertion modes of a document before its body and after it (HTML Standard, 13.2.6.4). For a
-- tag or a character without a rule in a mode, the mode creates or closes an element, and the next
-- mode handles the token. A rule that isn't written out here is for a tag that "in body", which
-- gets the token in the end, hasn't written out either.
use Rattle.std.specs.Prelude.{ℕ, if◌then◌else◌, List, [], ◌∷◌, Option, Some, bytes_eq, codes}
use Rattle.md_text.specs.Bytes.{is_one_of}
use Rattle.md_safe.specs.Token.{TokenAttribute}
use Rattle.md_safe.specs.Contents.{is_space}
use Rattle.md_safe.specs.Node.{Mode, BeforeHtml, BeforeHead, InHead, InText, AfterHead, InBody}
use Rattle.md_safe.specs.Node.{AfterAfterBody, Parser}
use Rattle.md_safe.specs.Stack.{popped, insert, say}
use Rattle.md_safe.specs.InBody.{insert_void, start_in_body, end_in_body, character_in_body}

-- inserts an element, and switches to this mode
abbrev pub enter : Mode → List ℕ → List TokenAttribute → Parser → Parser
enter mode name attributes parser = insert name attributes (record parser { mode = mode })

-- pops the current node, and switches to this mode
abbrev pub leave : Mode → Parser → Parser
leave mode parser = record parser { stack = popped parser.stack; mode = mode }

-- inserts a character at the current node
abbrev pub saying : ℕ → Parser → Parser
saying byte parser = record parser { stack = say byte parser.stack }

-- the action of these modes for a tag or a character without a rule
abbrev pub with_root : Parser → Parser
with_root parser = enter BeforeHead (codes "html") [] parser

abbrev pub with_head : Parser → Parser
with_head parser = enter InHead (codes "head") [] parser

abbrev pub without_head : Parser → Parser
without_head parser = leave AfterHead parser

abbrev pub with_body : Parser → Parser
with_body parser = enter InBody (codes "body") [] parser

-- ---- start tags

-- 13.2.6.4.6, "after head"
abbrev pub start_after_head : List ℕ → List TokenAttribute → Parser → Option Parser
start_after_head name attributes parser =
    if bytes_eq name (codes "body") then Some (enter InBody name attributes parser)
    else start_in_body name attributes (with_body parser)

-- 13.2.6.4.4, "in head": a title's text is RCDATA (13.2.6.2), and the mode is "text" until it ends
abbrev pub start_in_head : List ℕ → List TokenAttribute → Parser → Option Parser
start_in_head name attributes parser =
    if bytes_eq name (codes "meta") then Some (insert_void name attributes parser)
    else (if bytes_eq name (codes "title") then Some (enter (InText InHead) name attributes parser)
    else start_after_head name attributes (without_head parser))

-- 13.2.6.4.3, "before head"
abbrev pub start_before_head : List ℕ → List TokenAttribute → Parser → Option Parser
start_before_head name attributes parser = if bytes_eq name (codes "head")
    then Some (enter InHead name attributes parser)
    else start_in_head name attributes (with_head parser)

-- 13.2.6.4.2, "before html"
abbrev pub start_before_html : List ℕ → List TokenAttribute → Parser → Option Parser
start_before_html name attributes parser = if bytes_eq name (codes "html")
    then Some (enter BeforeHead name attributes parser)
    else start_before_head name attributes (with_root parser)

-- 13.2.6.4.19 and .22, "after body" and "after after body"
abbrev pub start_after_body : List ℕ → List TokenAttribute → Parser → Option Parser
start_after_body name attributes parser =
    start_in_body name attributes (record parser { mode = InBody })

-- ---- end tags

-- the end tags that these modes don't ignore
abbrev pub closing : List (List ℕ)
closing = codes "body" ∷ codes "html" ∷ codes "br" ∷ []

abbrev pub end_after_head : List ℕ → Parser → Option Parser
end_after_head name parser =
    if is_one_of closing name then end_in_body name (with_body parser) else Some parser

abbrev pub end_in_head : List ℕ → Parser → Option Parser
end_in_head name parser = if bytes_eq name (codes "head") then Some (without_head parser)
    else (if is_one_of closing name then end_after_head name (without_head parser) else Some parser)

-- 13.2.6.4.8, "text"
abbrev pub end_in_text : Mode → Parser → Option Parser
end_in_text original parser = Some (leave original parser)

abbrev pub end_before_head : List ℕ → Parser → Option Parser
end_before_head name parser =
    if is_one_of (codes "head" ∷ closing) name then end_in_head name (with_head parser)
    else Some parser

abbrev pub end_before_html : List ℕ → Parser → Option Parser
end_before_html name parser =
    if is_one_of (codes "head" ∷ closing) name then end_before_head name (with_root parser)
    else Some parser

abbrev pub end_after_after_body : List ℕ → Parser → Option Parser
end_after_after_body name parser = end_in_body name (record parser { mode = InBody })

abbrev pub end_after_body : List ℕ → Parser → Option Parser
end_after_body name parser = if bytes_eq name (codes "html")
    then Some (record parser { mode = AfterAfterBody }) else end_after_after_body name parser

-- ---- characters: white space is ignored up to the head, and goes into the root after it and into
-- the body at the end

abbrev pub character_after_head : ℕ → Parser → Option Parser
character_after_head byte parser =
    if is_space byte then Some (saying byte parser) else character_in_body byte (with_body parser)

abbrev pub character_in_head : ℕ → Parser → Option Parser
character_in_head byte parser =
    if is_space byte then Some (saying byte parser)
    else character_after_head byte (without_head parser)

abbrev pub character_in_text : ℕ → Parser → Option Parser
character_in_text byte parser = Some (saying byte parser)

abbrev pub character_before_head : ℕ → Parser → Option Parser
character_before_head byte parser =
    if is_space byte then Some parser else character_in_head byte (with_head parser)

abbrev pub character_before_html : ℕ → Parser → Option Parser
character_before_html byte parser =
    if is_space byte then Some parser else character_before_head byte (with_root parser)

-- 13.2.6.4.1, "initial"
abbrev pub character_in_initial : ℕ → Parser → Option Parser
character_in_initial byte parser =
    if is_space byte then Some parser
    else character_before_html byte (record parser { mode = BeforeHtml })

-- by the rules of "in body", so that it goes into the body, which is still the current node
abbrev pub character_after_body : ℕ → Parser → Option Parser
character_after_body byte parser =
    character_in_body byte (if is_space byte then parser else record parser { mode = InBody })
