-- The layout of the texts in memory: in sequence, with the pending heads in a list of their own. No
-- public contract cites this.
use Rattle.std.specs.Prelude.{◌≡◌, ℕ, Bool, true, false, not, ◌<◌, ◌≤◌, ◌⊎◌, ◌==◌, nat_lt}
use Rattle.std.specs.Prelude.{if◌then◌else◌, List, [], ◌∷◌, ◌++◌, length, take, drop}
use Rattle.std.specs.Str.{IsUtf8}
use Rattle.md_buffer.specs.declared.heads.Head.{Head}
use Rattle.md_buffer.specs.declared.output.Start.{Start}
use Rattle.md_buffer.specs.Texts.{Texts}

-- a head's text
abbrev pub text_of : List ℕ → Head → List ℕ
text_of heads head = drop head.from (take head.to heads)

-- the bytes from an offset, with the heads inserted
abbrev pub merged : List ℕ → List ℕ → ℕ → List Head → List ℕ
merged bytes heads from [] = drop from bytes
merged bytes heads from (head ∷ waiting) =
    drop from (take head.place bytes)
    ++ (text_of heads head ++ merged bytes heads head.place waiting)

-- the outer texts before a start, given the outer starts
abbrev pub before : List ℕ → List ℕ → List Head → Start → List Start → List (List ℕ)
before bytes heads waiting start [] = []
before bytes heads waiting start (outer ∷ others) =
    merged (take start.place bytes) (take start.heads heads) outer.place
    (drop outer.first (take start.first waiting)) ∷ before bytes heads waiting outer others

-- the texts of some bytes and heads
abbrev pub texts_of : List ℕ → List ℕ → List Head → Start → List Start → Texts
texts_of bytes heads waiting start outers = record {
  text = merged bytes heads start.place (drop start.first waiting);
  below = before bytes heads waiting start outers;
}

-- a head's text is valid UTF-8
pub record IsHead (heads : List ℕ) (head : Head) : Type 0 where
  pub ordered : head.from ≤ head.to
  pub within : head.to ≤ length heads
  pub from : IsUtf8 (take head.from heads)
  pub to : IsUtf8 (take head.to heads)

-- The heads' offsets between `from` and a limit, in order, each a character boundary; and only an
-- empty head may be at the limit.
abbrev pub Fit : List ℕ → List ℕ → ℕ → ℕ → List Head → Type 0
Fit bytes heads limit from [] = (from ≤ limit) × IsUtf8 (take from bytes)
Fit bytes heads limit from (head ∷ waiting) =
    (from ≤ head.place) × IsUtf8 (take from bytes) × IsHead heads head
    × ((head.from ≡ head.to) ⊎ (head.place < limit)) × Fit bytes heads limit head.place waiting

-- The same for each of the outer texts before a start; the texts of their heads precede those of
-- later ones.
abbrev pub AllFit : List ℕ → List ℕ → List Head → Start → List Start → Type 0
AllFit bytes heads waiting start [] = Unit {0}
AllFit bytes heads waiting start (outer ∷ others) =
    (outer.first ≤ start.first) × (outer.heads ≤ start.heads) × IsUtf8 (take outer.heads heads)
    × Fit bytes (take start.heads heads) start.place outer.place
    (drop outer.first (take start.first waiting)) × AllFit bytes heads waiting outer others

-- and for the innermost text
pub record IsSound (bytes heads : List ℕ) (waiting : List Head) (start : Start)
    (outers : List Start) : Type 0 where
  pub first : start.first ≤ length waiting
  pub within : start.heads ≤ length heads
  pub utf8 : IsUtf8 (take start.heads heads)
  pub text : Fit bytes heads (length bytes) start.place (drop start.first waiting)
  pub below : AllFit bytes heads waiting start outers

-- an empty head comes before all others
abbrev pub is_open : List Head → Bool
is_open [] = false
is_open (head ∷ waiting) = head.from == head.to

-- some heads without an empty one before all others
abbrev pub without_open : List Head → List Head
without_open [] = []
without_open (head ∷ waiting) = if head.from == head.to then waiting else head ∷ waiting

-- one of some heads is not empty, or there are several
abbrev pub waits : List Head → Bool
waits [] = false
waits (head ∷ []) = not (head.from == head.to)
waits (head ∷ next ∷ waiting) = true

-- the texts of heads, after the heads from an index are removed, whose texts start at an offset
abbrev pub texts_from : ℕ → ℕ → List Head → List ℕ → List ℕ
texts_from first place waiting heads =
    if nat_lt first (length waiting) then take place heads else heads
