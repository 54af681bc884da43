-- The conditions that the lengths need on a document's nodes. Only proofs use it: each document of
-- the grammar fulfils them.
use Rattle.std.specs.Prelude.{◌≡◌, ◌≤◌}
use Rattle.md_base.specs.declared.event.Name.{Name}
use Rattle.md_base.specs.declared.event.Name.TheVariants.{Link, Image, HeadingAtx}
use Rattle.md_base.specs.declared.event.Point.{Point}
use Rattle.md_base.specs.Tree.{Forest}
use Rattle.md_content.specs.Built.{rank_in}
use Rattle.md_tree.specs.declared.mention.Referral.TheVariants.{Missing}
use Rattle.md_tree.specs.Rules.{target_of}

-- a link or an image has a target; a heading's rank has one digit
abbrev pub IsSound : Name → Point → Point → Forest → Type 0
IsSound Link start end children = target_of children Missing ≡ Missing → ⊥
IsSound Image start end children = target_of children Missing ≡ Missing → ⊥
IsSound HeadingAtx start end children = rank_in children ≤ 6
IsSound _ start end children = Unit {0}
