-- What follows from here follows from the beginning, and the other way round.
use Rattle.std.proofs.Common.{ℕ, List, ◌≤◌, ◌+◌, ◌*◌, length}
use Rattle.md_reader.specs.Allowed.{content_of}
use Rattle.md_reader.specs.Tests.{test_of}
use Rattle.md_reader.specs.Levels.{IsEnd, IsLevel}
use Rattle.md_reader.proofs.nodes.+nodes.Given as goal

abbrev pub decreases-past_nodes : goal.decreases-past_nodes
decreases-past_nodes l = 4 * l.depth + 3

abbrev pub decreases-past_node : goal.decreases-past_node
decreases-past_node l = 4 * l.depth + 2

abbrev pub decreases-past_tag : goal.decreases-past_tag
decreases-past_tag l = 4 * l.depth + 1

abbrev pub decreases-past_element : goal.decreases-past_element
decreases-past_element l = 4 * l.depth

abbrev pub invariant-past_nodes-nodes : goal.invariant-past_nodes-nodes
invariant-past_nodes-nodes l =
    ((end : List ℕ) → IsLevel (test_of l.rules) (content_of l.content) l.depth l.rest end
    → IsLevel (test_of l.rules) (content_of l.content) l.depth l.text end)
    × ((end : List ℕ) → IsEnd end
    → IsLevel (test_of l.rules) (content_of l.content) l.depth l.text end
    → IsLevel (test_of l.rules) (content_of l.content) l.depth l.rest end)
    × (length l.rest ≤ length l.text)

abbrev pub decreases-past_nodes-nodes : goal.decreases-past_nodes-nodes
decreases-past_nodes-nodes l = length l.rest
