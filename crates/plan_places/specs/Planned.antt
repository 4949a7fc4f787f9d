-- What a node of a plan represents.
use Rattle.std.specs.Prelude.{ℕ, ◌+◌, Bool, true, not, ◌&&◌, List, [], ◌∷◌}
use Rattle.std.specs.List.{filter}
use Rattle.seg_postings.specs.Rising.{is_in, from_place}
use Rattle.seg_postings.specs.Sets.{either}

-- the places left, and how many nodes it consists of
pub record Planned : Type 0 where
  pub left : List ℕ
  pub nodes : ℕ

-- how many nodes they consist of together
abbrev pub all_nodes : List Planned → ℕ
all_nodes [] = 0
all_nodes (p ∷ ps) = p.nodes + all_nodes ps

-- the node with all places below p passed
abbrev pub moved_to : ℕ → Planned → Planned
moved_to p node = record { left = from_place p node.left; nodes = node.nodes }

-- the places that any of the nodes has
abbrev pub any_of : List Planned → List ℕ
any_of [] = []
any_of (p ∷ ps) = either p.left (any_of ps)

-- each of the nodes has the place
abbrev pub all_have : ℕ → List Planned → Bool
all_have n [] = true
all_have n (p ∷ ps) = is_in n p.left && all_have n ps

-- each of the first nodes has the place, and none of the second
abbrev pub is_chosen : List Planned → List Planned → ℕ → Bool
is_chosen others excluded n = all_have n others && not (is_in n (any_of excluded))

-- the places of the first node that the others choose
unfoldable pub chosen_of : Planned → List Planned → List Planned → List ℕ
chosen_of lead others excluded = filter (is_chosen others excluded) lead.left
