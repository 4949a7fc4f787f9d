-- One node over its children.
use Rattle.std.specs.Prelude.{ℕ, ◌+◌, ◌-◌, List, ◌++◌}
use Rattle.std.specs.List.{range_with_len}
use Rattle.std.specs.Option.{option_to_list}
use Rattle.seg_postings.specs.Rising.{IsRising}
use Rattle.seg_postings.specs.Steps.{IsPeeked}
use Rattle.plan_places.specs.Planned.{Planned, all_nodes, any_of, chosen_of}
use Rattle.plan_places.specs.declared.range.Range.{Range}
use Rattle.plan_places.specs.declared.leaf.Leaf.{Leaf}
use Rattle.plan_places.specs.declared.listed.Listed.{Listed}
use Rattle.plan_places.specs.declared.conjunction.Conjunction.{Conjunction}
use Rattle.plan_places.specs.declared.node.Kind.{Kind}
use Rattle.plan_places.specs.declared.node.Kind.TheVariants as kinds

-- the places from the next on and below the end
abbrev pub range_left : Range → List ℕ
range_left r = range_with_len r.next (r.end - r.next)

-- the place that was read, and those after it
abbrev pub leaf_left : Leaf → List ℕ
leaf_left leaf = option_to_list leaf.head ++ leaf.cursor

-- the places of the list that are left
abbrev pub listed_left : Listed → List ℕ
listed_left l = l.places.now

-- the places of the lead that are chosen
abbrev pub conjunction_left : Conjunction → List ℕ
conjunction_left c = chosen_of c.lead.value c.others.items c.excluded.items

-- how many nodes the three parts have
abbrev pub conjunction_nodes : Conjunction → ℕ
conjunction_nodes c = c.lead.value.nodes + (all_nodes c.others.items + all_nodes c.excluded.items)

-- the places of a node, and one node more than its children have
abbrev pub planned : Kind → Planned
planned (kinds.Range r) = record { left = range_left r; nodes = 1 }
planned (kinds.Term leaf) = record { left = leaf_left leaf; nodes = 1 }
planned (kinds.Listed l) = record { left = listed_left l; nodes = 1 }
planned (kinds.Any children) = record { left = any_of children.items; nodes = 1 + all_nodes children.items }
planned (kinds.All c) = record { left = conjunction_left c; nodes = 1 + conjunction_nodes c }

-- The first place of a list is stored, and numbers rise.
abbrev pub IsPlanned : Kind → Type 0
IsPlanned (kinds.Range r) = Unit {0}
IsPlanned (kinds.Term leaf) = IsPeeked leaf.head leaf.cursor
IsPlanned (kinds.Listed l) = IsRising (listed_left l)
IsPlanned (kinds.Any children) = Unit {0}
IsPlanned (kinds.All c) = Unit {0}
