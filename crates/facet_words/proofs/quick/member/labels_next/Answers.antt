use Rattle.std.proofs.Common.{rules, refl, arith}
use Rattle.json.specs.Json.{array}
use Rattle.serde_json.specs.Data.{array as array_data}
use Rattle.facet_words.specs.Quick.{written_lists, list_items}
use Rattle.facet_words.proofs.QuickMembers.{facets_found}
use Rattle.facet_words.proofs.QuickTexts.{lists_are, lists_are_shallow}
use Rattle.facet_words.proofs.quick.member.labels_next.Goals as goal

pub returns : goal.returns
returns c =
    let ls = c.in-Some.facets.items in
    let shallow = lists_are_shallow ls in
    λ _. (array (written_lists ls), array_data (list_items ls), search rules, rw (lists_are ls) refl, omega arith, λ ms is. facets_found ms _ _ _ _ _ is ls (search rules))
