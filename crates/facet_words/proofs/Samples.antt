-- Values of the commands `ranges`, `sums` and `search`, and some that have another form.
use Rattle.std.proofs.Common.{◌≡◌, ℕ, Bool, ℤ, pos, neg_ℤ, true, false, List, [], ◌∷◌, ◌++◌, Option, Some, None, refl, codes}
use Rattle.std.specs.Prelude.{option_and_then}
use Rattle.serde_json.specs.Read.{read}
use Rattle.serde_json.proofs.OnLiterals.{serde_json_on_literals}
use Rattle.facet_model.specs.Queries.{all, term}
use Rattle.number_facets.specs.Values.{Range}
use Rattle.facet_words.specs.Commands.{Command, ranges, search, sums}
use Rattle.facet_words.specs.CommandLines.{counted_with, range_of, search_with, heading_of, search_of, ranges_of, sums_of, command_named, command_of}
use Rattle.facet_words.specs.Queries.{query_of, query_within, all_query, term_query}
use Rattle.facet_words.specs.Shapes.{path}

-- ---- ranges

-- what a text says, and what it says where the least number is written so
abbrev range : List ℕ → Option Range
range text = option_and_then range_of (read text)

abbrev from : List ℕ → Option Range
from min = range (codes "{\"name\":\"a\",\"min\":" ++ min ++ codes ",\"max\":7}")

abbrev starts : ℤ → Option Range
starts min = Some (record { name = codes "a"; min = min; max = pos 7; min_open = false; max_open = false })

zero_is : from (codes "0") ≡ starts (pos 0)
unfolding range_of serde_json_on_literals
zero_is = refl

below_zero : from (codes "-1") ≡ starts (neg_ℤ (pos 1))
unfolding range_of serde_json_on_literals
below_zero = refl

above_the_greatest : from (codes "8") ≡ starts (pos 8)
unfolding range_of serde_json_on_literals
above_the_greatest = refl

greatest : from (codes "9223372036854775807") ≡ starts (pos 9223372036854775807)
unfolding range_of serde_json_on_literals
greatest = refl

least : from (codes "-9223372036854775808") ≡ starts (neg_ℤ (pos 9223372036854775808))
unfolding range_of serde_json_on_literals
least = refl

too_great : from (codes "9223372036854775808") ≡ None
unfolding range_of serde_json_on_literals
too_great = refl

too_small : from (codes "-9223372036854775809") ≡ None
unfolding range_of serde_json_on_literals
too_small = refl

minus_zero : from (codes "-0") ≡ None
unfolding range_of serde_json_on_literals
minus_zero = refl

point : from (codes "1.0") ≡ None
unfolding range_of serde_json_on_literals
point = refl

exponent : from (codes "1e3") ≡ None
unfolding range_of serde_json_on_literals
exponent = refl

text : from (codes "\"1\"") ≡ None
unfolding range_of serde_json_on_literals
text = refl

nothing : from (codes "null") ≡ None
unfolding range_of serde_json_on_literals
nothing = refl

open_ends : range (codes "{\"max_open\":true,\"max\":2,\"min_open\":true,\"min\":1,\"name\":\"b\"}") ≡ Some (record { name = codes "b"; min = pos 1; max = pos 2; min_open = true; max_open = true })
unfolding range_of serde_json_on_literals
open_ends = refl

no_name : range (codes "{\"name\":\"\",\"min\":0,\"max\":1}") ≡ None
unfolding range_of serde_json_on_literals
no_name = refl

no_end : range (codes "{\"name\":\"a\",\"min\":0}") ≡ None
unfolding range_of serde_json_on_literals
no_end = refl

other_key : range (codes "{\"name\":\"a\",\"min\":0,\"max\":1,\"n\":1}") ≡ None
unfolding range_of serde_json_on_literals
other_key = refl

-- ---- commands

abbrev command : List ℕ → Option (ℕ × Command)
command text = option_and_then command_of (read text)

prices : command (codes "{\"s\":1,\"cmd\":\"ranges\",\"dim\":\"price\",\"ranges\":[{\"name\":\"low\",\"min\":0,\"max\":10},{\"name\":\"mid\",\"min\":10,\"max\":20,\"min_open\":true}]}")
    ≡ Some (1, ranges None (record { query = all; drill = []; dim = codes "price" }) (record { name = codes "low"; min = pos 0; max = pos 10; min_open = false; max_open = false } ∷ record { name = codes "mid"; min = pos 10; max = pos 20; min_open = true; max_open = false } ∷ []))
unfolding range_of counted_with heading_of ranges_of command_named command_of serde_json_on_literals
prices = refl

genres : command (codes "{\"s\":2,\"cmd\":\"sums\",\"on\":\"a\",\"query\":{\"term\":\"x\"},\"drill\":[[\"A\",\"b\"]],\"dim\":\"genre\",\"n\":0}")
    ≡ Some (2, sums (Some (codes "a")) (record { query = term (codes "x"); drill = (codes "A" ∷ codes "b" ∷ []) ∷ []; dim = codes "genre" }) 0)
unfolding counted_with heading_of sums_of command_named command_of query_of query_within all_query term_query path serde_json_on_literals
genres = refl

no_ranges : command (codes "{\"s\":1,\"cmd\":\"ranges\",\"dim\":\"price\",\"ranges\":[]}") ≡ None
unfolding counted_with heading_of ranges_of command_named command_of serde_json_on_literals
no_ranges = refl

no_dim : command (codes "{\"s\":1,\"cmd\":\"sums\",\"dim\":\"\",\"n\":1}") ≡ None
unfolding counted_with heading_of sums_of command_named command_of serde_json_on_literals
no_dim = refl

no_number : command (codes "{\"s\":1,\"cmd\":\"sums\",\"dim\":\"genre\"}") ≡ None
unfolding counted_with heading_of sums_of command_named command_of serde_json_on_literals
no_number = refl

sideways_too : command (codes "{\"s\":1,\"cmd\":\"sums\",\"dim\":\"genre\",\"n\":1,\"sideways\":true}") ≡ None
unfolding counted_with heading_of sums_of command_named command_of serde_json_on_literals
sideways_too = refl

-- ---- the hits of a search

abbrev listing : Bool → Bool → ℕ → Option (ℕ × Command)
listing newest show hits = Some (1, search None (record { query = all; drill = []; sideways = false; asks = []; newest = newest; show = show; from = 0; hits = hits }))

last_shown : command (codes "{\"s\":1,\"cmd\":\"search\",\"newest\":true,\"show\":true,\"hits\":1000}") ≡ listing true true 1000
unfolding search_with heading_of search_of command_named command_of serde_json_on_literals
last_shown = refl

neither : command (codes "{\"s\":1,\"cmd\":\"search\",\"newest\":false,\"show\":false,\"hits\":1000000}") ≡ listing false false 1000000
unfolding search_with heading_of search_of command_named command_of serde_json_on_literals
neither = refl

ten_last : command (codes "{\"s\":1,\"cmd\":\"search\",\"newest\":true}") ≡ listing true false 10
unfolding search_with heading_of search_of command_named command_of serde_json_on_literals
ten_last = refl

too_many_shown : command (codes "{\"s\":1,\"cmd\":\"search\",\"show\":true,\"hits\":1001}") ≡ None
unfolding search_with heading_of search_of command_named command_of serde_json_on_literals
too_many_shown = refl

no_flag : command (codes "{\"s\":1,\"cmd\":\"search\",\"newest\":1}") ≡ None
unfolding search_with heading_of search_of command_named command_of serde_json_on_literals
no_flag = refl
