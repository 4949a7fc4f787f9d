-- The ranges of a session, of their parts.
use Rattle.std.proofs.Common.{◌≡◌, ℕ, List, [], ◌∷◌, Option, Some}
use Rattle.std.specs.Prelude.{codes}
use Rattle.serde_json.specs.Data.{Data}
use Rattle.number_facets.specs.Values.{Range}
use Rattle.facet_words.specs.Commands.{Counted, Command, ranges}
use Rattle.facet_words.specs.CommandLines.{counted_with, on_of, range_of, ranges_of}
use Rattle.facet_words.specs.Shapes.{◌>>=◌, key, list_within}

abbrev pub ranges_made : Option (List ℕ) → Option Counted → Option (List Range) → Option Command
ranges_made on c rs = c >>= (λ c. rs >>= (λ rs. Some (ranges on c rs)))

pub ranges_read : (d : Data) (on : Option (List ℕ)) (c : Option Counted) (rs : Option (List Range)) → Some on ≡ on_of d
    → c ≡ counted_with (codes "cmd" ∷ codes "s" ∷ codes "on" ∷ codes "query" ∷ codes "drill" ∷ codes "dim" ∷ codes "ranges" ∷ []) d
    → rs ≡ key (codes "ranges") (list_within 1 64 range_of) d → ranges_made on c rs ≡ ranges_of d
unfolding ranges_of
ranges_read d on c rs e f g = λ i. e i >>= (λ on. ranges_made on (f i) (g i))
