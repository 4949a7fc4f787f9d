-- The lines of three replies.
use Rattle.std.proofs.Common.{◌≡◌, ◌++◌, [], ◌∷◌, pos, negsuc, refl}
use Rattle.std.specs.Prelude.{codes, Some, None}
use Rattle.std.specs.Fmt.{digits}
use Rattle.serde_json.proofs.OnLiterals.{serde_json_on_literals}
use Rattle.facet_replies.specs.Replies.{found, ranged, summed}
use Rattle.facet_replies.specs.ReplyLines.{hit_data, json_line, reply_data, reply_line}

found_line : reply_line 1 6 (found (record {
  operations = 2;
  hit_count = 2;
  hits = record { at = 1; id = codes "b2"; content = Some (record { text = codes "go"; labels = (codes "Author" ∷ codes "Lisa" ∷ []) ∷ [] }) }
      ∷ record { at = 0; id = codes "b1"; content = None } ∷ [];
  answers = [];
}))
    ≡ codes "{\"hit_count\":2,\"hits\":[{\"at\":1,\"id\":\"b2\",\"labels\":[[\"Author\",\"Lisa\"]],\"text\":\"go\"},{\"at\":0,\"id\":\"b1\"}],\"line\":6,\"n\":2,\"results\":[],\"s\":1}" ++ 10 ∷ []
unfolding reply_line reply_data hit_data json_line digits serde_json_on_literals
found_line = refl

ranged_line : reply_line 1 6 (ranged (record { operations = 3; counts = (codes "low", 1) ∷ (codes "mid", 1) ∷ []; valued = 2 }))
    ≡ codes "{\"line\":6,\"n\":3,\"ranges\":[[\"low\",1],[\"mid\",1]],\"s\":1,\"valued\":2}" ++ 10 ∷ []
unfolding reply_line reply_data json_line digits serde_json_on_literals
ranged_line = refl

summed_line : reply_line 1 5 (summed (record { operations = 2; sums = (codes "a", pos 7) ∷ (codes "b", negsuc 0) ∷ [] }))
    ≡ codes "{\"line\":5,\"n\":2,\"s\":1,\"sums\":[[\"a\",7],[\"b\",-1]]}" ++ 10 ∷ []
unfolding reply_line reply_data json_line digits serde_json_on_literals
summed_line = refl
