-- The script of generated documents: sessions take turns in adding them, and then the first session refreshes, commits
-- and searches.
use Rattle.std.specs.Prelude.{◌==◌, ◌+◌, ◌%◌, ◌++◌, ℕ, if◌then◌else◌, true, false, List, [], ◌∷◌, codes, map, None}
use Rattle.std.specs.Fmt.{decimal}
use Rattle.std.specs.List.{range_with_len}
use Rattle.facet_model.specs.Asks.{Asked, top}
use Rattle.facet_model.specs.Documents.{Doc}
use Rattle.facet_model.specs.Flags.{no_flags}
use Rattle.facet_model.specs.Queries.{term}
use Rattle.facet_words.specs.Commands.{Settings, Search, Order, Script, add, refresh, commit, stats, search}

-- ---- the settings

-- Dates are hierarchical, and tags are multi-valued. Shelves need no declaration.
abbrev pub generated_settings : Settings
generated_settings = record {
  config = (codes "Date", record no_flags { hierarchical = true })
      ∷ (codes "Tag", record no_flags { multi_valued = true }) ∷ [];
  max_docs = 1000000;
  max_labels = 1000000;
  stripes = 16;
  cache = 4096;
  auto_merge = false;
}

-- ---- the documents, by their numbers from 0

-- its text says whether the number is even
abbrev pub generated_text : ℕ → List ℕ
generated_text i = if i % 2 == 0 then codes "item even" else codes "item odd"

-- one of ten shelves
abbrev pub shelf_of : ℕ → List (List ℕ)
shelf_of i = codes "Shelf" ∷ (codes "s" ++ decimal (i % 10)) ∷ []

-- one of four years, and of three months of it
abbrev pub date_of : ℕ → List (List ℕ)
date_of i = codes "Date" ∷ decimal (2000 + i % 4) ∷ decimal (1 + i % 3) ∷ []

-- one of two tags
abbrev pub first_tag_of : ℕ → List (List ℕ)
first_tag_of i = codes "Tag" ∷ (codes "t" ++ decimal (i % 2)) ∷ []

-- and one of five others
abbrev pub second_tag_of : ℕ → List (List ℕ)
second_tag_of i = codes "Tag" ∷ (codes "u" ++ decimal (i % 5)) ∷ []

unfoldable pub generated_labels : ℕ → List (List (List ℕ))
generated_labels i = shelf_of i ∷ date_of i ∷ first_tag_of i ∷ second_tag_of i ∷ []

unfoldable pub generated_doc : ℕ → Doc
generated_doc i = record { id = codes "g" ++ decimal i; text = generated_text i; labels = generated_labels i }

-- ---- the commands

-- The sessions take turns in adding the documents. The first document is on the second line, after the settings.
unfoldable pub add_order : ℕ → ℕ → Order
add_order sessions i = record { session = 1 + i % sessions; line = 2 + i; command = add (generated_doc i) }

-- the first ten children of a dimension
abbrev pub first_ten : List ℕ → Asked
first_ten dim = top (dim ∷ []) 10

-- the even documents of the year 2000, with the children of the three dimensions as if the drill did not name them
abbrev pub generated_search : Search
generated_search = record {
  query = term (codes "even");
  drill = (codes "Date" ∷ codes "2000" ∷ []) ∷ [];
  sideways = true;
  asks = first_ten (codes "Shelf") ∷ first_ten (codes "Date") ∷ first_ten (codes "Tag") ∷ [];
  newest = false;
  show = false;
  from = 0;
  hits = 10;
}

-- the last commands of the first session, from this line on
unfoldable pub closing_orders : ℕ → List Order
closing_orders line =
    record { session = 1; line = line; command = refresh }
    ∷ record { session = 1; line = line + 1; command = commit }
    ∷ record { session = 1; line = line + 2; command = stats None }
    ∷ record { session = 1; line = line + 3; command = search None generated_search }
    ∷ []

-- The adds of so many documents by so many sessions, and then, after the line of a phase, the last commands of the
-- first session.
unfoldable pub generated_phases : ℕ → ℕ → List (List Order)
generated_phases documents sessions =
    map (add_order sessions) (range_with_len 0 documents) ∷ closing_orders (documents + 3) ∷ []

abbrev pub generated : ℕ → ℕ → Script
generated documents sessions = record { settings = generated_settings; phases = generated_phases documents sessions }
