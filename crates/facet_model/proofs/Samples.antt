-- Two documents of worked examples, each with its author as its one label.
use Rattle.std.specs.Prelude.{ℕ, List, [], ◌∷◌, codes}
use Rattle.facet_model.specs.Documents.{Doc}

abbrev pub author : List ℕ → List (List ℕ)
author name = codes "Author" ∷ name ∷ []

abbrev pub doc : List ℕ → List (List (List ℕ)) → Doc
doc id labels = record { id = id; text = []; labels = labels }

abbrev pub bob : Doc
bob = doc (codes "b1") (author (codes "Bob") ∷ [])

abbrev pub lisa : Doc
lisa = doc (codes "b2") (author (codes "Lisa") ∷ [])
