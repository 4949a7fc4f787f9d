-- What holds of a verifier between documents.
use Rattle.std.specs.Prelude.{◌≡◌, ◌≤◌, ℕ, List, length}
use Rattle.std.specs.List.{AllByRecursion}
use Rattle.facet_model.specs.Flags.{Config}
use Rattle.seg_terms.specs.Noting.{Table}
use Rattle.seg_decoding.specs.Facts.{AreFacts}
use Rattle.seg_decoding.specs.declared.verifying.Verifier.{Verifier}

-- What is kept of each label that was met is its own, and each term has its number of passed places.
pub record IsReady (config : Config) (known : List (List (List ℕ))) (needs : ℕ) (terms : Table)
    (v : Verifier) : Type 0 where
  pub places : needs ≤ length v.met.places.items
  pub met : AllByRecursion (AreFacts config known needs terms) v.met.facts.items
  pub size : length v.walk.next.items ≡ length terms
