-- A listing, and so a result, is determined by the documents.
use Rattle.std.specs.Prelude.{◌≡◌, ℕ, List, Option}
use Rattle.facet_model.specs.Documents.{Doc}
use Rattle.facet_model.specs.Flags.{Config}
use Rattle.facet_model.specs.Listing.{PartCount, IsListing}
use Rattle.facet_model.specs.Results.{Listed, IsTop}
use Rattle.facet_model.specs.ConfigTexts.{config_texts}

-- two listings of one count of components are equal
abbrev pub OneListing : Type 0
OneListing = (count_of : List ℕ → ℕ) (xs ys : List PartCount) → IsListing count_of xs → IsListing count_of ys → xs ≡ ys

-- two results of one path are equal
abbrev pub OneTop : Type 0
OneTop = (config : Config) (docs : List Doc) (path : List (List ℕ)) (n : ℕ) (r s : Option Listed)
    → IsTop config docs path n r → IsTop config docs path n s → r ≡ s

-- two configs of equal texts are equal
abbrev pub EqualTexts : Type 0
EqualTexts = (c d : Config) → config_texts c ≡ config_texts d → c ≡ d
