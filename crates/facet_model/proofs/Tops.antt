-- A result made of the children's listing.
use Rattle.std.proofs.Common.{◌≡◌, ℕ, ◌<◌, List, [], ◌∷◌, ◌++◌, length, take, Some, None, refl, subst, arith}
use Rattle.std.specs.Prelude.{count_by, ℤ}
use Rattle.std.specs.Str.{bytes_eq}
use Rattle.facet_model.specs.Documents.{Doc, count, dim_of}
use Rattle.facet_model.specs.Flags.{Config, flags}
use Rattle.facet_model.specs.Listing.{PartCount, IsListing}
use Rattle.facet_model.specs.Results.{AreChildren, listed, value_of}

pub children_are : (docs : List Doc) (path : List (List ℕ)) (parts : List (List ℕ)) (all : List PartCount) → ((q : List ℕ) → count_by (bytes_eq q) parts ≡ count docs (path ++ q ∷ []))
    → IsListing (λ q. count_by (bytes_eq q) parts) all → AreChildren docs path all
children_are docs path parts all each listing = subst (λ (f : List ℕ → ℕ). IsListing f all) (λ i q. each q i) listing

pub none_is : (config : Config) (docs : List Doc) (path : List (List ℕ)) (n : ℕ) (all : List PartCount) → length all ≡ 0 → None ≡ listed config docs path n all
none_is config docs path n [] e = refl
none_is config docs path n (c ∷ cs) e = absurd (omega arith)

pub some_is : (config : Config) (docs : List Doc) (path own : List (List ℕ)) (n : ℕ) (all cut : List PartCount) (value : ℤ) (len : ℕ) → 0 < length all → own ≡ path → value ≡ value_of (flags config (dim_of path)) (count docs path) all → cut ≡ take n all → len ≡ length all
    → Some (record { path = own; value = value; children = cut; child_count = len }) ≡ listed config docs path n all
some_is config docs path own n [] cut value len some path_is value_is cut_is len_is = absurd (omega arith)
some_is config docs path own n (c ∷ cs) cut value len some path_is value_is cut_is len_is = λ i. Some (record { path = path_is i; value = value_is i; children = cut_is i; child_count = len_is i })
