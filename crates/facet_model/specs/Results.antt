-- The results of counting.
use Rattle.std.specs.Prelude.{◌≡◌, ◌==◌, ◌++◌, ℕ, ℤ, pos, negsuc, if◌then◌else◌, not, List, [], ◌∷◌, length, take}
use Rattle.std.specs.Prelude.{filter, sum_by, Option, Some, None, option_to_list}
use Rattle.std.specs.List.Sorted.{IsSorted}
use Rattle.std.specs.declared.cmp.Ordering.{Ordering}
use Rattle.std.specs.Ordering.{int_cmp, on, flip_args, then_cmp}
use Rattle.facet_names.specs.Paths.{path_eq, path_cmp}
use Rattle.facet_model.specs.declared.flags.DimFlags.{DimFlags}
use Rattle.facet_model.specs.Flags.{Config, flags}
use Rattle.facet_model.specs.Documents.{Doc, dim_of, count}
use Rattle.facet_model.specs.Listing.{PartCount, IsListing}
use Rattle.facet_model.specs.Asks.{Asked, top, one_value, all_dims}

pub record Listed : Type 0 where
  pub path : List (List ℕ)
  pub value : ℤ
  pub children : List PartCount
  pub child_count : ℕ

-- the children of a path with their counts, all of them, in the order of a listing
abbrev pub AreChildren : List Doc → List (List ℕ) → List PartCount → Type 0
AreChildren docs path all = IsListing (λ part. count docs (path ++ part ∷ [])) all

-- The sum of the children's counts if the dimension is not multi-valued. Otherwise the count of the path if it is
-- required, and -1 if not.
abbrev pub value_of : DimFlags → ℕ → List PartCount → ℤ
value_of f of_path all =
    if not f.multi_valued then pos (sum_by (λ c. c.1) all) else (if f.require_dim_count then pos of_path else negsuc 0)

-- the result with these children; none without a child
abbrev pub listed : Config → List Doc → List (List ℕ) → ℕ → List PartCount → Option Listed
listed config docs path n [] = None
listed config docs path n (c ∷ cs) = Some (record {
  path = path;
  value = value_of (flags config (dim_of path)) (count docs path) (c ∷ cs);
  children = take n (c ∷ cs);
  child_count = length (c ∷ cs);
})

-- the n greatest children of a path
abbrev pub IsTop : Config → List Doc → List (List ℕ) → ℕ → Option Listed → Type 0
IsTop config docs path n r = (all : List PartCount) × AreChildren docs path all × (r ≡ listed config docs path n all)

-- -1 if no document of the snapshot has the path, and otherwise the number of the filtered ones that have it
abbrev pub specific : List Doc → List Doc → List (List ℕ) → ℤ
specific snapshot docs path = if count snapshot path == 0 then negsuc 0 else pos (count docs path)

-- by falling values, ties by the rising bytes of the dimensions
abbrev pub dims_cmp : Listed → Listed → Ordering
dims_cmp = then_cmp (flip_args (on (λ r. r.value) int_cmp)) (on (λ r. r.path) path_cmp)

-- The results of all dimensions that have one, each over its own documents.
pub record AreAllDims (config : Config) (docs_of : List ℕ → List Doc) (n : ℕ) (results : List Listed) : Type 0 where
  pub each : (dim : List ℕ) → (r : Option Listed) × IsTop config (docs_of dim) (dim ∷ []) n r
      × (filter (λ x. path_eq x.path (dim ∷ [])) results ≡ option_to_list r)
  pub alone : filter (λ x. not (length x.path == 1)) results ≡ []
  pub ordered : IsSorted dims_cmp results

-- the answer to an ask
pub data Answer : Type 0 where
  top_answer : Option Listed → Answer
  value_answer : List (List ℕ) → ℤ → Answer
  dims_answer : List Listed → Answer

-- The answer to an ask, if each dimension is counted over its own documents of the snapshot.
abbrev pub IsAnswer : Config → List Doc → (List ℕ → List Doc) → Asked → Answer → Type 0
IsAnswer config snapshot docs_of (top path n) a = (r : Option Listed) × IsTop config (docs_of (dim_of path)) path n r
    × (a ≡ top_answer r)
IsAnswer config snapshot docs_of (one_value path) a = a
    ≡ value_answer path (specific snapshot (docs_of (dim_of path)) path)
IsAnswer config snapshot docs_of (all_dims n) a = (rs : List Listed) × AreAllDims config docs_of n rs
    × (a ≡ dims_answer rs)
